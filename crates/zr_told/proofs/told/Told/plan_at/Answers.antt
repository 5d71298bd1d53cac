use Rattle.std.proofs.Common.{subst, sym}
use Rattle.zr_told_spec.specs.Rows.{IsAsWantedBut, others}
use Rattle.zr_told.proofs.Links.{book_on}
use Rattle.zr_told.proofs.told.Told.plan_at.Goals as goal

pub plan_at-requires : goal.plan_at-requires
plan_at-requires c =
    subst (λ z. IsAsWantedBut c.args.places.now (others c.args.tables.now c.args.client.now.link.0) c.args.client.now.interests z) (sym (book_on _ _ c.args.client.now.link.0 _ c.in-Some.ensures.value c.self.view_is)) c.requires
