use Rattle.std.proofs.Common.{ap, ◌∙◌}
use Rattle.std.specs.List.{list_any}
use Rattle.zr_told_spec.specs.Rows.{map_on}
use Rattle.zr_told.proofs.Alike.{alike_told}
use Rattle.zr_told.proofs.told.Told.interest.Goals as goal

pub returns : goal.returns
returns c =
    alike_told _ _ (λ test. ap (list_any test) c.deref.ensures.value ∙ c.in_ok-others.ensures test) c.args.current c.args.future c.args.interests.now c.args.interest.now
    (map_on c.args.self.now c.args.link.0) c.args.link (λ k. map_on c.args.self.now k) c.interest_among.result c.args.self.now c.interest_among.new.self c.args.out.now.items c.interest_among.new.out.items c.interest_among.ensures
