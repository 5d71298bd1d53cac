use Rattle.std.proofs.Common.{refl, arith}
use Rattle.zr_world_lines.proofs.Cuts.{fits, listed_all, listed_next}
use Rattle.zr_world_lines.proofs.lines.list_each.Goals as goal

pub loop-size-init : goal.loop-size-init
loop-size-init c = (c.requires, refl)

pub split_at-requires : goal.split_at-requires
split_at-requires c = fits c.args.lengths.now c.loop-size.rest.now c.loop-size.size-index _ (omega arith) refl c.loop-size.invariant.0

pub loop-size-preserved : goal.loop-size-preserved
loop-size-preserved c =
    listed_next (λ x. x.now) c.args.lengths.now c.args.text.now c.args.others.items c.loop-size.size-index c.loop-size.all.items _ c.loop-size.rest.now _ _ _ (omega arith) refl
    c.loop-size.invariant c.in_ok-push.ensures.items c.split_at.ensures.front c.split_at.ensures.back

pub returns : goal.returns
returns c =
    listed_all (λ x. x.now) c.args.lengths.now c.args.text.now c.args.others.items c.loop-size.size-index c.loop-size.all.items c.loop-size.rest.now (omega arith) c.loop-size.invariant
