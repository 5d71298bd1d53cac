use Rattle.std.proofs.Common.{arith}
use Rattle.std.specs.Prelude.{Bool}
use Rattle.zr_world_spec.specs.Moments.{Numbered}
use Rattle.zr_guarantee.specs.Broker.{attached_by}
use Rattle.zr_tests_judge.proofs.Loops.{folded_more, folded_all}
use Rattle.zr_tests_judge.proofs.broker.is_attached.Goals as goal

pub loop-x-preserved : goal.loop-x-preserved
loop-x-preserved c =
    folded_more (λ (so_far : Bool) (x : Numbered). attached_by c.args.name.now so_far x.1) c.args.acts.now c.loop-x.x-index c.x-item.result c.loop-x-test.true c.x-item.is c.loop-x.so_far c.attached_by-so_far.result _ c.attached_by-so_far.ensures c.loop-x.invariant

pub returns : goal.returns
returns c = folded_all (λ (so_far : Bool) (x : Numbered). attached_by c.args.name.now so_far x.1) c.args.acts.now c.loop-x.x-index (omega arith) c.loop-x.so_far _ c.loop-x.invariant
