use Rattle.std.proofs.Common.{List, arith}
use Rattle.zr_world_spec.specs.Moments.{Numbered}
use Rattle.zr_guarantee.specs.Broker.{Standing, standing_by}
use Rattle.zr_tests_judge.proofs.Loops.{folded_more, folded_all}
use Rattle.zr_tests_judge.proofs.broker.standing.Goals as goal

pub loop-x-preserved : goal.loop-x-preserved
loop-x-preserved c =
    folded_more (λ (so_far : List Standing) (x : Numbered). standing_by c.args.name.now c.args.class so_far x.1) c.args.acts.now c.loop-x.x-index c.x-item.result c.loop-x-test.true c.x-item.is c.loop-x.so_far.items c.declare.new.so_far.items _ c.in_ok-declare.ensures c.loop-x.invariant

pub returns : goal.returns
returns c = folded_all (λ (so_far : List Standing) (x : Numbered). standing_by c.args.name.now c.args.class so_far x.1) c.args.acts.now c.loop-x.x-index (omega arith) c.loop-x.so_far.items _ c.loop-x.invariant
