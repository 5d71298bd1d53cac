use Rattle.std.proofs.Common.{List, refl, arith}
use Rattle.std.specs.List.{flat_map}
use Rattle.zr_world_spec.specs.Moments.{Numbered}
use Rattle.zr_guarantee.specs.Item.{Item}
use Rattle.zr_guarantee.specs.Broker.{item_for, publication}
use Rattle.zr_tests_judge.proofs.Loops.{gathered_more, gathered_all}
use Rattle.zr_tests_judge.proofs.broker.due.Goals as goal

pub loop-x-preserved : goal.loop-x-preserved
loop-x-preserved c =
    let each : Numbered → List Item = λ x. item_for c.args.before.now c.args.publisher.now c.args.receiver.now x.0 (publication x.1) in
    gathered_more (flat_map each) each (λ x xs. refl) c.args.phase.now c.loop-x.x-index c.x-item.result c.loop-x-test.true c.x-item.is c.loop-x.due.items c.add_due.new.out.items _ c.in_ok-add_due.ensures c.loop-x.invariant

pub returns : goal.returns
returns c =
    let each : Numbered → List Item = λ x. item_for c.args.before.now c.args.publisher.now c.args.receiver.now x.0 (publication x.1) in
    gathered_all (flat_map each) refl c.args.phase.now c.loop-x.x-index (omega arith) c.loop-x.due.items _ c.loop-x.invariant
