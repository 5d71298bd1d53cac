use Rattle.std.proofs.Common.{List, filter, refl, arith}
use Rattle.std.specs.Prelude.{Bool}
use Rattle.std.specs.List.{flat_map}
use Rattle.std.proofs.lemmas.List.Elements.{filter-append}
use Rattle.zr_guarantee.specs.Item.{Item}
use Rattle.zr_guarantee.specs.Broker.{is_line_of}
use Rattle.zr_guarantee.specs.Sent.{Told, item_of}
use Rattle.zr_tests_judge.proofs.Loops.{gathered_more, gathered_all}
use Rattle.zr_tests_judge.proofs.sent.sent.Goals as goal

pub loop-x-preserved : goal.loop-x-preserved
loop-x-preserved c =
    let is_own : Item → Bool = λ i. is_line_of c.args.phase.now c.args.publisher.now i.line in
    let each : Told → List Item = λ t. item_of t.msg t.tag in
    gathered_more (λ (ts : List Told). filter is_own (flat_map each ts)) (λ (t : Told). filter is_own (each t)) (λ t ts. filter-append is_own (each t) (flat_map each ts)) c.deref-x-items.result.now c.loop-x.x-index c.x-item.result c.loop-x-test.true c.x-item.is
    c.loop-x.sent.items c.add_sent.new.out.items _ c.in_ok-add_sent.ensures c.loop-x.invariant

pub returns : goal.returns
returns c =
    let is_own : Item → Bool = λ i. is_line_of c.args.phase.now c.args.publisher.now i.line in
    let each : Told → List Item = λ t. item_of t.msg t.tag in
    gathered_all (λ (ts : List Told). filter is_own (flat_map each ts)) refl c.deref-x-items.result.now c.loop-x.x-index (omega arith) c.loop-x.sent.items _ c.loop-x.invariant
