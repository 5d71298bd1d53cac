use Rattle.std.proofs.Common.{◌≡◌, [], rules, arith}
use Rattle.std.proofs.lemmas.Grind.{common_steps}
use Rattle.std.specs.Vec.Iter.{into_iter_items}
use Rattle.zr_world_gang.specs.Shares.{with_input}
use Rattle.zr_world_gang.proofs.Steps.{left_first, left_may, left_next, left_end}
use Rattle.zr_world_gang.proofs.share.Share.handle.Goals as goal

pub loop-waiting-init : goal.loop-waiting-init
loop-waiting-init c =
    left_first c.args.self.now c.take_input-input.new.self c.take_input-input.result.items _ c.take_input-input.ensures.rest c.take_input-input.ensures.taken c.take_input-input.ensures.may
    c.into_iter-waiting-iterator.ensures.into_iter_gives.0

pub handle_one-requires-clause-may : goal.handle_one-requires-clause-may
handle_one-requires-clause-may c =
    left_may (with_input c.args.self.now []) c.loop-waiting.self c.args.self.now.input (into_iter_items c.loop-waiting.waiting-iterator) (into_iter_items c.next.new.self) c.in-Some.waiting
    c.loop-waiting.invariant c.in-Some.ensures.steps.0

pub loop-waiting-preserved : goal.loop-waiting-preserved
loop-waiting-preserved c =
    left_next (with_input c.args.self.now []) c.loop-waiting.self c.handle_one.new.self c.args.self.now.input (into_iter_items c.loop-waiting.waiting-iterator) (into_iter_items c.next.new.self)
    c.in-Some.waiting c.loop-waiting.invariant c.in-Some.ensures.steps.0 c.in_ok-handle_one.ensures

pub returns : goal.returns
returns c =
    let none : into_iter_items c.loop-waiting.waiting-iterator ≡ [] = first_of (search rules, grind (arith, common_steps)) in
    left_end (with_input c.args.self.now []) c.loop-waiting.self c.args.self.now.input (into_iter_items c.loop-waiting.waiting-iterator) c.loop-waiting.invariant none
