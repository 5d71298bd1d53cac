use Rattle.std.proofs.Common.{◌≡◌, [], sym, ap, ◌∙◌, rules, arith}
use Rattle.std.proofs.lemmas.Grind.{common_steps}
use Rattle.std.proofs.lemmas.List.{get_or_default}
use Rattle.std.specs.Vec.Iter.{into_iter_items}
use Rattle.zr_world_gang.specs.Shares.{ShareState, with_output}
use Rattle.zr_world_rounds.proofs.Coming.{output_passes, passed_one, all_passed}
use Rattle.zr_world_rounds.proofs.pass.pass_from.Goals as goal

pub loop-sending-init : goal.loop-sending-init
loop-sending-init c =
    let ss = c.args.shares.now in
    let s = c.index-shares-place-2.result in
    let same = get_or_default ss c.args.place c.index-shares-place.result s c.requires ∙ sym c.index-shares-place-2.is in
    output_passes ss c.args.place s c.take_output-output.new.self c.name-from.result (into_iter_items c.into_iter-sending-iterator.result) c.requires c.index-shares-place-2.is
    (c.name-from.ensures ∙ ap (λ (z : ShareState). z.name) same) (c.take_output-output.ensures.rest ∙ ap (λ (z : ShareState). with_output z []) (sym c.index-shares-place-2.is))
    (c.into_iter-sending-iterator.ensures.into_iter_gives.0 ∙ c.take_output-output.ensures.taken ∙ ap (λ (z : ShareState). z.output) (sym c.index-shares-place-2.is))

pub loop-sending-preserved : goal.loop-sending-preserved
loop-sending-preserved c =
    passed_one c.name-from.result (into_iter_items c.loop-sending.sending-iterator) c.in-Some.sending (into_iter_items c.next.new.self) c.args.shares.now c.loop-sending.shares c.receive.new.shares c.loop-sending.invariant
    c.in-Some.ensures.steps.0 c.in_ok-receive.ensures

pub returns : goal.returns
returns c =
    let none : into_iter_items c.loop-sending.sending-iterator ≡ [] = first_of (search rules, grind (arith, common_steps)) in
    all_passed c.name-from.result (into_iter_items c.loop-sending.sending-iterator) c.args.shares.now c.loop-sending.shares c.loop-sending.invariant none
