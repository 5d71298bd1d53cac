use Rattle.std.proofs.Common.{◌≡◌, ◌<◌, ◌∙◌, [], List, length, get_or, refl, sym, true}
use Rattle.zr_msg.specs.declared.content.Parts.{Parts}
use Rattle.zr_pend_spec.specs.Held.{GatheringState, gathers_for, has_room, held_if, is_for}
use Rattle.zr_pend_spec.proofs.Gathered.{changed_at, place_gathers}
use Rattle.zr_pend.proofs.gatherings.Gatherings.hold.Goals as goal

pub returns-clause-answer : goal.returns-clause-answer
returns-clause-answer c =
    let held = c.self.inside.items.items in
    let d : GatheringState = record { asker = c.args.asker; held = [] } in
    let within : c.in-Some.at < length held = rw (← c.deref.ensures.value) c.in-Some.ensures.within in
    let is : is_for c.args.asker (get_or held c.in-Some.at d) ≡ true = rw (← c.deref.ensures.value) (c.in-Some.ensures.is_for d) in
    let gathers : gathers_for c.args.self.now c.args.asker ≡ true = rw (← c.self.view_is) (place_gathers c.args.asker held c.in-Some.at d within is) in
    let room : has_room c.args.self.now c.args.reply.now ≡ true = sym c.has_room.ensures ∙ c.if-not-has_room.false in
    rw (gathers, room) refl

pub returns-clause-held : goal.returns-clause-held
returns-clause-held c =
    let held = c.self.inside.items.items in
    let d : GatheringState = record { asker = c.args.asker; held = [] } in
    let more : List Parts → List Parts = λ replies. held_if (λ o. c.args.later) replies c.args.reply.now in
    let within : c.in-Some.at < length held = rw (← c.deref.ensures.value) c.in-Some.ensures.within in
    let is : is_for c.args.asker (get_or held c.in-Some.at d) ≡ true = rw (← c.deref.ensures.value) (c.in-Some.ensures.is_for d) in
    λ answer. c.in_ok-hold_at.ensures.ok d ∙ rw (← c.self.view_is) (sym (changed_at c.args.asker more held c.in-Some.at d c.self.invariant.0 within is))
