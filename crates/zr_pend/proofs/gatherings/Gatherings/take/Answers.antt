use Rattle.std.proofs.Common.{◌≡◌, ◌<◌, ◌∙◌, [], length, get_or, refl, sym, true, false}
use Rattle.zr_pend_spec.specs.Held.{GatheringState, gathers_for, held_for, is_for}
use Rattle.zr_pend_spec.proofs.Gathered.{ending_there, held_absent, without_absent, without_at}
use Rattle.zr_pend.proofs.gatherings.Gatherings.take.Goals as goal

pub returns-in-Some-clause-ended : goal.returns-in-Some-clause-ended
returns-in-Some-clause-ended c =
    let held = c.self.inside.items.items in
    let d : GatheringState = record { asker = c.args.asker; held = [] } in
    let within : c.in-Some.at < length held = rw (← c.deref.ensures.value) c.in-Some.ensures.within in
    let is : is_for c.args.asker (get_or held c.in-Some.at d) ≡ true = rw (← c.deref.ensures.value) (c.in-Some.ensures.is_for d) in
    c.take_at.ensures.ended d ∙ rw (← c.self.view_is) (ending_there c.args.asker held c.in-Some.at d c.self.invariant.0 within is)

pub returns-in-Some-clause-others : goal.returns-in-Some-clause-others
returns-in-Some-clause-others c =
    let held = c.self.inside.items.items in
    let d : GatheringState = record { asker = c.args.asker; held = [] } in
    let within : c.in-Some.at < length held = rw (← c.deref.ensures.value) c.in-Some.ensures.within in
    let is : is_for c.args.asker (get_or held c.in-Some.at d) ≡ true = rw (← c.deref.ensures.value) (c.in-Some.ensures.is_for d) in
    c.take_at.ensures.others ∙ rw (← c.self.view_is) (sym (without_at c.args.asker held c.in-Some.at d c.self.invariant.0 within is))

pub returns-in-None-clause-ended : goal.returns-in-None-clause-ended
returns-in-None-clause-ended c =
    let held = c.self.inside.items.items in
    let none : gathers_for held c.args.asker ≡ false = rw (← c.deref.ensures.value) (c.in-None.ensures.none refl) in
    let absent : held_for held c.args.asker ≡ [] = held_absent c.args.asker held none in
    rw (c.into_ended.ensures, c.new.ensures, ← c.self.view_is, absent) refl

pub returns-in-None-clause-others : goal.returns-in-None-clause-others
returns-in-None-clause-others c =
    let held = c.self.inside.items.items in
    let none : gathers_for held c.args.asker ≡ false = rw (← c.deref.ensures.value) (c.in-None.ensures.none refl) in
    rw (← c.self.view_is) (sym (without_absent c.args.asker held none))
