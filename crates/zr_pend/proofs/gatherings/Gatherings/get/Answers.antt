use Rattle.std.proofs.Common.{◌≡◌, ◌<◌, ◌∙◌, ap, length, get_or, refl, sym, true, false}
use Rattle.zr_pend_spec.specs.Held.{gathers_for, held_for, held_of, is_for}
use Rattle.zr_pend_spec.proofs.Gathered.{held_absent, held_there}
use Rattle.zr_pend.proofs.gatherings.Gatherings.get.Goals as goal

pub returns-in-Some-clause-held : goal.returns-in-Some-clause-held
returns-in-Some-clause-held c =
    let held = c.self.inside.items.items in
    let g = c.index.result.now in
    let within : c.in-Some.at < length held = rw (← c.deref.ensures.value) c.in-Some.ensures.within in
    let is : is_for c.args.asker (get_or held c.in-Some.at g) ≡ true = rw (← c.deref.ensures.value) (c.in-Some.ensures.is_for g) in
    let there : held_for held c.args.asker ≡ g.held = held_there c.args.asker held c.in-Some.at g c.self.invariant.0 within is ∙ ap (λ k. k.held) (sym c.index.ensures) in
    c.get.ensures ∙ rw (← c.self.view_is) (ap (λ replies. held_of replies c.args.key.now) (sym there))

pub returns-in-None-clause-held : goal.returns-in-None-clause-held
returns-in-None-clause-held c =
    let held = c.self.inside.items.items in
    let none : gathers_for held c.args.asker ≡ false = rw (← c.deref.ensures.value) (c.in-None.ensures.none refl) in
    rw (← c.self.view_is) (ap (λ replies. held_of replies c.args.key.now) (sym (held_absent c.args.asker held none)))
