use Rattle.std.proofs.Common.{◌<◌, ℕ, length, arith, List, Some, sym, ap, ◌∙◌}
use Rattle.zr_world_spec.specs.World.{End}
use Rattle.zr_world_ends.specs.Kept.{KeptEnd}
use Rattle.zr_world_ends.specs.Kept.{can_handle}
use Rattle.zr_world_ends.specs.Index.{has_mark}
use Rattle.zr_world_ends.proofs.First.{first_is, none_is, passes_within}
use Rattle.zr_world_ends.proofs.queues.Queues.first_to_handle.Goals as goal

pub first-requires : goal.first-requires
first-requires c = λ q h.
    let within : q < length c.self.inside.list.items =
    passes_within can_handle c.self.inside.list.items q (sym (c.self.invariant.handles q) ∙ ap (λ (w : List ℕ). has_mark w q) (sym c.deref.ensures.value) ∙ h) in
    omega (arith, within, c.len.ensures, c.self.inside.list.ok)

pub returns-in-Some : goal.returns-in-Some
returns-in-Some c = rw (← c.self.view_is)
    (ap (λ (x : End × KeptEnd). Some x.0) c.index.ensures
    ∙ sym (first_is can_handle c.self.inside.list.items c.in-Some.place c.index.result.now c.self.invariant.ordered
    (sym (c.self.invariant.handles c.in-Some.place) ∙ ap (λ (w : List ℕ). has_mark w c.in-Some.place) (sym c.deref.ensures.value) ∙ c.in-Some.ensures.marked)
    (λ q lt. sym (c.self.invariant.handles q) ∙ ap (λ (w : List ℕ). has_mark w q) (sym c.deref.ensures.value) ∙ c.in-Some.ensures.least q lt)))

pub returns-in-None : goal.returns-in-None
returns-in-None c = rw (← c.self.view_is)
    (sym (none_is can_handle c.self.inside.list.items (λ q. sym (c.self.invariant.handles q) ∙ ap (λ (w : List ℕ). has_mark w q) (sym c.deref.ensures.value) ∙ c.in-None.ensures.none q)))
