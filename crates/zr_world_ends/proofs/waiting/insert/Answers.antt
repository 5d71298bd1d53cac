use Rattle.std.proofs.Common.{◌≡◌, ◌+◌, List, ℕ, length, ap, ◌∙◌, arith}
use Rattle.std.specs.List.{insert}
use Rattle.std.proofs.lemmas.List.Edits.{length-insert}
use Rattle.zr_world_ends.specs.Kept.{KeptEnds}
use Rattle.zr_world_ends.specs.Kept.{can_handle, can_take}
use Rattle.zr_world_ends.specs.Index.{has_mark}
use Rattle.zr_world_ends.proofs.Index.{none_behind}
use Rattle.zr_world_ends.proofs.waiting.insert.Goals as goal

pub mark_all-requires-clause-no_handle : goal.mark_all-requires-clause-no_handle
mark_all-requires-clause-no_handle c =
    let more : length (insert c.args.ends.now.items c.args.place c.args.new) ≡ length c.args.ends.now.items + 1 = length-insert c.args.ends.now.items c.args.place c.args.new c.requires.place in
    let whole : length c.deref.result.now ≡ length (insert c.args.ends.now.items c.args.place c.args.new) = ap (λ (z : KeptEnds). length z) (c.deref.ensures.value ∙ c.in_ok-insert.ensures.items) in
    none_behind can_handle c.deref.result.now c.args.ends.now.items c.args.to_handle.now.items c.deref_mut.result.now (omega (arith, more, whole)) c.requires.index.handles
    (λ q. ap (λ (w : List ℕ). has_mark w q) c.deref_mut.ensures.value ∙ c.in_ok-make_room.ensures.marks q)

pub mark_all-requires-clause-no_take : goal.mark_all-requires-clause-no_take
mark_all-requires-clause-no_take c =
    let more : length (insert c.args.ends.now.items c.args.place c.args.new) ≡ length c.args.ends.now.items + 1 = length-insert c.args.ends.now.items c.args.place c.args.new c.requires.place in
    let whole : length c.deref.result.now ≡ length (insert c.args.ends.now.items c.args.place c.args.new) = ap (λ (z : KeptEnds). length z) (c.deref.ensures.value ∙ c.in_ok-insert.ensures.items) in
    none_behind can_take c.deref.result.now c.args.ends.now.items c.args.to_take.now.items c.deref_mut-2.result.now (omega (arith, more, whole)) c.requires.index.takes
    (λ q. ap (λ (w : List ℕ). has_mark w q) c.deref_mut-2.ensures.value ∙ c.in_ok-make_room-2.ensures.marks q)
