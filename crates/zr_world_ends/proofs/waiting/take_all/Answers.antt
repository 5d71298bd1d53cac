use Rattle.std.proofs.Common.{◌≡◌, Vec, ap, sym, ◌∙◌, subst}
use Rattle.std.specs.declared.alloc.Global.{Global}
use Rattle.zr_world_ends.specs.Kept.{emptied}
use Rattle.zr_world_spec.specs.World.{End}
use Rattle.zr_world_ends.specs.Kept.{KeptEnd, KeptEnds}
use Rattle.zr_world_ends.specs.Index.{IsIndexed}
use Rattle.zr_world_ends.proofs.Idle.{idle_ordered, idle_room, idle_no_handle, idle_no_take}
use Rattle.zr_world_ends.proofs.waiting.take_all.Goals as goal

pub mark_all-requires-clause-ordered : goal.mark_all-requires-clause-ordered
mark_all-requires-clause-ordered c =
    let idle : c.deref-2.result.now ≡ emptied c.args.ends.now.items = c.deref-2.ensures.value ∙ c.in_ok-idle.ensures ∙ ap emptied c.deref.ensures.value in
    idle_ordered c.args.ends.now.items c.deref-2.result.now idle c.requires.index.ordered

pub mark_all-requires-clause-handle_room : goal.mark_all-requires-clause-handle_room
mark_all-requires-clause-handle_room c =
    let idle : c.deref-2.result.now ≡ emptied c.args.ends.now.items = c.deref-2.ensures.value ∙ c.in_ok-idle.ensures ∙ ap emptied c.deref.ensures.value in
    idle_room c.args.ends.now.items c.deref-2.result.now c.args.to_handle.now idle c.requires.index.handle_room

pub mark_all-requires-clause-take_room : goal.mark_all-requires-clause-take_room
mark_all-requires-clause-take_room c =
    let idle : c.deref-2.result.now ≡ emptied c.args.ends.now.items = c.deref-2.ensures.value ∙ c.in_ok-idle.ensures ∙ ap emptied c.deref.ensures.value in
    idle_room c.args.ends.now.items c.deref-2.result.now c.args.to_take.now idle c.requires.index.take_room

pub mark_all-requires-clause-no_handle : goal.mark_all-requires-clause-no_handle
mark_all-requires-clause-no_handle c =
    let idle : c.deref-2.result.now ≡ emptied c.args.ends.now.items = c.deref-2.ensures.value ∙ c.in_ok-idle.ensures ∙ ap emptied c.deref.ensures.value in
    idle_no_handle c.args.ends.now.items c.deref-2.result.now c.args.to_handle.now c.args.to_take.now idle c.requires.index

pub mark_all-requires-clause-no_take : goal.mark_all-requires-clause-no_take
mark_all-requires-clause-no_take c =
    let idle : c.deref-2.result.now ≡ emptied c.args.ends.now.items = c.deref-2.ensures.value ∙ c.in_ok-idle.ensures ∙ ap emptied c.deref.ensures.value in
    idle_no_take c.args.ends.now.items c.deref-2.result.now c.args.to_handle.now c.args.to_take.now idle c.requires.index

pub returns-clause-index : goal.returns-clause-index
returns-clause-index c =
    let there : c.deref-2.result.now ≡ c.replace.new.dest.items = c.deref-2.ensures.value ∙ ap (λ (v : Vec (End × KeptEnd) Global). v.items) (sym c.replace.ensures.after) in
    subst (λ (z : KeptEnds). IsIndexed z c.mark_all.new.to_handle c.mark_all.new.to_take) there c.mark_all.ensures
