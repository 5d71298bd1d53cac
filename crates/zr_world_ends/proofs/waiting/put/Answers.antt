use Rattle.std.proofs.Common.{sym, ◌∙◌, subst}
use Rattle.std.specs.List.Sorted.{IsStrictlySortedBy}
use Rattle.std.specs.Map.{keys_of}
use Rattle.zr_world_spec.specs.World.{end_cmp}
use Rattle.zr_world_ends.specs.Kept.{KeptEnds}
use Rattle.zr_lists.specs.Place.{IsGap}
use Rattle.zr_world_ends.specs.Index.{IsThere}
use Rattle.zr_world_ends.proofs.Standing.{name_of, there_at, ordered_with, put_new}
use Rattle.zr_world_ends.proofs.waiting.put.Goals as goal

pub replace-requires-clause-place : goal.replace-requires-clause-place
replace-requires-clause-place c =
    subst (λ (z : KeptEnds). IsThere z c.args.at c.in-Ok.place) (c.deref.ensures.value ∙ sym c.deref_mut.ensures.value)
    (there_at c.deref.result.now c.args.at c.in-Ok.place (subst (λ (z : KeptEnds). IsStrictlySortedBy end_cmp (keys_of z)) (sym c.deref.ensures.value) c.requires.index.ordered) c.in-Ok.ensures)

pub insert-requires-clause-ordered : goal.insert-requires-clause-ordered
insert-requires-clause-ordered c =
    ordered_with c.args.ends.now.items c.args.at c.args.new c.in-Err.place c.requires.index.ordered
    (subst (λ (z : KeptEnds). IsGap end_cmp name_of z c.args.at c.in-Err.place) c.deref.ensures.value c.in-Err.ensures)

pub returns-in-Err-clause-put : goal.returns-in-Err-clause-put
returns-in-Err-clause-put c =
    rw (← put_new c.args.ends.now.items c.args.at c.args.new c.in-Err.place c.requires.index.ordered
    (subst (λ (z : KeptEnds). IsGap end_cmp name_of z c.args.at c.in-Err.place) c.deref.ensures.value c.in-Err.ensures))
    c.insert.ensures.put
