-- A request that began to be gathered, and for which memory then ran out.
use Rattle.std.proofs.Common.{◌≡◌, not, Bool, true, false, cond, List, [], ◌∷◌, ◌++◌, append-nil, ap, ◌∙◌}
use Rattle.std.proofs.lemmas.List.Elements.{filter-append}
use Rattle.zr_pend_spec.specs.declared.branch.Asker.{Asker}
use Rattle.zr_pend_spec.specs.Held.{GatheringState, begun_if, gatherings_without, gathers_for, is_for}
use Rattle.zr_pend_spec.proofs.Gathered.{itself, without_absent}

-- all is as before once nothing is gathered for it any more
pub begun_left : (latest : Bool) (a : Asker) (gs : List GatheringState) → gathers_for gs a ≡ false → gatherings_without (begun_if latest gs a) a ≡ gs
begun_left false a gs h = without_absent a gs h
begun_left true a gs h =
    let new : GatheringState = record { asker = a; held = [] } in
    filter-append (λ (g : GatheringState). not (is_for a g)) gs (new ∷ [])
    ∙ ap (λ t. gatherings_without gs a ++ cond (not t) (new ∷ []) []) (itself a)
    ∙ append-nil (gatherings_without gs a)
    ∙ without_absent a gs h
