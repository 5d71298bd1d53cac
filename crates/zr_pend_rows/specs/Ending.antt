-- Branches that end one after another, where rows of which no branch is left stay among the others.
use Rattle.std.specs.Prelude.{not, List, [], ◌∷◌, ◌++◌, map, filter}
use Rattle.std.specs.Option.{option_to_list}
use Rattle.zr_pend_spec.specs.declared.branch.Asker.{Asker}
use Rattle.zr_pend_spec.specs.declared.branch.Branch.{Branch}
use Rattle.zr_pend_spec.specs.Row.{RowState, is_done, without}
use Rattle.zr_pend_spec.specs.Pending.{final_to}

-- the rows of which a branch is left
abbrev pub left : List RowState → List RowState
left rows = filter (λ r. not (is_done r)) rows

-- all rows once a branch has ended
abbrev pub ended : List RowState → Branch → List RowState
ended rows b = map (λ r. without b r) rows

-- all rows once these have
abbrev pub all_ended : List RowState → List Branch → List RowState
all_ended rows [] = rows
all_ended rows (b ∷ bs) = all_ended (ended rows b) bs

-- who gets a final meanwhile, in that order
abbrev pub finals_among : List RowState → List Branch → List Asker
finals_among rows [] = []
finals_among rows (b ∷ bs) = option_to_list (final_to rows b) ++ finals_among (ended rows b) bs
