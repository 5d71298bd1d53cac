-- One request that was passed on: who asked it, and its pending branches.
use Rattle.std.specs.Prelude.{ℕ, ◌==◌, ◌&&◌, not, Bool, false, List, length, map, filter, Option, None, if◌then◌else◌}
use Rattle.std.specs.List.{list_any, list_all}
use Rattle.std.specs.Option.{option_map_or}
use Rattle.zr_id.specs.declared.link.LinkNo.{LinkNo}
use Rattle.zr_pend_spec.specs.declared.branch.Asker.{Asker}
use Rattle.zr_pend_spec.specs.declared.branch.Branch.{Branch}

-- a row: who asked, unless that link went down, and the branches that have not ended, in the order in which they began
pub record RowState : Type 0 where
  pub asker : Option Asker
  pub branches : List Branch

-- two branches are one: the same number on the same link
abbrev pub is_branch : Branch → Branch → Bool
is_branch x y = y.link.0 == x.link.0 && y.number == x.number

-- the row has this branch
abbrev pub has : Branch → RowState → Bool
has branch row = list_any (λ b. is_branch branch b) row.branches

-- it has this branch and no other
abbrev pub is_last : Branch → RowState → Bool
is_last branch row = has branch row && list_all (λ b. is_branch branch b) row.branches

-- no branch is left
abbrev pub is_done : RowState → Bool
is_done row = length row.branches == 0

-- the asker is this link
abbrev pub is_of : LinkNo → RowState → Bool
is_of link row = option_map_or (λ a. a.link.0 == link.0) row.asker false

-- the asker is this link, with this number
abbrev pub is_asked_by : Asker → RowState → Bool
is_asked_by from row = option_map_or (λ a. a.link.0 == from.link.0 && a.number == from.number) row.asker false

-- the branches of the row on a link, and their numbers
abbrev pub branches_of : LinkNo → RowState → List Branch
branches_of link row = filter (λ b. b.link.0 == link.0) row.branches

abbrev pub numbers_of : LinkNo → RowState → List ℕ
numbers_of link row = map (λ b. b.number) (branches_of link row)

-- the row once a branch has ended
abbrev pub without : Branch → RowState → RowState
without branch row = record { asker = row.asker; branches = filter (λ b. not (is_branch branch b)) row.branches }

-- the row once a link went down: what that link asked has no asker any more
abbrev pub orphaned : LinkNo → RowState → RowState
orphaned link row = if is_of link row then record { asker = None; branches = row.branches } else row
