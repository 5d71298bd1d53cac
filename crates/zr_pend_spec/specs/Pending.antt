-- The pending requests of a router, as a list of rows in the order in which they began, and what each call makes of it.
use Rattle.std.specs.Prelude.{◌≡◌, ℕ, zero, suc, ◌+◌, ◌-◌, ◌^◌, ◌==◌, ◌&&◌, not, nat_le, Bool, true, false, List, [], ◌∷◌, ◌++◌, length, map, filter, Option, Some, if◌then◌else◌}
use Rattle.std.specs.List.{list_any, list_all, find, fold, flat_map}
use Rattle.std.specs.Option.{option_and_then, option_map_or, option_to_list}
use Rattle.zr_id.specs.declared.link.LinkNo.{LinkNo}
use Rattle.zr_pend_spec.specs.declared.branch.Asker.{Asker}
use Rattle.zr_pend_spec.specs.declared.branch.Branch.{Branch}
use Rattle.zr_pend_spec.specs.Row.{RowState, is_branch, has, is_last, is_done, is_of, is_asked_by, numbers_of, without, orphaned}

-- ---- what is asked of the rows

-- some row was asked by this asker
abbrev pub asked : Asker → List RowState → Bool
asked from rows = list_any (λ r. is_asked_by from r) rows

-- how many rows a link asked
abbrev pub count : LinkNo → List RowState → ℕ
count link rows = length (filter (λ r. is_of link r) rows)

-- who asked the row of a branch
abbrev pub asker_of : Branch → List RowState → Option Asker
asker_of branch rows = option_and_then (λ r. r.asker) (find (λ r. has branch r) rows)

-- the branch is pending
abbrev pub is_pending : Branch → List RowState → Bool
is_pending branch rows = list_any (λ r. has branch r) rows

-- the numbers that are pending on a link
abbrev pub numbers_on : LinkNo → List RowState → List ℕ
numbers_on link rows = flat_map (λ r. numbers_of link r) rows

-- ---- a request begins

-- a branch of this link and number
abbrev pub branch : LinkNo → ℕ → Branch
branch link number = record { link = link; number = number }

-- the first number from n on that isn't taken, looked for so many steps
abbrev pub first_free : (ℕ → Bool) → ℕ → ℕ → ℕ
first_free taken zero n = n
first_free taken (suc steps) n = if taken n then first_free taken steps (n + 1) else n

-- the least number, from 1, that isn't pending on a link; it is found after at most as many steps as numbers are pending there
abbrev pub free_number : LinkNo → List RowState → ℕ
free_number link rows = first_free (λ n. is_pending (branch link n) rows) (length (numbers_on link rows)) 1

-- as many numbers are pending on the link as there are of 32 bits from 1 on
abbrev pub is_full : LinkNo → List RowState → Bool
is_full link rows = nat_le (2 ^ 32 - 1) (length (numbers_on link rows))

-- the branches of a request that goes to these links
abbrev pub opened : List RowState → List LinkNo → List Branch
opened rows to = map (λ l. branch l (free_number l rows)) to

-- a request that was passed on is the last row
abbrev pub begun : List RowState → Asker → List LinkNo → List RowState
begun rows from to = rows ++ record { asker = Some from; branches = opened rows to } ∷ []

-- the links differ
abbrev pub differ : List LinkNo → Bool
differ [] = true
differ (l ∷ ls) = not (list_any (λ k. k.0 == l.0) ls) && differ ls

-- ---- a branch ends

-- the rows once a branch has ended: a row goes with its last branch
abbrev pub finished : List RowState → Branch → List RowState
finished rows b = filter (λ r. not (is_done r)) (map (λ r. without b r) rows)

-- who gets the final: the asker of the row that has this branch alone
abbrev pub final_to : List RowState → Branch → Option Asker
final_to rows b = option_and_then (λ r. r.asker) (find (λ r. is_last b r) rows)

-- the rows once these branches have ended, one after another
abbrev pub all_finished : List RowState → List Branch → List RowState
all_finished rows [] = rows
all_finished rows (b ∷ bs) = all_finished (finished rows b) bs

-- who gets a final meanwhile, in that order
abbrev pub finals : List RowState → List Branch → List Asker
finals rows [] = []
finals rows (b ∷ bs) = option_to_list (final_to rows b) ++ finals (finished rows b) bs

-- ---- a link goes down

-- a number at its place among ascending ones
abbrev pub placed : List ℕ → ℕ → List ℕ
placed [] n = n ∷ []
placed (m ∷ ms) n = if nat_le n m then n ∷ m ∷ ms else m ∷ placed ms n

-- numbers in ascending order
abbrev pub ascending : List ℕ → List ℕ
ascending ns = fold placed [] ns

-- the branches on a link, by ascending number
abbrev pub branches_on : LinkNo → List RowState → List Branch
branches_on link rows = map (λ n. branch link n) (ascending (numbers_on link rows))

-- what the link asked has no asker any more
abbrev pub all_orphaned : LinkNo → List RowState → List RowState
all_orphaned link rows = map (λ r. orphaned link r) rows

-- the rows once a link went down
abbrev pub dropped : LinkNo → List RowState → List RowState
dropped link rows = all_finished (all_orphaned link rows) (branches_on link rows)

-- who gets a final then
abbrev pub finals_of_drop : LinkNo → List RowState → List Asker
finals_of_drop link rows = finals (all_orphaned link rows) (branches_on link rows)

-- ---- what holds of every table

-- all branches of all rows
abbrev pub branches : List RowState → List Branch
branches rows = flat_map (λ r. r.branches) rows

-- no branch stands twice
abbrev pub are_distinct : List Branch → Bool
are_distinct [] = true
are_distinct (b ∷ bs) = not (list_any (λ c. is_branch b c) bs) && are_distinct bs

-- who asked a row asked none of the others under the same number
abbrev pub askers_differ : List RowState → Bool
askers_differ [] = true
askers_differ (r ∷ rs) = not (option_map_or (λ a. asked a rs) r.asker false) && askers_differ rs

-- each row has a branch, each branch is in one row, and each asker and number is of one row
pub record IsSound (rows : List RowState) : Type 0 where
  pub pending : list_all (λ r. not (is_done r)) rows ≡ true
  pub distinct : are_distinct (branches rows) ≡ true
  pub askers : askers_differ rows ≡ true
