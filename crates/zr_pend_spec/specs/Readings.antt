-- What the rows of pending requests say: for whom a branch is pending, and which branches are pending for who asked; and what the begin of a
-- request, the end of a branch and the end of a link make of that.
use Rattle.std.specs.Prelude.{◌≡◌, ◌==◌, ◌&&◌, ◌||◌, not, true, false, List, [], ◌∷◌, ◌++◌, length, filter, Option, Some, None, if◌then◌else◌}
use Rattle.std.specs.List.{list_any, find}
use Rattle.std.specs.Option.{option_map, option_map_or, option_and_then}
use Rattle.zr_id.specs.declared.link.LinkNo.{LinkNo}
use Rattle.zr_pend_spec.specs.declared.branch.Asker.{Asker}
use Rattle.zr_pend_spec.specs.declared.branch.Branch.{Branch}
use Rattle.zr_pend_spec.specs.Row.{RowState, is_branch, has, is_asked_by}
use Rattle.zr_pend_spec.specs.Pending.{IsSound, asked, askers_differ, is_pending, numbers_on, free_number, opened, begun, differ, finished, final_to, dropped}

-- ---- what is read

-- for whom a branch is pending, if it is: for nobody where who asked has gone
abbrev pub back : List RowState → Branch → Option (Option Asker)
back rows b = option_map (λ r. r.asker) (find (λ r. has b r) rows)

-- the branches that are pending for who asked
abbrev pub row_of : Asker → List RowState → List Branch
row_of from rows = option_map_or (λ r. r.branches) (find (λ r. is_asked_by from r) rows) []

-- ---- a request begins

-- the row of a request that goes to these links
abbrev pub new_row : List RowState → Asker → List LinkNo → RowState
new_row rows from to = record { asker = Some from; branches = opened rows to }

-- its branches are pending for who asked, and no other is pending that wasn't; on each of its links one number more is pending
pub record IsBegun (rows : List RowState) (from : Asker) (to : List LinkNo) : Type 0 where
  pub back_is : (b : Branch) → back (begun rows from to) b ≡ (if is_pending b rows then back rows b else if has b (new_row rows from to) then Some (Some from) else None)
  pub kept : (a : Asker) → asked a (begun rows from to) ≡ (asked a rows || (is_asked_by a (new_row rows from to) || false))
  pub row : (a : Asker) → row_of a (begun rows from to) ≡ (if asked a rows then row_of a rows else if is_asked_by a (new_row rows from to) then opened rows to else [])
  pub numbers : (link : LinkNo) → differ to ≡ true →
      numbers_on link (begun rows from to) ≡ numbers_on link rows ++ (if list_any (λ l. l.0 == link.0) to then free_number link rows ∷ [] else [])

abbrev pub BegunRowsAreRead : Type 0
BegunRowsAreRead = (rows : List RowState) (from : Asker) (to : List LinkNo) → IsBegun rows from to

-- ---- a branch ends

-- branches but for one
abbrev pub but_for : Branch → List Branch → List Branch
but_for b bs = filter (λ c. not (is_branch b c)) bs

-- who gets a final where no branch is left for who asked
abbrev pub final_if_none : List Branch → Asker → Option Asker
final_if_none left a = if length left == 0 then Some a else None

-- the branch is pending no more, the row of who asked loses it, who asked is kept while a branch of its is left, and gets a final where none is
pub record IsFinished (rows : List RowState) (b : Branch) : Type 0 where
  pub back_is : (c : Branch) → back (finished rows b) c ≡ (if is_branch b c then None else back rows c)
  pub kept : (a : Asker) → asked a (finished rows b) ≡ (asked a rows && not (length (but_for b (row_of a rows)) == 0))
  pub row : (a : Asker) → row_of a (finished rows b) ≡ but_for b (row_of a rows)
  pub final : final_to rows b ≡ option_and_then (λ o. option_and_then (λ a. final_if_none (but_for b (row_of a rows)) a) o) (back rows b)

abbrev pub FinishedRowsAreRead : Type 0
FinishedRowsAreRead = (rows : List RowState) (b : Branch) → IsSound rows → IsFinished rows b

-- the branch of who asked stands in the row of who asked
abbrev pub BranchesStandInRows : Type 0
BranchesStandInRows = (rows : List RowState) (b : Branch) (a : Asker) → askers_differ rows ≡ true → back rows b ≡ Some (Some a) → list_any (λ c. is_branch b c) (row_of a rows) ≡ true

-- ---- a link goes down

-- who asked, once a link went down: nobody where it was that link
abbrev pub but_link : LinkNo → Option Asker → Option Asker
but_link link asker = if option_map_or (λ a. a.link.0 == link.0) asker false then None else asker

-- branches but for those on a link
abbrev pub off_link : LinkNo → List Branch → List Branch
off_link link bs = filter (λ b. not (b.link.0 == link.0)) bs

-- its branches are pending no more, and what it asked is pending for nobody; other rows lose the branches on it, and who asked is kept
-- while a branch of its is left
pub record IsDropped (link : LinkNo) (rows : List RowState) : Type 0 where
  pub back_is : (b : Branch) → back (dropped link rows) b ≡ (if b.link.0 == link.0 then None else option_map (λ o. but_link link o) (back rows b))
  pub kept : (a : Asker) → asked a (dropped link rows) ≡ not (length (row_of a (dropped link rows)) == 0)
  pub row : (a : Asker) → row_of a (dropped link rows) ≡ (if a.link.0 == link.0 then [] else off_link link (row_of a rows))

abbrev pub DroppedRowsAreRead : Type 0
DroppedRowsAreRead = (link : LinkNo) (rows : List RowState) → IsSound rows → IsDropped link rows
