-- What follows of the rows of pending requests, for the proofs above.
use Rattle.std.specs.Prelude.{◌≡◌, ℕ, ◌+◌, ◌==◌, ◌<◌, ◌≤◌, ◌&&◌, nat_le, Bool, true, false, List, [], ◌∷◌, ◌++◌, length, if◌then◌else◌}
use Rattle.std.specs.List.{list_any, list_all}
use Rattle.std.specs.Option.{option_to_list}
use Rattle.zr_id.specs.declared.link.LinkNo.{LinkNo}
use Rattle.zr_pend_spec.specs.declared.branch.Asker.{Asker}
use Rattle.zr_pend_spec.specs.declared.branch.Branch.{Branch}
use Rattle.zr_pend_spec.specs.Row.{RowState, has, is_done, without}
use Rattle.zr_pend_spec.specs.Pending.{IsSound, asked, is_pending, numbers_on, branch, free_number, begun, asker_of, finished, all_finished, finals, differ, dropped, count, ascending}

-- the number that a link gives next is the least one from 1 that isn't pending there, so at most one above how many are
pub record IsLeastFree (rows : List RowState) (link : LinkNo) (n : ℕ) : Type 0 where
  pub positive : 1 ≤ n
  pub free : is_pending (branch link n) rows ≡ false
  pub within : n ≤ length (numbers_on link rows) + 1
  pub least : (k : ℕ) → 1 ≤ k → k < n → is_pending (branch link k) rows ≡ true

abbrev pub NumbersAreLeast : Type 0
NumbersAreLeast = (rows : List RowState) (link : LinkNo) → IsLeastFree rows link (free_number link rows)

-- once a request has begun, the number that it was given on each of its links is pending there
abbrev pub NumbersAreTaken : Type 0
NumbersAreTaken = (rows : List RowState) (from : Asker) (to : List LinkNo) (link : LinkNo) →
    list_any (λ l. l.0 == link.0) to ≡ true → is_pending (branch link (free_number link rows)) (begun rows from to) ≡ true

-- each call leaves a sound table sound
abbrev pub BeginKeeps : Type 0
BeginKeeps = (rows : List RowState) (from : Asker) (to : List LinkNo) → 0 < length to → differ to ≡ true → asked from rows ≡ false → IsSound rows → IsSound (begun rows from to)

abbrev pub FinishKeeps : Type 0
FinishKeeps = (rows : List RowState) (b : Branch) → IsSound rows → IsSound (finished rows b)

abbrev pub DropKeeps : Type 0
DropKeeps = (link : LinkNo) (rows : List RowState) → IsSound rows → IsSound (dropped link rows)

-- what is left of a row when a branch has ended: the row without it, or nothing
abbrev pub rest_of : Branch → RowState → List RowState
rest_of b r = if is_done (without b r) then [] else without b r ∷ []

-- a branch is of one row: its asker is found, and its end changes this row alone
pub record IsOfRow (before : List RowState) (r : RowState) (after : List RowState) (b : Branch) : Type 0 where
  pub asker : asker_of b (before ++ r ∷ after) ≡ r.asker
  pub rows : finished (before ++ r ∷ after) b ≡ before ++ rest_of b r ++ after

abbrev pub BranchesAreOfOneRow : Type 0
BranchesAreOfOneRow = (before : List RowState) (r : RowState) (after : List RowState) (b : Branch) →
    IsSound (before ++ r ∷ after) → has b r ≡ true → IsOfRow before r after b

-- when all branches of a row have ended the row is gone, the others are as before, and its asker got one final, if it has one
pub record IsEnded (before : List RowState) (r : RowState) (after : List RowState) : Type 0 where
  pub rows : all_finished (before ++ r ∷ after) r.branches ≡ before ++ after
  pub final : finals (before ++ r ∷ after) r.branches ≡ option_to_list r.asker

abbrev pub RowsEndOnce : Type 0
RowsEndOnce = (before : List RowState) (r : RowState) (after : List RowState) → IsSound (before ++ r ∷ after) → IsEnded before r after

-- once a link went down none of its numbers is pending and no row is its own, and the branches on other links are as before
pub record IsGone (link : LinkNo) (rows : List RowState) : Type 0 where
  pub none : (n : ℕ) → is_pending (branch link n) (dropped link rows) ≡ false
  pub unasked : count link (dropped link rows) ≡ 0
  pub others : (b : Branch) → (b.link.0 == link.0) ≡ false → is_pending b (dropped link rows) ≡ is_pending b rows

abbrev pub DroppedLinksAreGone : Type 0
DroppedLinksAreGone = (link : LinkNo) (rows : List RowState) → IsGone link rows

-- no number comes before a smaller one
abbrev pub ascends : List ℕ → Bool
ascends [] = true
ascends (n ∷ ns) = list_all (λ m. nat_le n m) ns && ascends ns

-- numbers in ascending order ascend, and are the same ones
pub record IsInOrder (ns : List ℕ) : Type 0 where
  pub up : ascends (ascending ns) ≡ true
  pub same : (p : ℕ → Bool) → list_any p (ascending ns) ≡ list_any p ns
  pub as_many : length (ascending ns) ≡ length ns

abbrev pub AscendingNumbersAscend : Type 0
AscendingNumbersAscend = (ns : List ℕ) → IsInOrder ns
