-- Which ids of a link are in use.
use Rattle.std.specs.Prelude.{ℕ, ◌^◌, ◌≤◌, ◌<◌, ◌&&◌, not, nat_le, nat_lt, Bool, List, []}
use Rattle.std.specs.List.{list_any, AllByRecursion}
use Rattle.std.specs.Ordering.{is_eq, nat_cmp}

-- the first id that was never given, and those that were freed, in ascending order
pub record IdsState : Type 0 where
  pub next : ℕ
  pub freed : List ℕ

abbrev pub is_freed : List ℕ → ℕ → Bool
is_freed freed n = list_any (λ k. is_eq (nat_cmp n k)) freed

-- all that were given and not freed are in use
abbrev pub is_given : IdsState → ℕ → Bool
is_given s n = (nat_le 1 n && nat_lt n s.next) && not (is_freed s.freed n)

abbrev pub none_given : IdsState
none_given = record { next = 1; freed = [] }

-- ids are from 1 on and have 32 bits, and those that were freed were given
pub record AreIds (s : IdsState) : Type 0 where
  pub from : 1 ≤ s.next
  pub upto : s.next ≤ 2 ^ 32
  pub freed : AllByRecursion (λ k. (1 ≤ k) × (k < s.next)) s.freed
