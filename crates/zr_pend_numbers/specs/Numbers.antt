-- The numbers that are in use on each link.
use Rattle.std.specs.Prelude.{ℕ, ◌+◌, ◌==◌, ◌&&◌, nat_le, Bool, true, List, [], ◌∷◌}
use Rattle.std.specs.List.{list_any}
use Rattle.std.specs.Map.{lookup}
use Rattle.std.specs.Option.{unwrap_or}
use Rattle.std.specs.Ordering.{nat_cmp, is_eq}
use Rattle.zr_pend_spec.specs.declared.branch.Branch.{Branch}

-- links with the numbers that are in use there
abbrev pub Uses : Type 0
Uses = List (ℕ × List ℕ)

abbrev pub used_on : Uses → ℕ → List ℕ
used_on uses link = unwrap_or (lookup (λ k. is_eq (nat_cmp link k)) uses) []

-- a number is among these
abbrev pub is_in : ℕ → List ℕ → Bool
is_in n ns = list_any (λ m. m == n) ns

-- the number of a branch is in use on its link
abbrev pub is_used : Uses → Branch → Bool
is_used uses b = is_in b.number (used_on uses b.link.0)

-- each number is above the one before it, and none is below this one
abbrev pub rises : ℕ → List ℕ → Bool
rises low [] = true
rises low (n ∷ ns) = nat_le low n && rises (n + 1) ns
