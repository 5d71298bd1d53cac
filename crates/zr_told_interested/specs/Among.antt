-- The clients whose interests fit places where declarations changed.
use Rattle.std.specs.Prelude.{◌≡◌, ℕ, true, List}
use Rattle.std.specs.List.{AllByRecursion}
use Rattle.std.specs.List.Sorted.{IsStrictlySortedBy}
use Rattle.std.specs.Ordering.{nat_cmp}
use Rattle.zr_lists.specs.Ascending.{has_key}
use Rattle.zr_local.specs.declared.interest.ClientInterests.{ClientInterests}
use Rattle.zr_told_spec.specs.Rows.{is_touched}
use Rattle.zr_told_spec.specs.declared.place.Place.{Place}

-- each client with an interest that fits one of these places has one of these links; others may have one too
abbrev pub AreAmong : List Place → List ℕ → List ClientInterests → Type 0
AreAmong qs links cs = AllByRecursion (λ c. is_touched qs c.interests ≡ true → has_key nat_cmp (λ n. n) links c.link.0 ≡ true) cs

-- so it is with links that ascend, each once
pub record AreFound (qs : List Place) (links : List ℕ) (cs : List ClientInterests) : Type 0 where
  pub ascend : IsStrictlySortedBy nat_cmp links
  pub among : AreAmong qs links cs
