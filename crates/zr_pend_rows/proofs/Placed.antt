-- What a branch that ends makes of all rows, and who asked it, where its row is found by its place.
use Rattle.std.proofs.Common.{◌≡◌, ℕ, true, false, cond, List, get_or, slice_set, Option, Some, None, refl, sym, ap, ◌∙◌, subst}
use Rattle.std.specs.BTreeMap.{is_at}
use Rattle.std.specs.Map.{lookup, remove_entry, set_value, values_of}
use Rattle.std.specs.Option.{IsSomeAnd}
use Rattle.std.specs.Ordering.{nat_cmp}
use Rattle.std.proofs.lemmas.Option.{same_Some}
use Rattle.zr_places.proofs.Found.{StandsAt, stands}
use Rattle.zr_pend_spec.specs.declared.branch.Branch.{Branch}
use Rattle.zr_pend_spec.specs.Row.{RowState, has, is_last, without}
use Rattle.zr_pend_spec.specs.Pending.{IsSound, are_distinct, asker_of, branches, final_to, finished}
use Rattle.zr_pend_spec.proofs.OneEnd.{last_ends, last_final, other_ends, other_final}
use Rattle.zr_pend_rows.specs.Ending.{ended}
use Rattle.zr_pend_rows.proofs.Ending.{asker_at, ended_at, final_at}

-- a value that is there, and what holds of it
pub record Found {X : Type 0} (o : Option X) (P : X → Type 0) : Type 0 where
  pub value : X
  pub is : o ≡ Some value
  pub holds : P value

pub found : {X : Type 0} (o : Option X) (P : X → Type 0) → IsSomeAnd o P → Found o P
found (Some x) P h = record { value = x; is = refl; holds = h }
found None P h = absurd h

pub holds_there : {X : Type 0} (o : Option X) (P : X → Type 0) (x : X) → o ≡ Some x → P x → IsSomeAnd o P
holds_there (Some y) P x e h = subst P (sym (same_Some y x e)) h
holds_there None P x e h = cc

module _ (es : List (ℕ × RowState)) (place : ℕ) (b : Branch) (r : RowState) (e : lookup (is_at (nat_cmp place)) es ≡ Some r) (h : has b r ≡ true) where
  -- where the row stands among all rows
  spot : StandsAt (is_at (nat_cmp place)) es r
  spot = stands (is_at (nat_cmp place)) es r e

  has_it : has b (get_or (values_of es) spot.at r) ≡ true
  has_it = ap (λ q. has b q) (spot.here r) ∙ h

  module _ (s : are_distinct (branches (values_of es)) ≡ true) where
    pub row_ended : values_of (set_value (is_at (nat_cmp place)) es (without b r)) ≡ ended (values_of es) b
    row_ended = spot.changed (without b r) ∙ sym (ended_at (values_of es) spot.at r b s spot.within has_it ∙ ap (λ q. slice_set (values_of es) spot.at (without b q)) (spot.here r))

    pub row_final : final_to (values_of es) b ≡ cond (is_last b r) r.asker None
    row_final = final_at (values_of es) spot.at r b s spot.within has_it ∙ ap (λ q. cond (is_last b q) q.asker None) (spot.here r)

  module _ (s : IsSound (values_of es)) where
    pub row_asker : asker_of b (values_of es) ≡ r.asker
    row_asker = asker_at (values_of es) spot.at r b s spot.within has_it ∙ ap (λ (q : RowState). q.asker) (spot.here r)

    module _ (l : is_last b r ≡ true) where
      is_last_there : is_last b (get_or (values_of es) spot.at r) ≡ true
      is_last_there = ap (λ q. is_last b q) (spot.here r) ∙ l

      pub row_gone : values_of (remove_entry (is_at (nat_cmp place)) es) ≡ finished (values_of es) b
      row_gone = spot.gone ∙ sym (last_ends (values_of es) spot.at r b s spot.within has_it is_last_there)

      pub gone_final : final_to (values_of es) b ≡ r.asker
      gone_final = last_final (values_of es) spot.at r b s spot.within has_it is_last_there ∙ ap (λ (q : RowState). q.asker) (spot.here r)

    module _ (l : is_last b r ≡ false) where
      not_last_there : is_last b (get_or (values_of es) spot.at r) ≡ false
      not_last_there = ap (λ q. is_last b q) (spot.here r) ∙ l

      pub row_left : values_of (set_value (is_at (nat_cmp place)) es (without b r)) ≡ finished (values_of es) b
      row_left = spot.changed (without b r) ∙ sym (other_ends (values_of es) spot.at r b s spot.within has_it not_last_there ∙ ap (λ q. slice_set (values_of es) spot.at (without b q)) (spot.here r))

      pub left_final : final_to (values_of es) b ≡ None
      left_final = other_final (values_of es) spot.at r b s spot.within has_it not_last_there
