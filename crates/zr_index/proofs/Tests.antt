-- Tests of pairs: lists that have the same pairs pass the same, whatever their order.
use Rattle.std.proofs.Common.{◌≡◌, ℕ, ◌+◌, nat_lt, Bool, true, false, cond, ◌&&◌, ◌||◌, List, [], ◌∷◌, Ordering, refl, sym, ap, ◌∙◌, arith}
use Rattle.std.specs.List.{flat_map, list_any, sum_by}
use Rattle.std.specs.Ordering.{is_eq}
use Rattle.std.proofs.lemmas.Bool.{lt-ltb}
use Rattle.std.proofs.lemmas.List.Concat.{flat_map-cons}
use Rattle.std.proofs.lemmas.List.Folds.{list_any-append}
use Rattle.std.proofs.lemmas.List.Sums.{sum_by-cons}
use Rattle.zr_lists.proofs.Order.{IsExactOrder, is_itself, is_same}
use Rattle.zr_lists.proofs.Truths.{same_test}
use Rattle.zr_key.specs.Key.{chunks}
use Rattle.zr_match.specs.Table.{texts_meet}
use Rattle.zr_index.specs.Meeting.{meets_key}
use Rattle.zr_index.specs.Pairs.{Pairs, AreSame}

module _ {V : Type 0} (t : List (List ℕ) × V → Bool) where
  abbrev passing : List (List ℕ) × V → ℕ
  passing p = cond (t p) 1 0

  -- some pass where their number isn't zero
  any_counts : (ps : Pairs V) → list_any t ps ≡ nat_lt 0 (sum_by passing ps)
  any_counts [] = refl
  any_counts (p ∷ ps) = by (t p) (any_counts ps) ∙ ap (nat_lt 0) (sym (sum_by-cons passing p ps))
    where
      by : (b : Bool) → list_any t ps ≡ nat_lt 0 (sum_by passing ps) → (b || list_any t ps) ≡ nat_lt 0 (cond b 1 0 + sum_by passing ps)
      by true ih = sym (lt-ltb 0 (1 + sum_by passing ps) (omega arith))
      by false ih = let e : sum_by passing ps ≡ 0 + sum_by passing ps = omega arith in ih ∙ ap (nat_lt 0) e

  pub any_same : (ps qs : Pairs V) → AreSame ps qs → list_any t ps ≡ list_any t qs
  any_same ps qs h = any_counts ps ∙ ap (nat_lt 0) (h passing) ∙ sym (any_counts qs)

  pub any_flat : {X : Type 0} (g : X → Pairs V) (xs : List X) → list_any t (flat_map g xs) ≡ list_any (λ x. list_any t (g x)) xs
  any_flat g [] = refl
  any_flat g (x ∷ xs) =
      ap (list_any t) (flat_map-cons g x xs)
      ∙ list_any-append t (g x) (flat_map g xs)
      ∙ ap (λ b. list_any t (g x) || b) (any_flat g xs)

-- a test of all alike is one in front
pub any_and : {X : Type 0} (e : Bool) (p : X → Bool) (xs : List X) → list_any (λ x. e && p x) xs ≡ (e && list_any p xs)
any_and true p xs = refl
any_and false p [] = refl
any_and false p (x ∷ xs) = any_and false p xs

-- of two values that an order compares, which is named first doesn't matter
pub flipped : {V : Type 0} (cmp : V → V → Ordering) → IsExactOrder cmp → (v w : V) → is_eq (cmp v w) ≡ is_eq (cmp w v)
flipped {V = V} cmp o v w = same_test (is_eq (cmp v w)) (is_eq (cmp w v)) (λ e. back v w (is_same cmp o v w e)) (λ e. back w v (is_same cmp o w v e))
  where
    back : (a b : V) → a ≡ b → is_eq (cmp b a) ≡ true
    back a b e = ap (λ (z : V). is_eq (cmp z a)) (sym e) ∙ is_itself cmp o a

-- the text of a key meets another as its chunks do
pub meets_is : (a b : List ℕ) → texts_meet a b ≡ meets_key b (chunks a)
unfolding texts_meet
meets_is a b = refl
