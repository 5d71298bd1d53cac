-- What a level holds once one pair more, or one less, stands in it.
use Rattle.std.proofs.Common.{◌≡◌, ℕ, ◌+◌, ◌≤◌, Bool, true, false, cond, not, ◌&&◌, List, [], ◌∷◌, Some, None, length, nat_lt, refl, sym, ap, ◌∙◌, arith}
use Rattle.std.specs.List.{sum_by, list_any, position, position_or_len}
use Rattle.std.specs.Str.{bytes_eq}
use Rattle.std.specs.Cmp.Lexicographic.{pointwise}
use Rattle.std.proofs.lemmas.Bool.{or_parts}
use Rattle.std.proofs.lemmas.Bool.Decides.{nat_tests}
use Rattle.std.proofs.lemmas.List.Elements.{All-from_get_or}
use Rattle.std.proofs.lemmas.List.Folds.{list_any_none}
use Rattle.std.proofs.lemmas.List.Sums.{sum_by-cons, fails_before_first}
use Rattle.zr_key.proofs.Spelling.{same_bytes}
use Rattle.zr_key.specs.Key.{is_plain_text}
use Rattle.zr_index.specs.Pairs.{pairs, weigh_below, is_of, one}
use Rattle.zr_index.specs.declared.node.Node.{Node}
use Rattle.zr_index.specs.declared.node.Node.TheOpen.{Node-F}
use Rattle.zr_index.proofs.Levels.{guarded, level}

module _ {V : Type 0} (f : List (List ℕ) × V → ℕ) (x y : Node-F V (Node V)) where
  pub grow_values : (v : V) → sum_by (λ w. f ([], w)) y.values.items ≡ f ([], v) + sum_by (λ w. f ([], w)) x.values.items → y.plain.entries ≡ x.plain.entries → y.wild.entries ≡ x.wild.entries → level f y ≡ f ([], v) + level f x
  grow_values v a b c = omega (arith, a, ap (weigh_below (λ k. guarded true f k.items)) b, ap (weigh_below (λ k. guarded false f k.items)) c)

  pub grow_plain : (c : List ℕ) (path : List (List ℕ)) (v : V) → is_plain_text c ≡ true → y.values.items ≡ x.values.items → y.wild.entries ≡ x.wild.entries
      → weigh_below (λ k. guarded true f k.items) y.plain.entries ≡ guarded true f c (path, v) + weigh_below (λ k. guarded true f k.items) x.plain.entries → level f y ≡ f (c ∷ path, v) + level f x
  grow_plain c path v plain a b h =
      omega (arith, h, ap {B = ℕ} (λ t. cond t (f (c ∷ path, v)) 0) plain, ap (sum_by (λ w. f ([], w))) a, ap (weigh_below (λ k. guarded false f k.items)) b)

  pub grow_wild : (c : List ℕ) (path : List (List ℕ)) (v : V) → is_plain_text c ≡ false → y.values.items ≡ x.values.items → y.plain.entries ≡ x.plain.entries
      → weigh_below (λ k. guarded false f k.items) y.wild.entries ≡ guarded false f c (path, v) + weigh_below (λ k. guarded false f k.items) x.wild.entries → level f y ≡ f (c ∷ path, v) + level f x
  grow_wild c path v wild a b h =
      omega (arith, h, ap {B = ℕ} (λ t. cond (not t) (f (c ∷ path, v)) 0) wild, ap (sum_by (λ w. f ([], w))) a, ap (weigh_below (λ k. guarded true f k.items)) b)

  pub same_level : y.values.items ≡ x.values.items → weigh_below (λ k. guarded true f k.items) y.plain.entries ≡ weigh_below (λ k. guarded true f k.items) x.plain.entries
      → weigh_below (λ k. guarded false f k.items) y.wild.entries ≡ weigh_below (λ k. guarded false f k.items) x.wild.entries → level f y ≡ level f x
  same_level a b c = omega (arith, b, c, ap (sum_by (λ w. f ([], w))) a)

pub sum_all_zero : {A : Type 0} (h : A → ℕ) → ((a : A) → h a ≡ 0) → (xs : List A) → sum_by h xs ≡ 0
sum_all_zero h z [] = refl
sum_all_zero h z (x ∷ xs) = omega (arith, z x, sum_all_zero h z xs, sum_by-cons h x xs)

-- ---- no such pair

module _ {V : Type 0} (eq : V → V → Bool) (v : V) where
  none_here : (xs : List V) → list_any (λ w. eq w v) xs ≡ false → sum_by (λ w. one eq [] v ([], w)) xs ≡ 0
  none_here [] h = refl
  none_here (x ∷ xs) h =
      let parts = or_parts (eq x v) (list_any (λ w. eq w v) xs) h in
      omega (arith, ap {B = ℕ} (λ b. cond b 1 0) parts.0, none_here xs parts.1, sum_by-cons (λ w. one eq [] v ([], w)) x xs)

  two_zeros : (b : Bool) (z : ℕ) → cond b z z ≡ z
  two_zeros true z = refl
  two_zeros false z = refl

  -- nothing stands at the place of the level where the values of the key stand
  pub none_ends : (x : Node-F V (Node V)) → list_any (λ w. eq w v) x.values.items ≡ false → level (one eq [] v) x ≡ 0
  none_ends x h = omega (
    arith,
    none_here x.values.items h,
    sum_all_zero (λ e. sum_by (guarded true (one eq [] v) e.0.items) (pairs e.1)) (λ e. sum_all_zero (guarded true (one eq [] v) e.0.items) (λ p. two_zeros (is_of true e.0.items) 0) (pairs e.1)) x.plain.entries,
    sum_all_zero (λ e. sum_by (guarded false (one eq [] v) e.0.items) (pairs e.1)) (λ e. sum_all_zero (guarded false (one eq [] v) e.0.items) (λ p. two_zeros (is_of false e.0.items) 0) (pairs e.1)) x.wild.entries,
  )

  module _ (c : List ℕ) (path : List (List ℕ)) where
    abbrev wanted : List (List ℕ) × V → ℕ
    wanted = one eq (c ∷ path) v

    other_kind : (plain : Bool) → is_of plain c ≡ false → (k : List ℕ) (p : List (List ℕ) × V) → guarded plain wanted k p ≡ 0
    other_kind plain h k p = by (bytes_eq c k) refl
      where
        by : (b : Bool) → bytes_eq c k ≡ b → guarded plain wanted k p ≡ 0
        by true e = ap (λ z. guarded plain wanted z p) (sym (same_bytes c k e)) ∙ ap {B = ℕ} (λ t. cond t (wanted (c ∷ p.0, p.1)) 0) h
        by false e = ap {B = ℕ} (λ t. cond (is_of plain k) (cond ((t && pointwise bytes_eq path p.0) && eq p.1 v) 1 0) 0) e ∙ two_zeros (is_of plain k) 0

    guard_le : (b : Bool) (n : ℕ) → cond b n 0 ≤ n
    guard_le true n = omega arith
    guard_le false n = omega arith

    pub sum_le : {A : Type 0} (g h : A → ℕ) → ((a : A) → g a ≤ h a) → (xs : List A) → sum_by g xs ≤ sum_by h xs
    sum_le g h le [] = omega arith
    sum_le g h le (x ∷ xs) = omega (arith, le x, sum_le g h le xs, sum_by-cons g x xs, sum_by-cons h x xs)

    this_kind : {K : Type 0} (text : K → List ℕ) (plain : Bool) (es : List (K × Node V)) → weigh_below (λ k p. wanted (text k ∷ p.0, p.1)) es ≡ 0 → weigh_below (λ k. guarded plain wanted (text k)) es ≡ 0
    this_kind {K = K} text plain es h =
        let le = sum_le (λ (e : K × Node V). sum_by (guarded plain wanted (text e.0)) (pairs e.1)) (λ e. sum_by (λ p. wanted (text e.0 ∷ p.0, p.1)) (pairs e.1))
        (λ e. sum_le (guarded plain wanted (text e.0)) (λ p. wanted (text e.0 ∷ p.0, p.1)) (λ p. guard_le (is_of plain (text e.0)) (wanted (text e.0 ∷ p.0, p.1))) (pairs e.1)) es in
        omega (arith, le, h)

    none_below : {K : Type 0} (text : K → List ℕ) (plain : Bool) → is_of plain c ≡ false → (es : List (K × Node V)) → weigh_below (λ k. guarded plain wanted (text k)) es ≡ 0
    none_below text plain h es = sum_all_zero (λ e. sum_by (guarded plain wanted (text e.0)) (pairs e.1)) (λ e. sum_all_zero (guarded plain wanted (text e.0)) (other_kind plain h (text e.0)) (pairs e.1)) es

    pub none_plain : (x : Node-F V (Node V)) → is_plain_text c ≡ true → weigh_below (λ k p. wanted (k.items ∷ p.0, p.1)) x.plain.entries ≡ 0 → level wanted x ≡ 0
    none_plain x plain h = omega (arith, this_kind (λ k. k.items) true x.plain.entries h, none_below (λ k. k.items) false (ap not plain) x.wild.entries, sum_all_zero (λ w. wanted ([], w)) (λ w. refl) x.values.items)

    pub none_wild : (x : Node-F V (Node V)) → is_plain_text c ≡ false → weigh_below (λ k p. wanted (k.items ∷ p.0, p.1)) x.wild.entries ≡ 0 → level wanted x ≡ 0
    none_wild x wild h = omega (arith, this_kind (λ k. k.items) false x.wild.entries h, none_below (λ k. k.items) true wild x.plain.entries, sum_all_zero (λ w. wanted ([], w)) (λ w. refl) x.values.items)

fails_all : {A : Type 0} (t : A → Bool) (xs : List A) → position t xs ≡ None → length xs ≤ position_or_len t xs
fails_all t xs none = by (nat_lt (position_or_len t xs) (length xs)) refl none
  where
    by : (b : Bool) → nat_lt (position_or_len t xs) (length xs) ≡ b → cond b (Some (position_or_len t xs)) None ≡ None → length xs ≤ position_or_len t xs
    by true e h = cc
    by false e h = grind (arith, nat_tests)

pub none_placed : {A : Type 0} (t : A → Bool) (xs : List A) → position t xs ≡ None → list_any t xs ≡ false
none_placed t [] none = refl
none_placed t (x ∷ xs) none =
    let long : length (x ∷ xs) ≤ position_or_len t (x ∷ xs) = fails_all t (x ∷ xs) none in
    list_any_none t (x ∷ xs) (All-from_get_or (λ y. t y ≡ false) (x ∷ xs) x (λ i lt. fails_before_first t (x ∷ xs) i x (omega arith)))
