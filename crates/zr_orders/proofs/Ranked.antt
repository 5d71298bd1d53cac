-- Two lists with the same things have one ascending order.
use Rattle.std.proofs.Common.{◌≡◌, ℕ, suc, ◌+◌, ◌<◌, false, cond, subst, add-one, List, [], ◌∷◌, map, refl, sym, ap, ◌∙◌, arith, IsPermutation, IsSorted}
use Rattle.std.specs.declared.cmp.Ordering.{Ordering}
use Rattle.std.specs.declared.cmp.Ordering.TheVariants.{Less, Equal, Greater}
use Rattle.std.specs.Ordering.{is_lt, is_eq, ordering_reverse}
use Rattle.std.specs.Cmp.{IsTotalOrder}
use Rattle.std.proofs.lemmas.Bool.{false≢true, true≢false}
use Rattle.std.proofs.lemmas.Cmp.{nat_list_cmp_total}
use native.Mathlib.Numerals.{unary_clauses}
use Rattle.std.proofs.lemmas.Map.Lookups.{exact_bytes}
use Rattle.std.specs.List.{sum_by}
use Rattle.std.proofs.lemmas.List.Sums.{sum_by-cons}
use Rattle.std.proofs.lemmas.List.Sorted.{sum_by-IsPermutation}
use Rattle.zr_orders.specs.Bag.{weigh, AreSame}
use Rattle.zr_orders.proofs.Passes.{same_map}
use Rattle.zr_orders.specs.Ranked.{put_in, ranked_by, text_cmp, ranked, SortedAlike, SortIsRanked}

module _ {K : Type 0} (cmp : K → K → Ordering) (total : IsTotalOrder cmp) (one : (x y : K) → cmp x y ≡ Equal → x ≡ y) where
  -- three ways in which two things stand
  data Stands (x y : K) : Type 0 where
    Below : cmp x y ≡ Less → Stands x y
    Same : x ≡ y → Stands x y
    Above : cmp y x ≡ Less → Stands x y

  stands : (x y : K) → Stands x y
  stands x y = by (cmp x y) refl
    where
      by : (o : Ordering) → cmp x y ≡ o → Stands x y
      by Less e = Below e
      by Equal e = Same (one x y e)
      by Greater e = Above (total.antisymm y x ∙ ap ordering_reverse e)

  not_above : (x y : K) → cmp x y ≡ Less → is_lt (cmp y x) ≡ false
  not_above x y e = ap is_lt (total.antisymm y x ∙ ap ordering_reverse e)

  same_not_below : (x : K) → is_lt (cmp x x) ≡ false
  same_not_below x = by (cmp x x) refl (total.antisymm x x)
    where
      by : (o : Ordering) → cmp x x ≡ o → cmp x x ≡ ordering_reverse (cmp x x) → is_lt (cmp x x) ≡ false
      by Less e r = ap is_lt (r ∙ ap ordering_reverse e)
      by Equal e r = ap is_lt e
      by Greater e r = ap is_lt e

  past : (x y : K) (ys : List K) → cmp y x ≡ Less → put_in cmp x (y ∷ ys) ≡ y ∷ put_in cmp x ys
  past x y ys e = ap (λ o. cond (is_lt o) (y ∷ put_in cmp x ys) (x ∷ y ∷ ys)) e

  first : (x y : K) (ys : List K) → is_lt (cmp y x) ≡ false → put_in cmp x (y ∷ ys) ≡ x ∷ y ∷ ys
  first x y ys e = ap (λ b. cond b (y ∷ put_in cmp x ys) (x ∷ y ∷ ys)) e

  strict : (a b : K) → cmp a b ≡ Less → (xs : List K) → put_in cmp a (put_in cmp b xs) ≡ put_in cmp b (put_in cmp a xs)
  strict a b lt [] = first a b [] (not_above a b lt) ∙ sym (past b a [] lt)
  strict a b lt (x ∷ xs) = by (strict a b lt xs) (stands b x)
    where
      -- b comes before x, and so does a
      both : is_lt (cmp x b) ≡ false → is_lt (cmp x a) ≡ false → put_in cmp a (put_in cmp b (x ∷ xs)) ≡ put_in cmp b (put_in cmp a (x ∷ xs))
      both hb ha =
          ap (put_in cmp a) (first b x xs hb) ∙ first a b (x ∷ xs) (not_above a b lt)
          ∙ sym (ap (put_in cmp b) (first a x xs ha) ∙ past b a (x ∷ xs) lt ∙ ap (λ l. a ∷ l) (first b x xs hb))

      between : cmp x b ≡ Less → is_lt (cmp x a) ≡ false → put_in cmp a (put_in cmp b (x ∷ xs)) ≡ put_in cmp b (put_in cmp a (x ∷ xs))
      between hb ha =
          ap (put_in cmp a) (past b x xs hb) ∙ first a x (put_in cmp b xs) ha
          ∙ sym (ap (put_in cmp b) (first a x xs ha) ∙ past b a (x ∷ xs) lt ∙ ap (λ l. a ∷ l) (past b x xs hb))

      -- b comes behind x
      behind : put_in cmp a (put_in cmp b xs) ≡ put_in cmp b (put_in cmp a xs) → cmp x b ≡ Less → Stands a x → put_in cmp a (put_in cmp b (x ∷ xs)) ≡ put_in cmp b (put_in cmp a (x ∷ xs))
      behind ih hb (Above ha) =
          ap (put_in cmp a) (past b x xs hb) ∙ past a x (put_in cmp b xs) ha ∙ ap (λ l. x ∷ l) ih
          ∙ sym (ap (put_in cmp b) (past a x xs ha) ∙ past b x (put_in cmp a xs) hb)
      behind ih hb (Below ha) = between hb (not_above a x ha)
      behind ih hb (Same e) = between hb (subst (λ z. is_lt (cmp z a) ≡ false) e (same_not_below a))

      by : put_in cmp a (put_in cmp b xs) ≡ put_in cmp b (put_in cmp a xs) → Stands b x → put_in cmp a (put_in cmp b (x ∷ xs)) ≡ put_in cmp b (put_in cmp a (x ∷ xs))
      by ih (Below hb) = both (not_above b x hb) (not_above a x (total.trans a b x lt hb))
      by ih (Same e) = both (subst (λ z. is_lt (cmp z b) ≡ false) e (same_not_below b)) (subst (λ z. is_lt (cmp z a) ≡ false) e (not_above a b lt))
      by ih (Above hb) = behind ih hb (stands a x)

  -- it does not matter which of two is put in first
  swaps : (a b : K) (xs : List K) → put_in cmp a (put_in cmp b xs) ≡ put_in cmp b (put_in cmp a xs)
  swaps a b xs = by (stands a b)
    where
      by : Stands a b → put_in cmp a (put_in cmp b xs) ≡ put_in cmp b (put_in cmp a xs)
      by (Below e) = strict a b e xs
      by (Same e) = subst (λ c. put_in cmp a (put_in cmp c xs) ≡ put_in cmp c (put_in cmp a xs)) e refl
      by (Above e) = sym (strict b a e xs)

  -- ---- one is taken out

  -- 1 for a thing that is x
  abbrev is : K → K → ℕ
  is x y = cond (is_eq (cmp x y)) 1 0

  same_is : (x : K) → is x x ≡ 1
  same_is x = by (cmp x x) refl (total.antisymm x x)
    where
      by : (o : Ordering) → cmp x x ≡ o → cmp x x ≡ ordering_reverse (cmp x x) → is x x ≡ 1
      by Less e r = absurd (false≢true (ap is_lt (sym (r ∙ ap ordering_reverse e) ∙ e)))
      by Equal e r = ap (λ o. cond (is_eq o) 1 0) e
      by Greater e r = absurd (true≢false (ap is_lt (sym (r ∙ ap ordering_reverse e) ∙ e)))

  record IsOut (x : K) (ys : List K) : Type 0 where
    others : List K
    same : AreSame ys (x ∷ others)
    ranked_is : ranked_by cmp ys ≡ put_in cmp x (ranked_by cmp others)

  out : (x : K) (ys : List K) → 0 < weigh (is x) ys → IsOut x ys
  out x [] lt = absurd (omega (arith, lt))
  out x (y ∷ ys) lt = by (λ h. out x ys h) (cmp x y) refl
    where
      away : (0 < weigh (is x) ys → IsOut x ys) → (o : Ordering) → is_eq o ≡ false → cmp x y ≡ o → IsOut x (y ∷ ys)
      away ih o other e =
          let none : is x y ≡ 0 = ap (λ o. cond (is_eq o) 1 0) e ∙ ap (λ b. cond b 1 0) other in
          let more : IsOut x ys = ih (omega (arith, lt, none)) in record {
            others = y ∷ more.others;
            same = λ f. let s = more.same f in omega (arith, s);
            ranked_is = ap (put_in cmp y) more.ranked_is ∙ swaps y x (ranked_by cmp more.others);
          }

      by : (0 < weigh (is x) ys → IsOut x ys) → (o : Ordering) → cmp x y ≡ o → IsOut x (y ∷ ys)
      by ih Equal e = record { others = ys; same = λ f. ap (λ z. f z + weigh f ys) (sym (one x y e)); ranked_is = ap (λ z. put_in cmp z (ranked_by cmp ys)) (sym (one x y e)) }
      by ih Less e = away ih Less refl e
      by ih Greater e = away ih Greater refl e

  pub ranked_same : (xs ys : List K) → AreSame xs ys → ranked_by cmp xs ≡ ranked_by cmp ys
  ranked_same [] [] same = refl
  ranked_same [] (y ∷ ys) same = let e = same (λ z. 1) in absurd (omega (arith, e))
  ranked_same (x ∷ xs) ys same =
      let e = same (is x) in
      let here = same_is x in
      let o : IsOut x ys = out x ys (omega (arith, e, here)) in
      ap (put_in cmp x) (ranked_same xs o.others (λ f. let a = same f in let b = o.same f in omega (arith, a, b))) ∙ sym o.ranked_is

  -- ---- what is in order stays as it is

  in_order : (xs : List K) → IsSorted cmp xs → ranked_by cmp xs ≡ xs
  in_order [] up = refl
  in_order (x ∷ xs) up = ap (put_in cmp x) (in_order xs (λ k d lo hi. let h = simp unary_clauses at (up (suc k) d (omega arith) (omega arith)) in rw add-one h)) ∙ front xs up
    where
      front : (ys : List K) → IsSorted cmp (x ∷ ys) → put_in cmp x ys ≡ x ∷ ys
      front [] up = refl
      front (y ∷ ys) up = first x y ys (up 0 x (omega arith) (omega arith))

-- ---- texts

text_one : (s t : List ℕ) → text_cmp s t ≡ Equal → s ≡ t
text_one s t e = exact_bytes s t e

pub texts_same : (ts us : List (List ℕ)) → AreSame ts us → ranked ts ≡ ranked us
texts_same = ranked_same text_cmp nat_list_cmp_total text_one

pub sorted_alike : (X : Type 0) → SortedAlike X
sorted_alike X text xs ys same = texts_same (map text xs) (map text ys) (same_map text xs ys same)

-- ---- a permutation has the same things

pub weigh_sum : {X : Type 0} (f : X → ℕ) (xs : List X) → weigh f xs ≡ sum_by f xs
weigh_sum f [] = refl
weigh_sum f (x ∷ xs) = omega (arith, weigh_sum f xs, sum_by-cons f x xs)

pub permutation_same : {X : Type 0} (xs ys : List X) → IsPermutation xs ys → AreSame xs ys
permutation_same xs ys p f = weigh_sum f xs ∙ sym (sum_by-IsPermutation f xs ys p) ∙ sym (weigh_sum f ys)

pub sort_is_ranked : SortIsRanked
sort_is_ranked ts us p up = sym (in_order text_cmp nat_list_cmp_total text_one us up) ∙ sym (texts_same ts us (permutation_same ts us p))
