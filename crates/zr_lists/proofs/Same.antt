-- An ascending list is told by what stands in it under each key.
use Rattle.std.proofs.Common.{◌≡◌, List, [], ◌∷◌, Bool, true, false, Ordering, Less, Equal, Greater, Some, None, refl, sym, ◌∙◌, subst}
use Rattle.std.specs.List.{AllByRecursion}
use Rattle.std.specs.Ordering.{is_eq}
use Rattle.std.proofs.lemmas.Map.Keys.{sorted_head, sorted_tail}
use Rattle.zr_lists.specs.Ascending.{IsAscending, at_key}
use Rattle.zr_lists.proofs.Order.{IsExactOrder, comes, comes_back, is_itself, is_same}
use Rattle.zr_lists.proofs.Places.{AllAfter, none_same}

module _ {X K : Type 0} (cmp : K → K → Ordering) (key : X → K) (o : IsExactOrder cmp) where
  abbrev by_key : X → X → Ordering
  by_key x y = cmp (key x) (key y)

  AllAfter-further : (k l : K) (xs : List X) → cmp k l ≡ Less → AllByRecursion (λ x. cmp l (key x) ≡ Less) xs → AllByRecursion (λ x. cmp k (key x) ≡ Less) xs
  AllAfter-further k l [] h a = tt
  AllAfter-further k l (x ∷ xs) h a = (o.total.trans k l (key x) h a.0, AllAfter-further k l xs h a.1)

  -- what is first in one list stands in the other under its key, so it is first there too
  pub same : (xs ys : List X) → IsAscending cmp key xs → IsAscending cmp key ys → ((k : K) → at_key cmp key xs k ≡ at_key cmp key ys k) → xs ≡ ys
  same [] [] up vp h = refl
  same [] (y ∷ ys) up vp h =
      let e : None ≡ Some y = rw (is_itself cmp o (key y)) at (h (key y)) in cc
  same (x ∷ xs) [] up vp h =
      let e : Some x ≡ None = rw (is_itself cmp o (key x)) at (h (key x)) in cc
  same (x ∷ xs) (y ∷ ys) up vp h = by_order (cmp (key x) (key y)) refl (λ k. same xs ys (sorted_tail by_key x xs up) (sorted_tail by_key y ys vp) k)
    where
      after_x : AllByRecursion (λ z. cmp (key x) (key z) ≡ Less) xs
      after_x = sorted_head by_key x xs up

      after_y : AllByRecursion (λ z. cmp (key y) (key z) ≡ Less) ys
      after_y = sorted_head by_key y ys vp

      by_test : (k : K) (t : Bool) → key x ≡ key y → is_eq (cmp (key x) k) ≡ t → at_key cmp key xs k ≡ at_key cmp key ys k
      by_test k true e t =
          let i : key x ≡ k = is_same cmp o (key x) k t in
          let j : key y ≡ k = sym e ∙ i in
          none_same cmp key o k xs (subst (λ (z : K). AllAfter cmp key o z xs) i after_x)
          ∙ sym (none_same cmp key o k ys (subst (λ (z : K). AllAfter cmp key o z ys) j after_y))
      by_test k false e t =
          let u : is_eq (cmp (key y) k) ≡ false = rw (sym e) t in
          rw (t, u) at (h k)

      by_order : (r : Ordering) → cmp (key x) (key y) ≡ r → (((k : K) → at_key cmp key xs k ≡ at_key cmp key ys k) → xs ≡ ys) → x ∷ xs ≡ y ∷ ys
      by_order Less e ih =
          let c = comes cmp o (key x) (key y) e in
          let gone : at_key cmp key ys (key x) ≡ None = none_same cmp key o (key x) ys (AllAfter-further (key x) (key y) ys e after_y) in
          let no : Some x ≡ None = rw (is_itself cmp o (key x), c.apart_back, gone) at (h (key x)) in
          cc
      by_order Equal e ih =
          let i : key x ≡ key y = o.exact (key x) (key y) e in
          let s : is_eq (cmp (key y) (key x)) ≡ true = rw i (is_itself cmp o (key y)) in
          let f : Some x ≡ Some y = rw (is_itself cmp o (key x), s) at (h (key x)) in
          let first : x ≡ y = cc in
          let rest : xs ≡ ys = ih (λ k. by_test k (is_eq (cmp (key x) k)) i refl) in
          cc
      by_order Greater e ih =
          let c = comes_back cmp o (key x) (key y) e in
          let gone : at_key cmp key xs (key y) ≡ None = none_same cmp key o (key y) xs (AllAfter-further (key y) (key x) xs c.less after_x) in
          let no : None ≡ Some y = rw (c.apart_back, gone, is_itself cmp o (key y)) at (h (key y)) in
          cc
