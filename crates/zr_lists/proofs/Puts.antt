-- Ascending lists with one more or one less: they ascend, and what stands in them under each key.
use Rattle.std.proofs.Common.{◌≡◌, ℕ, zero, suc, ◌<◌, Result, Ok, Err, is_ok, slice_get, arith, List, [], ◌∷◌, ◌++◌, Bool, true, false, cond, not, ◌||◌, ◌&&◌, Ordering, Less, Equal, Greater, Some, None, is_some, length, set, take, add-one, refl, sym, ap, ◌∙◌}
use Rattle.std.specs.List.{AllByRecursion, find, insert, remove}
use Rattle.std.specs.Option.{option_or}
use Rattle.std.specs.Ordering.{is_eq, is_lt}
use Rattle.std.proofs.lemmas.List.Folds.{find-append}
use Rattle.std.proofs.lemmas.List.Kept.{IsStrictlySortedBy-filter}
use Rattle.std.proofs.lemmas.List.{set_split}
use Rattle.zr_lists.specs.Ascending.{IsAscending, at_key, has_key, before_key, behind_key, put, without}
use Rattle.zr_lists.specs.Place.{IsAt, IsGap, IsPlace}
use Rattle.zr_lists.proofs.Each.{All-append, All-filter}
use Rattle.zr_lists.proofs.Filters.{find_filter_kept, find_filter_gone}
use Rattle.zr_lists.proofs.Options.{option_or-none}
use Rattle.zr_lists.proofs.Order.{IsExactOrder, comes, comes_back, is_itself, is_same, not_before_itself, apart_back}
use Rattle.zr_lists.proofs.Sorted.{sorted_between}

module _ {X K : Type 0} (cmp : K → K → Ordering) (key : X → K) (o : IsExactOrder cmp) where
  abbrev by_key : X → X → Ordering
  by_key x y = cmp (key x) (key y)

  pub ascending_put : (xs : List X) (x : X) → IsAscending cmp key xs → IsAscending cmp key (put cmp key xs x)
  ascending_put xs x up = sorted_between by_key (λ y z w h k. o.total.trans (key y) (key z) (key w) h k) x xs up

  pub ascending_without : (xs : List X) (k : K) → IsAscending cmp key xs → IsAscending cmp key (without cmp key xs k)
  ascending_without xs k up = IsStrictlySortedBy-filter by_key _ xs up

  pub All-put : (P : X → Type 0) (xs : List X) (x : X) → AllByRecursion P xs → P x → AllByRecursion P (put cmp key xs x)
  All-put P xs x h here =
      All-append P (before_key cmp key xs (key x)) (x ∷ behind_key cmp key xs (key x)) (All-filter _ P xs h) (here, All-filter _ P xs h)

  -- ---- what stands under each key

  pub at-put : (xs : List X) (x : X) (k : K) → at_key cmp key (put cmp key xs x) k ≡ cond (is_eq (cmp (key x) k)) (Some x) (at_key cmp key xs k)
  at-put xs x k =
      find-append (λ y. is_eq (cmp (key y) k)) (before_key cmp key xs (key x)) (x ∷ behind_key cmp key xs (key x)) ∙ by_order (cmp k (key x)) refl
    where
      is_here : (y : X) → is_eq (cmp (key y) k) ≡ true → key y ≡ k
      is_here y t = is_same cmp o (key y) k t

      by_order : (r : Ordering) → cmp k (key x) ≡ r →
          option_or (find (λ y. is_eq (cmp (key y) k)) (before_key cmp key xs (key x))) (cond (is_eq (cmp (key x) k)) (Some x) (find (λ y. is_eq (cmp (key y) k)) (behind_key cmp key xs (key x))))
          ≡ cond (is_eq (cmp (key x) k)) (Some x) (at_key cmp key xs k)
      by_order Less e =
          let c = comes cmp o k (key x) e in
          let kept = find_filter_kept (λ y. is_eq (cmp (key y) k)) (λ y. is_lt (cmp (key y) (key x))) xs (λ y t. rw (is_here y t) c.before) in
          let gone = find_filter_gone (λ y. is_eq (cmp (key y) k)) (λ y. is_lt (cmp (key x) (key y))) xs (λ y t. rw (is_here y t) c.not_after) in
          rw (kept, gone, c.apart_back) (option_or-none (at_key cmp key xs k))
      by_order Equal e =
          let i : k ≡ key x = o.exact k (key x) e in
          let gone = find_filter_gone (λ y. is_eq (cmp (key y) k)) (λ y. is_lt (cmp (key y) (key x))) xs (λ y t. rw (is_here y t, i) (not_before_itself cmp o (key x))) in
          let here : is_eq (cmp (key x) k) ≡ true = rw i (is_itself cmp o (key x)) in
          rw (gone, here) refl
      by_order Greater e =
          let c = comes_back cmp o k (key x) e in
          let gone = find_filter_gone (λ y. is_eq (cmp (key y) k)) (λ y. is_lt (cmp (key y) (key x))) xs (λ y t. rw (is_here y t) c.not_after) in
          let kept = find_filter_kept (λ y. is_eq (cmp (key y) k)) (λ y. is_lt (cmp (key x) (key y))) xs (λ y t. rw (is_here y t) c.before) in
          rw (gone, c.apart, kept) refl

  pub at-without : (xs : List X) (k l : K) → at_key cmp key (without cmp key xs k) l ≡ cond (is_eq (cmp k l)) None (at_key cmp key xs l)
  at-without xs k l = by_test (is_eq (cmp k l)) refl
    where
      by_test : (t : Bool) → is_eq (cmp k l) ≡ t → at_key cmp key (without cmp key xs k) l ≡ cond t None (at_key cmp key xs l)
      by_test true e =
          let i : k ≡ l = is_same cmp o k l e in
          find_filter_gone (λ y. is_eq (cmp (key y) l)) (λ y. not (is_eq (cmp (key y) k))) xs
          (λ y t. let here : is_eq (cmp (key y) k) ≡ true = rw i t in ap not here)
      by_test false e =
          find_filter_kept (λ y. is_eq (cmp (key y) l)) (λ y. not (is_eq (cmp (key y) k))) xs
          (λ y t.
          let i : key y ≡ l = is_same cmp o (key y) l t in
          let away : is_eq (cmp (key y) k) ≡ false = rw i (apart_back cmp o k l e) in
          ap not away)

  -- whether something stands there, once one is put in or taken out
  pub has_at : (xs : List X) (k : K) → has_key cmp key xs k ≡ is_some (at_key cmp key xs k)
  has_at [] k = refl
  has_at (x ∷ xs) k = by_test (is_eq (cmp (key x) k)) (has_at xs k)
    where
      by_test : (t : Bool) → has_key cmp key xs k ≡ is_some (at_key cmp key xs k) → (t || has_key cmp key xs k) ≡ is_some (cond t (Some x) (at_key cmp key xs k))
      by_test true ih = refl
      by_test false ih = ih

  pub has-put : (xs : List X) (x : X) (k : K) → has_key cmp key (put cmp key xs x) k ≡ (is_eq (cmp (key x) k) || has_key cmp key xs k)
  has-put xs x k = rw (has_at (put cmp key xs x) k, at-put xs x k, has_at xs k) (by_test (is_eq (cmp (key x) k)))
    where
      by_test : (t : Bool) → is_some (cond t (Some x) (at_key cmp key xs k)) ≡ (t || is_some (at_key cmp key xs k))
      by_test true = refl
      by_test false = refl

  pub has-without : (xs : List X) (k l : K) → has_key cmp key (without cmp key xs k) l ≡ (not (is_eq (cmp k l)) && has_key cmp key xs l)
  has-without xs k l = rw (has_at (without cmp key xs k) l, at-without xs k l, has_at xs l) (by_test (is_eq (cmp k l)))
    where
      by_test : (t : Bool) → is_some (cond t None (at_key cmp key xs l)) ≡ (not t && is_some (at_key cmp key xs l))
      by_test true = refl
      by_test false = refl

  -- ---- at a place that was found

  pub put_at : (xs : List X) (x : X) (i : ℕ) → IsAt cmp key xs (key x) i → set xs i x ≡ put cmp key xs x
  put_at xs x i h =
      set_split xs i x h.within ∙ ap (λ ys. take i xs ++ x ∷ ys) (rw (← add-one) (sym h.behind)) ∙ ap (λ ys. ys ++ x ∷ behind_key cmp key xs (key x)) (sym h.before)

  pub put_in : (xs : List X) (x : X) (i : ℕ) → IsGap cmp key xs (key x) i → insert xs i x ≡ put cmp key xs x
  put_in xs x i h = ap (λ ys. take i xs ++ x ∷ ys) (sym h.behind) ∙ ap (λ ys. ys ++ x ∷ behind_key cmp key xs (key x)) (sym h.before)

  pub removed_at : (xs : List X) (k : K) (i : ℕ) → IsAt cmp key xs k i → remove xs i ≡ without cmp key xs k
  removed_at xs k i h = rw (← add-one) (sym h.others)

  there : (ys : List X) (n : ℕ) → n < length ys → is_some (slice_get ys n) ≡ true
  there [] n lt = absurd (omega arith)
  there (y ∷ ys) zero lt = refl
  there (y ∷ ys) (suc n) lt = there ys n (omega arith)

  -- what a place tells of the key
  pub place_has : (xs : List X) (k : K) (r : Result ℕ ℕ) → IsPlace cmp key xs k r → is_ok r ≡ has_key cmp key xs k
  place_has xs k (Ok i) h = sym (has_at xs k ∙ ap is_some h.found ∙ there xs i h.within)
  place_has xs k (Err i) h = sym (has_at xs k ∙ ap is_some h.absent)
