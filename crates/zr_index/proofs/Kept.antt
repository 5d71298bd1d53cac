-- What is left of a list whose equal neighbours go passes the tests that it passed.
use Rattle.std.proofs.Common.{◌≡◌, Bool, true, false, cond, ◌||◌, List, [], ◌∷◌, refl, sym, ap, ◌∙◌}
use Rattle.std.specs.List.{list_any, dedup, dedup_from}
use Rattle.std.specs.declared.cmp.Ordering.{Ordering}
use Rattle.std.specs.Ordering.{eq_by_cmp}
use Rattle.std.specs.Cmp.{IsTotalOrder}
use Rattle.std.proofs.lemmas.Cmp.{eq_by_cmp_equiv}
use Rattle.zr_lists.proofs.Finds.{same_any}
use Rattle.zr_index.specs.Walk.{is_among}

again : (b r : Bool) → (b || r) ≡ (b || (b || r))
again true r = refl
again false r = refl

one_more : {X : Type 0} (p : X → Bool) (k x : X) (ds es : List X) (r b : Bool) → (b ≡ true → p x ≡ p k) → list_any p ds ≡ (p k || r) → list_any p es ≡ (p x || r)
    → list_any p (cond b ds (k ∷ es)) ≡ (p k || (p x || r))
one_more p k x ds es r true h d e = d ∙ again (p k) r ∙ ap (λ b. p k || (b || r)) (sym (h refl))
one_more p k x ds es r false h d e = ap (λ b. p k || b) e

module _ {X : Type 0} (same : X → X → Bool) (p : X → Bool) (h : (x k : X) → same x k ≡ true → p x ≡ p k) where
  any_from : (k : X) (xs : List X) → list_any p (dedup_from same k xs) ≡ (p k || list_any p xs)
  any_from k [] = refl
  any_from k (x ∷ xs) = one_more p k x (dedup_from same k xs) (dedup_from same x xs) (list_any p xs) (same x k) (h x k) (any_from k xs) (any_from x xs)

  any_kept : (xs : List X) → list_any p (dedup same xs) ≡ list_any p xs
  any_kept [] = refl
  any_kept (x ∷ xs) = any_from x xs

-- a value that is among some is among what is left of them
pub still_among : {V : Type 0} {cmp : V → V → Ordering} (total : IsTotalOrder cmp) {same : V → V → Bool} (ties : (x y : V) → same x y ≡ eq_by_cmp cmp x y) (vs : List V) (v : V)
    → list_any (eq_by_cmp cmp v) (dedup same vs) ≡ is_among cmp vs v
still_among {cmp = cmp} total {same = same} ties vs v =
    let laws = eq_by_cmp_equiv total in
    any_kept same (eq_by_cmp cmp v) (λ x k e. laws.symm v x ∙ laws.congr x k v (sym (ties x k) ∙ e) ∙ laws.symm k v) vs
    ∙ same_any (eq_by_cmp cmp v) (λ w. eq_by_cmp cmp w v) vs (λ w there. laws.symm v w)
