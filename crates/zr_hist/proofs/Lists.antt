-- Prefixes of one list, and who appended what.
use Rattle.std.proofs.Common.{◌≡◌, ◌≢◌, ℕ, ◌≤◌, Bool, true, false, eqb, eq-eqb, ne_eqb, List, [], ◌∷◌, ◌++◌, length, refl, ap, sym, ◌∙◌, inl, inr, arith, append_assoc}
use mathlib.Core.List.{IsPrefix, map-append}
use Rattle.std.specs.Prelude.{if◌then◌else◌}
use Rattle.zr_hist.specs.Rule.{entries, made_by, IsSublist}

pub prefix_nil : {A : Type 0} (xs : List A) → IsPrefix [] xs
prefix_nil xs = (xs, refl)

pub prefix_more : {A : Type 0} (xs ys zs : List A) → IsPrefix xs ys → IsPrefix xs (ys ++ zs)
prefix_more xs ys zs p = (p.0 ++ zs, sym (append_assoc xs p.0 zs) ∙ ap (λ w. w ++ zs) p.1)

-- of two prefixes of one list the shorter is a prefix of the longer
pub prefix_shorter : {A : Type 0} (xs ys zs : List A) → IsPrefix xs zs → IsPrefix ys zs → length xs ≤ length ys → IsPrefix xs ys
prefix_shorter [] ys zs p q le = (ys, refl)
prefix_shorter (x ∷ xs) [] zs p q le = absurd (omega arith)
prefix_shorter (x ∷ xs) (y ∷ ys) [] p q le = absurd (cc (p.1))
prefix_shorter (x ∷ xs) (y ∷ ys) (z ∷ zs) p q le =
    let heads : x ≡ y = cc (p.1, q.1) in
    let rest = prefix_shorter xs ys zs (p.0, cc (p.1)) (q.0, cc (q.1)) (omega arith) in
    (rest.0, cc (heads, rest.1))

module _ {E : Type 0} where
  put_last : (b : Bool) (x : E) (l m n : List E) → l ≡ m ++ n → (if b then x ∷ l else l) ≡ (if b then x ∷ m else m) ++ n
  put_last true x l m n h = ap (λ z. x ∷ z) h
  put_last false x l m n h = h

  pub own_entry : (log : List (ℕ × E)) (id : ℕ) (e : E) → made_by id (log ++ (id, e) ∷ []) ≡ made_by id log ++ e ∷ []
  own_entry [] id e = ap (λ b. if b then e ∷ [] else []) (eq-eqb id id refl)
  own_entry (y ∷ log) id e = put_last (eqb y.0 id) y.1 _ _ _ (own_entry log id e)

  pub others_entry : (log : List (ℕ × E)) (by id : ℕ) (e : E) → by ≢ id → made_by id (log ++ (by, e) ∷ []) ≡ made_by id log
  others_entry [] by id e ne = ap (λ b. if b then e ∷ [] else []) (ne_eqb by id ne)
  others_entry (y ∷ log) by id e ne = ap (λ z. if eqb y.0 id then y.1 ∷ z else z) (others_entry log by id e ne)

  pub entries_last : (log : List (ℕ × E)) (id : ℕ) (e : E) → entries (log ++ (id, e) ∷ []) ≡ entries log ++ e ∷ []
  entries_last log id e = map-append (λ x. x.1) log ((id, e) ∷ [])

  some_of : (b : Bool) (x : E) (l m : List E) → IsSublist l m → IsSublist (if b then x ∷ l else l) (x ∷ m)
  some_of true x l m h = inl (refl, h)
  some_of false x [] m h = tt
  some_of false x (y ∷ l) m h = inr h

  -- what a seat appended stands in the list, in its order
  pub made_by_sublist : (id : ℕ) (log : List (ℕ × E)) → IsSublist (made_by id log) (entries log)
  made_by_sublist id [] = refl
  made_by_sublist id (e ∷ log) = some_of (eqb e.0 id) e.1 (made_by id log) (entries log) (made_by_sublist id log)
