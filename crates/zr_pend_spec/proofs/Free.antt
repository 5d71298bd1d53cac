-- The least number that isn't pending on a link. The search for it takes as many steps as numbers are pending: were it to end at a
-- pending one, one more number than there are would be pending (`pigeons`).
use Rattle.std.proofs.Common.{◌≡◌, ℕ, zero, suc, ◌+◌, ◌<◌, ◌≤◌, ◌==◌, ◌&&◌, ◌||◌, not, Bool, true, false, cond, List, [], ◌∷◌, length, map, filter, refl, sym, ap, ◌∙◌, arith}
use Rattle.std.specs.List.{list_any}
use Rattle.std.proofs.lemmas.Bool.{eqb-true, eqb-false, false_from_ne_true}
use Rattle.std.proofs.lemmas.List.Folds.{list_any-append}
use Rattle.zr_id.specs.declared.link.LinkNo.{LinkNo}
use Rattle.zr_pend_spec.specs.declared.branch.Branch.{Branch}
use Rattle.zr_pend_spec.specs.Row.{RowState, numbers_of}
use Rattle.zr_pend_spec.specs.Laws.{IsLeastFree}
use Rattle.zr_pend_spec.specs.Pending.{first_free, is_pending, branch, numbers_on, free_number}

-- a number that is taken is passed over
pub first_free_past : (p : ℕ → Bool) (steps n : ℕ) → p n ≡ true → first_free p (suc steps) n ≡ first_free p steps (n + 1)
first_free_past p steps n h = rw h refl

-- one that isn't taken is found
pub first_free_found : (p : ℕ → Bool) (steps n : ℕ) → p n ≡ false → first_free p steps n ≡ n
first_free_found p zero n h = refl
first_free_found p (suc steps) n h = rw h refl

-- it is not below the first one that was tried
pub first_free_from : (p : ℕ → Bool) (steps n : ℕ) → n ≤ first_free p steps n
first_free_from p zero n = omega arith
first_free_from p (suc steps) n = by (p n) (first_free_from p steps (n + 1))
  where
    by : (t : Bool) → n + 1 ≤ first_free p steps (n + 1) → n ≤ cond t (first_free p steps (n + 1)) n
    by true h = omega arith
    by false h = omega arith

-- nor above as many as were tried
first_free_upto : (p : ℕ → Bool) (steps n : ℕ) → first_free p steps n ≤ n + steps
first_free_upto p zero n = omega arith
first_free_upto p (suc steps) n = by (p n) (first_free_upto p steps (n + 1))
  where
    by : (t : Bool) → first_free p steps (n + 1) ≤ n + 1 + steps → cond t (first_free p steps (n + 1)) n ≤ n + suc steps
    by true h = omega arith
    by false h = omega arith

-- all before it are taken
pub first_free_below : (p : ℕ → Bool) (steps n k : ℕ) → n ≤ k → k < first_free p steps n → p k ≡ true
first_free_below p zero n k le lt = absurd (omega arith)
first_free_below p (suc steps) n k le lt = by (p n) refl (first_free_below p steps (n + 1) k) lt
  where
    by : (t : Bool) → p n ≡ t → (n + 1 ≤ k → k < first_free p steps (n + 1) → p k ≡ true) → k < cond t (first_free p steps (n + 1)) n → p k ≡ true
    by true e h l = at (n == k) refl
      where
        at : (s : Bool) → (n == k) ≡ s → p k ≡ true
        at true q = rw (← eqb-true n k q) e
        at false q = h (omega (arith, eqb-false n k q)) l
    by false e h l = absurd (omega arith)

-- where it is taken itself, so are all that were tried
all_taken : (p : ℕ → Bool) (steps n : ℕ) → p (first_free p steps n) ≡ true → (k : ℕ) → n ≤ k → k ≤ n + steps → p k ≡ true
all_taken p zero n h k le up = let e : n ≡ k = omega arith in rw (← e) h
all_taken p (suc steps) n h k le up = by (p n) refl (λ q l u. all_taken p steps (n + 1) q k l u) h
  where
    by : (t : Bool) → p n ≡ t → (p (first_free p steps (n + 1)) ≡ true → n + 1 ≤ k → k ≤ n + 1 + steps → p k ≡ true) → p (cond t (first_free p steps (n + 1)) n) ≡ true → p k ≡ true
    by true e ih q = at (n == k) refl
      where
        at : (s : Bool) → (n == k) ≡ s → p k ≡ true
        at true r = rw (← eqb-true n k r) e
        at false r = ih q (omega (arith, eqb-false n k r)) (omega arith)
    by false e ih q = let no : false ≡ true = sym e ∙ q in cc

-- a number is among these
abbrev pub is_in : ℕ → List ℕ → Bool
is_in k ns = list_any (λ m. m == k) ns

abbrev but : ℕ → List ℕ → List ℕ
but n ns = filter (λ m. not (m == n)) ns

but_le : (n : ℕ) (ns : List ℕ) → length (but n ns) ≤ length ns
but_le n [] = omega arith
but_le n (m ∷ ms) = by (not (m == n)) (but_le n ms)
  where
    by : (t : Bool) → length (but n ms) ≤ length ms → length (cond t (m ∷ but n ms) (but n ms)) ≤ suc (length ms)
    by true h = omega arith
    by false h = omega arith

but_lt : (n : ℕ) (ns : List ℕ) → is_in n ns ≡ true → length (but n ns) < length ns
but_lt n [] h = cc
but_lt n (m ∷ ms) h = by (m == n) (but_le n ms) (but_lt n ms) h
  where
    by : (t : Bool) → length (but n ms) ≤ length ms → (is_in n ms ≡ true → length (but n ms) < length ms) → (t || is_in n ms) ≡ true → length (cond (not t) (m ∷ but n ms) (but n ms)) < suc (length ms)
    by true le ih q = omega arith
    by false le ih q = let lt : length (but n ms) < length ms = ih q in omega arith

-- another number stays among them
but_keeps : (n k : ℕ) (ns : List ℕ) → n < k → is_in k ns ≡ true → is_in k (but n ns) ≡ true
but_keeps n k [] lt h = h
but_keeps n k (m ∷ ms) lt h = by (m == n) refl (m == k) refl (but_keeps n k ms lt) h
  where
    by : (s : Bool) → (m == n) ≡ s → (t : Bool) → (m == k) ≡ t → (is_in k ms ≡ true → is_in k (but n ms) ≡ true) → (t || is_in k ms) ≡ true → is_in k (cond (not s) (m ∷ but n ms) (but n ms)) ≡ true
    by true e true f ih q = absurd (omega (arith, eqb-true m n e, eqb-true m k f))
    by true e false f ih q = ih q
    by false e true f ih q = rw f refl
    by false e false f ih q = rw f (ih q)

-- a row of numbers that are all among these is no longer than these
pigeons : (steps n : ℕ) (ns : List ℕ) → ((k : ℕ) → n ≤ k → k ≤ n + steps → is_in k ns ≡ true) → steps < length ns
pigeons zero n ns h = let lt = but_lt n ns (h n (omega arith) (omega arith)) in omega arith
pigeons (suc steps) n ns h =
    let lt = but_lt n ns (h n (omega arith) (omega arith)) in
    let more = pigeons steps (n + 1) (but n ns) (λ k le up. but_keeps n k ns (omega arith) (h k (omega arith) (omega arith))) in
    omega arith

-- ---- on the rows

in_numbers : (link : LinkNo) (n : ℕ) (bs : List Branch) → list_any (λ b. b.link.0 == link.0 && b.number == n) bs ≡ is_in n (map (λ b. b.number) (filter (λ b. b.link.0 == link.0) bs))
in_numbers link n [] = refl
in_numbers link n (b ∷ bs) = by (b.link.0 == link.0) (in_numbers link n bs)
  where
    by : (t : Bool) → list_any (λ c. c.link.0 == link.0 && c.number == n) bs ≡ is_in n (map (λ c. c.number) (filter (λ c. c.link.0 == link.0) bs)) →
        (t && b.number == n || list_any (λ c. c.link.0 == link.0 && c.number == n) bs)
        ≡ is_in n (map (λ c. c.number) (cond t (b ∷ filter (λ c. c.link.0 == link.0) bs) (filter (λ c. c.link.0 == link.0) bs)))
    by true ih = ap (λ z. b.number == n || z) ih
    by false ih = ih

-- a number is pending on a link where it is among those that are
pub pending_is_in : (link : LinkNo) (n : ℕ) (rows : List RowState) → is_pending (branch link n) rows ≡ is_in n (numbers_on link rows)
pending_is_in link n [] = refl
pending_is_in link n (r ∷ rows) =
    ap (λ z. z || is_pending (branch link n) rows) (in_numbers link n r.branches)
    ∙ ap (λ z. is_in n (numbers_of link r) || z) (pending_is_in link n rows)
    ∙ sym (list_any-append (λ m. m == n) (numbers_of link r) (numbers_on link rows))

pub free_is_free : (link : LinkNo) (rows : List RowState) → is_pending (branch link (free_number link rows)) rows ≡ false
free_is_free link rows =
    let ns = numbers_on link rows in
    let p : ℕ → Bool = λ n. is_pending (branch link n) rows in
    false_from_ne_true _ (λ t.
    let lt : length ns < length ns = pigeons (length ns) 1 ns (λ k le up. sym (pending_is_in link k rows) ∙ all_taken p (length ns) 1 t k le up) in
    absurd (omega arith))

pub free_is_least : (link : LinkNo) (rows : List RowState) → IsLeastFree rows link (free_number link rows)
free_is_least link rows =
    let ns = numbers_on link rows in
    let p : ℕ → Bool = λ n. is_pending (branch link n) rows in
    record {
      positive = first_free_from p (length ns) 1;
      free = free_is_free link rows;
      within = let le = first_free_upto p (length ns) 1 in omega arith;
      least = λ k le lt. first_free_below p (length ns) 1 k le lt;
    }
