-- How often numbers stand in a list, as one comes and as one goes.
use Rattle.std.proofs.Common.{◌≡◌, ℕ, zero, suc, ◌+◌, ◌<◌, ◌≤◌, ◌==◌, ◌||◌, not, nat_lt, Bool, true, false, cond, List, [], ◌∷◌, ◌++◌, length, filter, get_or, Option, Some, None, refl, sym, ap, ◌∙◌, arith}
use Rattle.std.specs.List.{list_any, remove}
use Rattle.std.specs.Option.{option_map_or}
use Rattle.std.specs.Ordering.{is_eq, nat_cmp}
use Rattle.std.proofs.lemmas.Bool.{eqb-true, eq-eqb, lt-ltb}
use Rattle.std.proofs.lemmas.List.Sums.{sum_by-cons, sum_by_push}
use Rattle.zr_lists.proofs.Numbers.{nat_eq_is}
use Rattle.zr_world_numbers.specs.declared.numbers.Entry.{Entry}
use Rattle.zr_world_numbers.specs.Index.{IsIndex, how_often, times_in}

-- one where it is so, and none else
abbrev one_if : Bool → ℕ
one_if b = cond b 1 0

none_more : (k : ℕ) → one_if false + k ≡ k
none_more k = omega arith

-- one number more before the others
often_more : (n m : ℕ) (ms : List ℕ) → how_often n (m ∷ ms) ≡ one_if (m == n) + how_often n ms
often_more n m ms = sum_by-cons (λ k. one_if (k == n)) m ms

-- one number more behind the others
often_pushed : (n m : ℕ) (ms : List ℕ) → how_often n (ms ++ m ∷ []) ≡ how_often n ms + one_if (m == n)
often_pushed n m ms = sum_by_push (λ k. one_if (k == n)) ms m

-- whether a number stands there
pub is_there : (n : ℕ) (ms : List ℕ) → nat_lt 0 (how_often n ms) ≡ list_any (λ m. m == n) ms
is_there n [] = refl
is_there n (m ∷ ms) = ap (λ k. nat_lt 0 k) (often_more n m ms) ∙ by (m == n) (is_there n ms)
  where
    by : (b : Bool) → nat_lt 0 (how_often n ms) ≡ list_any (λ k. k == n) ms → nat_lt 0 (one_if b + how_often n ms) ≡ (b || list_any (λ k. k == n) ms)
    by true ih = lt-ltb 0 (one_if true + how_often n ms) (omega arith)
    by false ih = ap (λ k. nat_lt 0 k) (none_more (how_often n ms)) ∙ ih

-- ---- one goes

-- the others
abbrev pub others : ℕ → List ℕ → List ℕ
others n ms = filter (λ m. not (m == n)) ms

pub none_goes : (n : ℕ) (ms : List ℕ) → how_often n ms ≡ 0 → others n ms ≡ ms
none_goes n [] h = refl
none_goes n (m ∷ ms) h = by (m == n) (sym (often_more n m ms) ∙ h) (λ e. none_goes n ms e)
  where
    by : (b : Bool) → one_if b + how_often n ms ≡ 0 → (how_often n ms ≡ 0 → others n ms ≡ ms) → cond (not b) (m ∷ others n ms) (others n ms) ≡ m ∷ ms
    by true e ih = absurd (omega (arith, e))
    by false e ih = ap (λ ks. m ∷ ks) (ih (sym (none_more (how_often n ms)) ∙ e))

stands : (n : ℕ) (ms : List ℕ) (at : ℕ) → at < length ms → get_or ms at 0 ≡ n → 1 ≤ how_often n ms
stands n [] at lt e = absurd (omega arith)
stands n (m ∷ ms) zero lt e = omega (arith, often_more n m ms, ap one_if (eq-eqb m n e))
stands n (m ∷ ms) (suc at) lt e = omega (arith, often_more n m ms, stands n ms at (omega arith) e)

-- the only one there goes
pub alone_goes : (n : ℕ) (ms : List ℕ) (at : ℕ) → how_often n ms ≡ 1 → at < length ms → get_or ms at 0 ≡ n → remove ms at ≡ others n ms
alone_goes n [] at h lt e = absurd (omega arith)
alone_goes n (m ∷ ms) zero h lt e =
    let same : (m == n) ≡ true = eq-eqb m n e in
    let rest : how_often n ms ≡ 0 = omega (arith, h, often_more n m ms, ap one_if same) in
    sym (ap (λ b. cond (not b) (m ∷ others n ms) (others n ms)) same ∙ none_goes n ms rest)
alone_goes n (m ∷ ms) (suc at) h lt e = by (m == n) (sym (often_more n m ms) ∙ h) (stands n ms at (omega arith) e) (λ f. alone_goes n ms at f (omega arith) e)
  where
    by : (b : Bool) → one_if b + how_often n ms ≡ 1 → 1 ≤ how_often n ms → (how_often n ms ≡ 1 → remove ms at ≡ others n ms) → m ∷ remove ms at ≡ cond (not b) (m ∷ others n ms) (others n ms)
    by true f there ih = absurd (omega (arith, f, there))
    by false f there ih = ap (λ ks. m ∷ ks) (ih (sym (none_more (how_often n ms)) ∙ f))

-- how often each stands there then
often_left : (n k : ℕ) (ms : List ℕ) → how_often k (others n ms) ≡ cond (n == k) 0 (how_often k ms)
often_left n k [] = by (n == k)
  where
    by : (b : Bool) → how_often k [] ≡ cond b 0 (how_often k [])
    by true = refl
    by false = refl
often_left n k (m ∷ ms) = by (m == n) refl (n == k) refl (often_left n k ms)
  where
    by : (a : Bool) → (m == n) ≡ a → (b : Bool) → (n == k) ≡ b → how_often k (others n ms) ≡ cond b 0 (how_often k ms) → how_often k (cond (not a) (m ∷ others n ms) (others n ms)) ≡ cond b 0 (how_often k (m ∷ ms))
    by true e true f ih = ih
    by true e false f ih = ih ∙ sym (often_more k m ms ∙ ap (λ t. one_if t + how_often k ms) (ap (λ i. i == k) (eqb-true m n e) ∙ f) ∙ none_more (how_often k ms))
    by false e true f ih = often_more k m (others n ms) ∙ ap (λ i. one_if (m == k) + i) ih ∙ ap (λ t. one_if t + 0) (ap (λ i. m == i) (sym (eqb-true n k f)) ∙ e)
    by false e false f ih = often_more k m (others n ms) ∙ ap (λ i. one_if (m == k) + i) ih ∙ sym (often_more k m ms)

-- ---- the index of them

pub index_pushed : (olds news : List (ℕ × Entry)) (n times : ℕ) (ms : List ℕ) → ((k : ℕ) → times_in news k ≡ cond (n == k) times (times_in olds k)) → IsIndex olds ms → times ≡ how_often n ms + 1 → IsIndex news (ms ++ n ∷ [])
index_pushed olds news n times ms e h t k = e k ∙ ap (λ i. cond (n == k) times i) (h k) ∙ by (n == k) refl ∙ sym (often_pushed k n ms)
  where
    by : (b : Bool) → (n == k) ≡ b → cond b times (how_often k ms) ≡ how_often k ms + one_if b
    by true f = t ∙ ap (λ i. how_often i ms + 1) (eqb-true n k f)
    by false f = omega arith

pub index_taken : (olds news : List (ℕ × Entry)) (n : ℕ) (ms : List ℕ) → ((k : ℕ) → times_in news k ≡ cond (n == k) 0 (times_in olds k)) → IsIndex olds ms → IsIndex news (others n ms)
index_taken olds news n ms e h k = e k ∙ ap (λ i. cond (n == k) 0 i) (h k) ∙ sym (often_left n k ms)

-- an entry more, and one less
pub with_entry : (n k times : ℕ) (o : Option Entry) → (e : Entry) → option_map_or (λ (i : Entry). i.times) (cond (is_eq (nat_cmp n k)) (Some e) o) 0 ≡ cond (n == k) e.times (option_map_or (λ (i : Entry). i.times) o 0)
with_entry n k times o e = by (is_eq (nat_cmp n k)) ∙ ap (λ b. cond b e.times (option_map_or (λ (i : Entry). i.times) o 0)) (nat_eq_is n k)
  where
    by : (b : Bool) → option_map_or (λ (i : Entry). i.times) (cond b (Some e) o) 0 ≡ cond b e.times (option_map_or (λ (i : Entry). i.times) o 0)
    by true = refl
    by false = refl

pub without_entry : (n k : ℕ) (o : Option Entry) → option_map_or (λ (i : Entry). i.times) (cond (is_eq (nat_cmp n k)) None o) 0 ≡ cond (n == k) 0 (option_map_or (λ (i : Entry). i.times) o 0)
without_entry n k o = by (is_eq (nat_cmp n k)) ∙ ap (λ b. cond b 0 (option_map_or (λ (i : Entry). i.times) o 0)) (nat_eq_is n k)
  where
    by : (b : Bool) → option_map_or (λ (i : Entry). i.times) (cond b None o) 0 ≡ cond b 0 (option_map_or (λ (i : Entry). i.times) o 0)
    by true = refl
    by false = refl
