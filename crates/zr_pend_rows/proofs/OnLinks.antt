-- The numbers that are pending on each link, and what the begin of a request, the end of a branch and the end of a link make of them.
use Rattle.std.proofs.Common.{◌≡◌, ℕ, ◌+◌, ◌≤◌, ◌<◌, ◌==◌, ◌&&◌, ◌||◌, nat_le, not, Bool, true, false, cond, List, [], ◌∷◌, ◌++◌, map, filter, length, Result, Ok, Err, IfOk, refl, sym, ap, ◌∙◌, arith}
use Rattle.std.specs.List.{list_any, list_all, fold}
use Rattle.std.proofs.lemmas.Bool.{eqb-true, eqb-false, eq-eqb, leb-true, leb-false, le-leb, false_from_ne_true, false≢true, and_from, or_from, or_left, or_right, not-true, not_from_false}
use Rattle.std.proofs.lemmas.List.{map-append}
use Rattle.std.proofs.lemmas.List.Elements.{filter-append}
use Rattle.std.proofs.lemmas.List.Folds.{list_any-append}
use Rattle.std.proofs.lemmas.Map.Views.{any-filter_same}
use Rattle.zr_id.specs.declared.link.LinkNo.{LinkNo}
use Rattle.zr_pend_spec.specs.declared.branch.Branch.{Branch}
use Rattle.zr_pend_spec.specs.Row.{RowState, has, is_branch, numbers_of}
use Rattle.zr_pend_spec.specs.Pending.{IsSound, are_distinct, ascending, branch, branches, dropped, finished, free_number, is_pending, numbers_on, opened, placed}
use Rattle.zr_pend_numbers.specs.Numbers.{Uses, is_in, is_used, rises, used_on}
use Rattle.zr_pend_rows.specs.Tied.{ArePending}
use Rattle.zr_pend_numbers.proofs.Rising.{not_in, lower}
use Rattle.zr_pend_spec.proofs.Dropped.{gone, in_order, is_branch_to}
use Rattle.zr_pend_spec.proofs.Free.{free_is_least, pending_is_in}
use Rattle.zr_pend_spec.proofs.Sound.{any_branch, finished_branches}
use Rattle.zr_lists.proofs.Truths.{or_swap}
use Rattle.zr_lists.proofs.Parts.{and_left, and_right, left_false, right_false}

-- ---- what the calls make of them

-- a request has begun
pub pending_begun : (uses news : Uses) (rows : List RowState) (r : RowState) → ((c : Branch) → is_used news c ≡ (list_any (λ b. is_branch c b) r.branches || is_used uses c)) → ArePending uses rows → ArePending news (rows ++ r ∷ [])
pending_begun uses news rows r e h c =
    e c ∙ ap (λ t. has c r || t) (h c) ∙ swap (has c r) (is_pending c rows) ∙ sym (list_any-append (λ (q : RowState). has c q) rows (r ∷ []))
  where
    swap : (s t : Bool) → (s || t) ≡ (t || (s || false))
    swap true true = refl
    swap true false = refl
    swap false true = refl
    swap false false = refl

-- a branch has ended
branch_turned : (b c : Branch) → is_branch b c ≡ is_branch c b
branch_turned b c = ap (λ t. t && c.number == b.number) (turned c.link.0 b.link.0) ∙ ap (λ t. b.link.0 == c.link.0 && t) (turned c.number b.number)
  where
    turned : (m n : ℕ) → (m == n) ≡ (n == m)
    turned m n = by (m == n) refl
      where
        by : (t : Bool) → (m == n) ≡ t → t ≡ (n == m)
        by true e = sym (eq-eqb n m (sym (eqb-true m n e)))
        by false e = sym (false_from_ne_true _ (λ q. absurd (omega (arith, eqb-false m n e, eqb-true n m q))))

one_left : (rows : List RowState) (b c : Branch) → is_pending c (finished rows b) ≡ (not (is_branch c b) && is_pending c rows)
one_left rows b c =
    sym (any_branch c (finished rows b))
    ∙ ap (λ bs. list_any (λ k. is_branch c k) bs) (finished_branches rows b)
    ∙ any-filter_same (λ k. is_branch c k) (λ k. not (is_branch b k)) (not (is_branch b c)) (λ k h. ap (λ t. not t) (is_branch_to b c k h)) (branches rows)
    ∙ ap (λ t. not (is_branch b c) && t) (any_branch c rows)
    ∙ ap (λ t. not t && is_pending c rows) (branch_turned b c)

pub pending_finished : (uses news : Uses) (rows : List RowState) (b : Branch) → ((c : Branch) → is_used news c ≡ (not (is_branch c b) && is_used uses c)) → ArePending uses rows → ArePending news (finished rows b)
pending_finished uses news rows b e h c = e c ∙ ap (λ t. not (is_branch c b) && t) (h c) ∙ sym (one_left rows b c)

-- a link went down
pub pending_dropped : (uses news : Uses) (rows : List RowState) (link : LinkNo) → ((c : Branch) → is_used news c ≡ (not (c.link.0 == link.0) && is_used uses c)) → ArePending uses rows → ArePending news (dropped link rows)
pending_dropped uses news rows link e h c = e c ∙ by (c.link.0 == link.0) refl
  where
    by : (t : Bool) → (c.link.0 == link.0) ≡ t → (not t && is_used uses c) ≡ is_pending c (dropped link rows)
    by true q = sym (ap (λ k. is_pending (branch (record { 0 = k }) c.number) (dropped link rows)) (eqb-true c.link.0 link.0 q) ∙ (gone link rows).none c.number)
    by false q = h c ∙ sym ((gone link rows).others c q)

-- ---- two ascending lists of the same numbers are one

in_other : (m n : ℕ) (ms : List ℕ) → is_in m (n ∷ ms) ≡ true → (n ≡ m → ⊥) → is_in m ms ≡ true
in_other m n ms h apart = by (n == m) refl h
  where
    by : (t : Bool) → (n == m) ≡ t → (t || is_in m ms) ≡ true → is_in m ms ≡ true
    by true e k = absurd (apart (eqb-true n m e))
    by false e k = k

is_first : (m : ℕ) (ms : List ℕ) → is_in m (m ∷ ms) ≡ true
is_first m ms = or_left _ _ (eq-eqb m m refl)

not_below : (low m : ℕ) (ms : List ℕ) → rises low ms ≡ true → is_in m ms ≡ true → low ≤ m
not_below low m ms h k = by (nat_le low m) refl
  where
    by : (t : Bool) → nat_le low m ≡ t → low ≤ m
    by true e = leb-true low m e
    by false e = absurd (false≢true (sym (not_in low m ms h (leb-false low m e)) ∙ k))

pub same_list : (low : ℕ) (ms ns : List ℕ) → rises low ms ≡ true → rises low ns ≡ true → ((k : ℕ) → is_in k ms ≡ is_in k ns) → ms ≡ ns
same_list low [] [] h k e = refl
same_list low [] (n ∷ ns) h k e = absurd (false≢true (e n ∙ is_first n ns))
same_list low (m ∷ ms) [] h k e = absurd (false≢true (sym (e m) ∙ is_first m ms))
same_list low (m ∷ ms) (n ∷ ns) h k e =
    let le : m ≤ n = least m n ms (and_right _ _ h) (e n ∙ is_first n ns) in
    let ge : n ≤ m = least n m ns (and_right _ _ k) (sym (e m) ∙ is_first m ms) in
    let one : m ≡ n = omega (arith, le, ge) in
    ap (λ z. z ∷ ms) one ∙ ap (λ z. n ∷ z) (same_list (m + 1) ms ns (and_right _ _ h) (lower (m + 1) (n + 1) ns (omega (arith, one)) (and_right _ _ k)) (rest one))
  where
    least : (a b : ℕ) (xs : List ℕ) → rises (a + 1) xs ≡ true → is_in b (a ∷ xs) ≡ true → a ≤ b
    least a b xs up q = at (a == b) refl
      where
        at : (t : Bool) → (a == b) ≡ t → a ≤ b
        at true f = omega (arith, eqb-true a b f)
        at false f = omega (arith, not_below (a + 1) b xs up (in_other b a xs q (λ z. absurd (omega (arith, eqb-false a b f, z)))))

    rest : m ≡ n → (j : ℕ) → is_in j ms ≡ is_in j ns
    rest one j = at (nat_le (m + 1) j) refl
      where
        at : (t : Bool) → nat_le (m + 1) j ≡ t → is_in j ms ≡ is_in j ns
        at true f =
            let up : m + 1 ≤ j = leb-true (m + 1) j f in
            sym (ap (λ t. t || is_in j ms) (false_from_ne_true (m == j) (λ z. absurd (omega (arith, eqb-true m j z)))))
            ∙ e j
            ∙ ap (λ t. t || is_in j ns) (false_from_ne_true (n == j) (λ z. absurd (omega (arith, one, eqb-true n j z))))
        at false f =
            let low : j < m + 1 = leb-false (m + 1) j f in
            not_in (m + 1) j ms (and_right _ _ h) low ∙ sym (not_in (n + 1) j ns (and_right _ _ k) (omega (arith, one, low)))

-- ---- numbers that differ, in ascending order

abbrev pub differs : List ℕ → Bool
differs [] = true
differs (n ∷ ns) = not (is_in n ns) && differs ns

placed_in : (m : ℕ) (ms : List ℕ) (n : ℕ) → is_in m (placed ms n) ≡ (n == m || is_in m ms)
placed_in m [] n = refl
placed_in m (k ∷ ks) n = by (nat_le n k) (placed_in m ks n)
  where
    by : (t : Bool) → is_in m (placed ks n) ≡ (n == m || is_in m ks) → is_in m (cond t (n ∷ k ∷ ks) (k ∷ placed ks n)) ≡ (n == m || (k == m || is_in m ks))
    by true ih = refl
    by false ih = ap (λ z. k == m || z) ih ∙ or_swap (k == m) (n == m) (is_in m ks)

above_it : (n k : ℕ) → n ≤ k → (k ≡ n → ⊥) → n + 1 ≤ k
above_it n k le apart = by (n == k) refl
  where
    by : (t : Bool) → (n == k) ≡ t → n + 1 ≤ k
    by true q = absurd (apart (sym (eqb-true n k q)))
    by false q = omega (arith, eqb-false n k q)

placed_rises : (low : ℕ) (ms : List ℕ) (n : ℕ) → low ≤ n → rises low ms ≡ true → is_in n ms ≡ false → rises low (placed ms n) ≡ true
placed_rises low [] n le h free = and_from _ _ (le-leb low n le) refl
placed_rises low (k ∷ ks) n le h free = by (nat_le n k) refl (λ lt. placed_rises (k + 1) ks n lt (and_right _ _ h) (right_false _ _ free))
  where
    apart : k ≡ n → ⊥
    apart e = false≢true (sym (left_false _ _ free) ∙ eq-eqb k n e)

    by : (t : Bool) → nat_le n k ≡ t → (k + 1 ≤ n → rises (k + 1) (placed ks n) ≡ true) → rises low (cond t (n ∷ k ∷ ks) (k ∷ placed ks n)) ≡ true
    by true e more = and_from _ _ (le-leb low n le) (and_from _ _ (le-leb (n + 1) k (above_it n k (leb-true n k e) apart)) (and_right _ _ h))
    by false e more = and_from _ _ (and_left _ _ h) (more (omega (arith, leb-false n k e)))

all_rise : (ms ns : List ℕ) → rises 0 ms ≡ true → differs ns ≡ true → ((k : ℕ) → is_in k ns ≡ true → is_in k ms ≡ false) → rises 0 (fold placed ms ns) ≡ true
all_rise ms [] h d apart = h
all_rise ms (n ∷ ns) h d apart =
    all_rise (placed ms n) ns (placed_rises 0 ms n (omega arith) h (apart n (is_first n ns))) (and_right _ _ d)
    (λ k q. placed_in k ms n ∙ or_from _ _ (false_from_ne_true (n == k) (λ t. other k t q)) (apart k (or_right _ _ q)))
  where
    other : (k : ℕ) → (n == k) ≡ true → is_in k ns ≡ true → ⊥
    other k t q = false≢true (sym (not-true _ (and_left _ _ d)) ∙ ap (λ z. is_in z ns) (eqb-true n k t) ∙ q)

-- numbers that rise are others in ascending order where they are the same ones and these differ
pub in_order_by : (us ns : List ℕ) → rises 0 us ≡ true → differs ns ≡ true → ((k : ℕ) → is_in k us ≡ is_in k ns) → us ≡ ascending ns
in_order_by us ns h d e = same_list 0 us (ascending ns) h (all_rise [] ns refl d (λ k q. refl)) (λ k. e k ∙ sym ((in_order ns).same (λ m. m == k)))

-- ---- the numbers that are pending on a link

abbrev on : LinkNo → List Branch → List ℕ
on link bs = map (λ b. b.number) (filter (λ b. b.link.0 == link.0) bs)

numbers_are : (link : LinkNo) (rows : List RowState) → numbers_on link rows ≡ on link (branches rows)
numbers_are link [] = refl
numbers_are link (r ∷ rows) =
    ap (λ z. numbers_of link r ++ z) (numbers_are link rows)
    ∙ sym (map-append (λ (b : Branch). b.number) (filter (λ b. b.link.0 == link.0) r.branches) (filter (λ b. b.link.0 == link.0) (branches rows)))
    ∙ ap (λ z. map (λ (b : Branch). b.number) z) (sym (filter-append (λ (b : Branch). b.link.0 == link.0) r.branches (branches rows)))

number_apart : (link : LinkNo) (b : Branch) (cs : List Branch) → (b.link.0 == link.0) ≡ true → list_any (λ c. is_branch b c) cs ≡ false → is_in b.number (on link cs) ≡ false
number_apart link b [] e k = refl
number_apart link b (c ∷ cs) e k = by (c.link.0 == link.0) refl (number_apart link b cs e (right_false _ _ k))
  where
    by : (t : Bool) → (c.link.0 == link.0) ≡ t → is_in b.number (on link cs) ≡ false →
        is_in b.number (map (λ (x : Branch). x.number) (cond t (c ∷ filter (λ x. x.link.0 == link.0) cs) (filter (λ x. x.link.0 == link.0) cs))) ≡ false
    by true q ih =
        let here : (c.link.0 == b.link.0) ≡ true = eq-eqb c.link.0 b.link.0 (eqb-true c.link.0 link.0 q ∙ sym (eqb-true b.link.0 link.0 e)) in
        let other : (c.number == b.number) ≡ false = ap (λ t. t && c.number == b.number) (sym here) ∙ left_false _ _ k in
        or_from _ _ other ih
    by false q ih = ih

branches_differ : (link : LinkNo) (bs : List Branch) → are_distinct bs ≡ true → differs (on link bs) ≡ true
branches_differ link [] d = refl
branches_differ link (b ∷ bs) d = by (b.link.0 == link.0) refl (branches_differ link bs (and_right _ _ d))
  where
    by : (t : Bool) → (b.link.0 == link.0) ≡ t → differs (on link bs) ≡ true → differs (map (λ (c : Branch). c.number) (cond t (b ∷ filter (λ c. c.link.0 == link.0) bs) (filter (λ c. c.link.0 == link.0) bs))) ≡ true
    by true e ih = and_from _ _ (not_from_false _ (number_apart link b bs e (not-true _ (and_left _ _ d)))) ih
    by false e ih = ih

pub numbers_same : (uses : Uses) (rows : List RowState) (link : LinkNo) → IsSound rows → ArePending uses rows → rises 0 (used_on uses link.0) ≡ true → used_on uses link.0 ≡ ascending (numbers_on link rows)
numbers_same uses rows link s h up =
    in_order_by (used_on uses link.0) (numbers_on link rows) up (ap differs (numbers_are link rows) ∙ branches_differ link (branches rows) s.distinct)
    (λ k. h (branch link k) ∙ pending_is_in link k rows)

pub count_same : (uses : Uses) (rows : List RowState) (link : LinkNo) → IsSound rows → ArePending uses rows → rises 0 (used_on uses link.0) ≡ true → length (used_on uses link.0) ≡ length (numbers_on link rows)
count_same uses rows link s h up = ap (λ ns. length ns) (numbers_same uses rows link s h up) ∙ (in_order (numbers_on link rows)).as_many

-- ---- the number that is free

pub least_is_free : (uses : Uses) (rows : List RowState) (link : LinkNo) (n : ℕ) → ArePending uses rows → 1 ≤ n → is_in n (used_on uses link.0) ≡ false →
    ((k : ℕ) → 1 ≤ k → k < n → is_in k (used_on uses link.0) ≡ true) → n ≡ free_number link rows
least_is_free uses rows link n h up free least =
    let f = free_is_least link rows in
    let has : (k : ℕ) → is_in k (used_on uses link.0) ≡ is_pending (branch link k) rows = λ k. h (branch link k) in
    let not_below : n < free_number link rows → ⊥ = λ lt. false≢true (sym free ∙ has n ∙ f.least n up lt) in
    let not_above : free_number link rows < n → ⊥ = λ lt. false≢true (sym f.free ∙ sym (has (free_number link rows)) ∙ least (free_number link rows) f.positive lt) in
    nat_same n (free_number link rows) not_below not_above
  where
    nat_same : (a b : ℕ) → (a < b → ⊥) → (b < a → ⊥) → a ≡ b
    nat_same a b p q = by (a == b) refl (nat_le a b) refl
      where
        by : (t : Bool) → (a == b) ≡ t → (u : Bool) → nat_le a b ≡ u → a ≡ b
        by true e u k = eqb-true a b e
        by false e true k = absurd (p (omega (arith, eqb-false a b e, leb-true a b k)))
        by false e false k = absurd (q (omega (arith, leb-false a b k)))

-- the branches that a request opens have numbers that aren't in use
pub opened_fresh : (uses : Uses) (rows : List RowState) (to : List LinkNo) → ArePending uses rows → list_all (λ b. not (is_used uses b)) (opened rows to) ≡ true
opened_fresh uses rows [] h = refl
opened_fresh uses rows (l ∷ ls) h =
    and_from _ _ (ap (λ t. not t) (h (branch l (free_number l rows)) ∙ (free_is_least l rows).free)) (opened_fresh uses rows ls h)

-- what follows of a result
pub if_ok : {X E : Type 0} {P Q : X → Type 0} (r : Result X E) → ((x : X) → P x → Q x) → IfOk r P → IfOk r Q
if_ok (Ok x) f h = f x h
if_ok (Err e) f h = tt
