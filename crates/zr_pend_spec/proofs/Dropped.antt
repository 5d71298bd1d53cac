-- What a link that went down leaves. Each branch of the list that is ended is pending no more, and every other one is as it was
-- (`left_behind`); the list has each number that was pending on the link, in ascending order (`in_order`).
use Rattle.std.proofs.Common.{◌≡◌, ℕ, suc, ◌+◌, ◌==◌, ◌&&◌, ◌||◌, ◌≤◌, ◌<◌, nat_le, not, Bool, true, false, cond, List, [], ◌∷◌, map, filter, length, None, refl, sym, ap, ◌∙◌, arith}
use Rattle.std.specs.List.{list_any, list_all, fold}
use Rattle.std.proofs.lemmas.Bool.{eqb-true, eq-eqb, leb-true, leb-false, le-leb, and_from, or_from, or_left, or_right}
use Rattle.std.proofs.lemmas.Map.Views.{any-filter_same}
use Rattle.zr_id.specs.declared.link.LinkNo.{LinkNo}
use Rattle.zr_pend_spec.specs.declared.branch.Branch.{Branch}
use Rattle.zr_pend_spec.specs.Laws.{IsGone, IsInOrder, ascends}
use Rattle.zr_pend_spec.specs.Row.{RowState, is_branch, is_done, is_of, without}
use Rattle.zr_pend_spec.specs.Pending.{is_pending, branch, branches, branches_on, numbers_on, finished, all_finished, all_orphaned, dropped, count, placed, ascending}
use Rattle.zr_pend_spec.proofs.Free.{is_in, pending_is_in}
use Rattle.zr_pend_spec.proofs.Sound.{any_branch, finished_branches, all_orphaned_branches}
use Rattle.zr_lists.proofs.Truths.{or_swap}
use Rattle.zr_lists.proofs.Parts.{and_left, and_right, left_false, right_false}

-- ---- numbers in order

placed_any : (p : ℕ → Bool) (ms : List ℕ) (n : ℕ) → list_any p (placed ms n) ≡ (p n || list_any p ms)
placed_any p [] n = refl
placed_any p (m ∷ ms) n = by (nat_le n m) (placed_any p ms n)
  where
    by : (t : Bool) → list_any p (placed ms n) ≡ (p n || list_any p ms) → list_any p (cond t (n ∷ m ∷ ms) (m ∷ placed ms n)) ≡ (p n || (p m || list_any p ms))
    by true ih = refl
    by false ih = ap (λ z. p m || z) ih ∙ or_swap (p m) (p n) (list_any p ms)

placed_all : (p : ℕ → Bool) (ms : List ℕ) (n : ℕ) → p n ≡ true → list_all p ms ≡ true → list_all p (placed ms n) ≡ true
placed_all p [] n h k = and_from _ _ h refl
placed_all p (m ∷ ms) n h k = by (nat_le n m) (placed_all p ms n h (and_right _ _ k))
  where
    by : (t : Bool) → list_all p (placed ms n) ≡ true → list_all p (cond t (n ∷ m ∷ ms) (m ∷ placed ms n)) ≡ true
    by true ih = and_from _ _ h k
    by false ih = and_from _ _ (and_left _ _ k) ih

placed_length : (ms : List ℕ) (n : ℕ) → length (placed ms n) ≡ suc (length ms)
placed_length [] n = refl
placed_length (m ∷ ms) n = by (nat_le n m) (placed_length ms n)
  where
    by : (t : Bool) → length (placed ms n) ≡ suc (length ms) → length (cond t (n ∷ m ∷ ms) (m ∷ placed ms n)) ≡ suc (suc (length ms))
    by true ih = refl
    by false ih = ap (λ z. suc z) ih

-- what is above a number is above a smaller one
all_above : (n m : ℕ) (ms : List ℕ) → n ≤ m → list_all (λ k. nat_le m k) ms ≡ true → list_all (λ k. nat_le n k) ms ≡ true
all_above n m [] le h = refl
all_above n m (k ∷ ks) le h =
    let up : m ≤ k = leb-true m k (and_left _ _ h) in
    and_from _ _ (le-leb n k (omega arith)) (all_above n m ks le (and_right _ _ h))

pub placed_up : (ms : List ℕ) (n : ℕ) → ascends ms ≡ true → ascends (placed ms n) ≡ true
placed_up [] n h = refl
placed_up (m ∷ ms) n h = by (nat_le n m) refl (placed_up ms n (and_right _ _ h))
  where
    by : (t : Bool) → nat_le n m ≡ t → ascends (placed ms n) ≡ true → ascends (cond t (n ∷ m ∷ ms) (m ∷ placed ms n)) ≡ true
    by true e ih = and_from _ _ (and_from _ _ e (all_above n m ms (leb-true n m e) (and_left _ _ h))) h
    by false e ih = let lt : m < n = leb-false n m e in and_from _ _ (placed_all (λ k. nat_le m k) ms n (le-leb m n (omega arith)) (and_left _ _ h)) ih

all_up : (ms ns : List ℕ) → ascends ms ≡ true → ascends (fold placed ms ns) ≡ true
all_up ms [] h = h
all_up ms (n ∷ ns) h = all_up (placed ms n) ns (placed_up ms n h)

all_any : (p : ℕ → Bool) (ms ns : List ℕ) → list_any p (fold placed ms ns) ≡ (list_any p ms || list_any p ns)
all_any p ms [] = by (list_any p ms)
  where
    by : (t : Bool) → t ≡ (t || false)
    by true = refl
    by false = refl
all_any p ms (n ∷ ns) = all_any p (placed ms n) ns ∙ ap (λ z. z || list_any p ns) (placed_any p ms n) ∙ by (p n) (list_any p ms)
  where
    by : (a b : Bool) → ((a || b) || list_any p ns) ≡ (b || (a || list_any p ns))
    by true true = refl
    by true false = refl
    by false b = refl

all_length : (ms ns : List ℕ) → length (fold placed ms ns) ≡ length ms + length ns
all_length ms [] = omega arith
all_length ms (n ∷ ns) = let e = all_length (placed ms n) ns in let f = placed_length ms n in omega arith

pub in_order : (ns : List ℕ) → IsInOrder ns
in_order ns = record {
  up = all_up [] ns refl;
  same = λ p. all_any p [] ns;
  as_many = let e = all_length [] ns in omega arith;
}

-- ---- branches that have ended

pub is_branch_to : (b c k : Branch) → is_branch c k ≡ true → is_branch b k ≡ is_branch b c
is_branch_to b c k h =
    let e : k.link.0 ≡ c.link.0 = eqb-true _ _ (and_left _ _ h) in
    let f : k.number ≡ c.number = eqb-true _ _ (and_right _ _ h) in
    rw (e, f) refl

one_left : (rows : List RowState) (b c : Branch) → is_pending c (finished rows b) ≡ (not (is_branch b c) && is_pending c rows)
one_left rows b c =
    sym (any_branch c (finished rows b))
    ∙ ap (λ bs. list_any (λ k. is_branch c k) bs) (finished_branches rows b)
    ∙ any-filter_same (λ k. is_branch c k) (λ k. not (is_branch b k)) (not (is_branch b c)) (λ k h. ap (λ t. not t) (is_branch_to b c k h)) (branches rows)
    ∙ ap (λ t. not (is_branch b c) && t) (any_branch c rows)

left_behind : (rows : List RowState) (bs : List Branch) (c : Branch) → is_pending c (all_finished rows bs) ≡ (not (list_any (λ b. is_branch b c) bs) && is_pending c rows)
left_behind rows [] c = refl
left_behind rows (b ∷ bs) c =
    left_behind (finished rows b) bs c
    ∙ ap (λ t. not (list_any (λ k. is_branch k c) bs) && t) (one_left rows b c)
    ∙ by (is_branch b c) (list_any (λ k. is_branch k c) bs)
  where
    by : (s t : Bool) → (not t && (not s && is_pending c rows)) ≡ (not (s || t) && is_pending c rows)
    by true true = refl
    by true false = refl
    by false t = refl

pending_orphaned : (link : LinkNo) (rows : List RowState) (b : Branch) → is_pending b (all_orphaned link rows) ≡ is_pending b rows
pending_orphaned link rows b = sym (any_branch b (all_orphaned link rows)) ∙ ap (λ bs. list_any (λ c. is_branch b c) bs) (all_orphaned_branches link rows) ∙ any_branch b rows

-- the branches of a link that have these numbers
pub ended_has : (link : LinkNo) (n : ℕ) (ns : List ℕ) → is_in n ns ≡ true → list_any (λ b. is_branch b (branch link n)) (map (λ m. branch link m) ns) ≡ true
ended_has link n [] h = h
ended_has link n (m ∷ ms) h = by (m == n) refl (ended_has link n ms) h
  where
    by : (t : Bool) → (m == n) ≡ t → (is_in n ms ≡ true → list_any (λ b. is_branch b (branch link n)) (map (λ k. branch link k) ms) ≡ true)
        → (t || is_in n ms) ≡ true → list_any (λ b. is_branch b (branch link n)) (map (λ k. branch link k) (m ∷ ms)) ≡ true
    by true e ih q = or_left _ _ (and_from _ _ (eq-eqb link.0 link.0 refl) (eq-eqb n m (sym (eqb-true m n e))))
    by false e ih q = or_right _ _ (ih q)

pub ended_apart : (link : LinkNo) (c : Branch) (ns : List ℕ) → (c.link.0 == link.0) ≡ false → list_any (λ b. is_branch b c) (map (λ m. branch link m) ns) ≡ false
ended_apart link c [] h = refl
ended_apart link c (m ∷ ms) h = or_from _ _ (rw h refl) (ended_apart link c ms h)

-- ---- rows that the link asked

unasked_orphaned : (link : LinkNo) (rows : List RowState) → list_any (λ r. is_of link r) (all_orphaned link rows) ≡ false
unasked_orphaned link [] = refl
unasked_orphaned link (r ∷ rows) = or_from _ _ (by (is_of link r) refl) (unasked_orphaned link rows)
  where
    by : (t : Bool) → is_of link r ≡ t → is_of link (cond t (record { asker = None; branches = r.branches }) r) ≡ false
    by true e = refl
    by false e = e

unasked_left : (link : LinkNo) (rows : List RowState) (b : Branch) → list_any (λ r. is_of link r) rows ≡ false → list_any (λ r. is_of link r) (finished rows b) ≡ false
unasked_left link [] b h = refl
unasked_left link (r ∷ rows) b h = by (is_done (without b r)) (unasked_left link rows b (right_false _ _ h))
  where
    by : (t : Bool) → list_any (λ q. is_of link q) (finished rows b) ≡ false → list_any (λ q. is_of link q) (cond (not t) (without b r ∷ finished rows b) (finished rows b)) ≡ false
    by true ih = ih
    by false ih = or_from _ _ (left_false _ _ h) ih

unasked_all : (link : LinkNo) (rows : List RowState) (bs : List Branch) → list_any (λ r. is_of link r) rows ≡ false → list_any (λ r. is_of link r) (all_finished rows bs) ≡ false
unasked_all link rows [] h = h
unasked_all link rows (b ∷ bs) h = unasked_all link (finished rows b) bs (unasked_left link rows b h)

uncounted : (link : LinkNo) (rows : List RowState) → list_any (λ r. is_of link r) rows ≡ false → count link rows ≡ 0
uncounted link [] h = refl
uncounted link (r ∷ rows) h = let e : is_of link r ≡ false = left_false _ _ h in ap (λ t. length (cond t (r ∷ filter (λ q. is_of link q) rows) (filter (λ q. is_of link q) rows))) e ∙ uncounted link rows (right_false _ _ h)

-- ---- a link that went down

pub gone : (link : LinkNo) (rows : List RowState) → IsGone link rows
gone link rows =
    let ns = numbers_on link rows in
    let after = left_behind (all_orphaned link rows) (branches_on link rows) in
    record {
      none = λ n. after (branch link n) ∙ none_left n (is_pending (branch link n) rows) refl;
      unasked = uncounted link (dropped link rows) (unasked_all link (all_orphaned link rows) (branches_on link rows) (unasked_orphaned link rows));
      others = λ b h. after b ∙ ap (λ t. not t && is_pending b (all_orphaned link rows)) (ended_apart link b (ascending ns) h) ∙ pending_orphaned link rows b;
    }
  where
    none_left : (n : ℕ) (t : Bool) → is_pending (branch link n) rows ≡ t →
        (not (list_any (λ b. is_branch b (branch link n)) (branches_on link rows)) && is_pending (branch link n) (all_orphaned link rows)) ≡ false
    none_left n true e =
        let here : is_in n (ascending (numbers_on link rows)) ≡ true = (in_order (numbers_on link rows)).same (λ m. m == n) ∙ sym (pending_is_in link n rows) ∙ e in
        ap (λ t. not t && is_pending (branch link n) (all_orphaned link rows)) (ended_has link n (ascending (numbers_on link rows)) here)
    none_left n false e =
        ap (λ t. not (list_any (λ b. is_branch b (branch link n)) (branches_on link rows)) && t) (pending_orphaned link rows (branch link n) ∙ e)
        ∙ by (list_any (λ b. is_branch b (branch link n)) (branches_on link rows))
      where
        by : (s : Bool) → (not s && false) ≡ false
        by true = refl
        by false = refl
