-- What became new or last in the set, where one row has another declaration than before, or none, or had none before.
use Rattle.std.proofs.Common.{◌≡◌, ℕ, ◌+◌, ◌==◌, ◌&&◌, ◌||◌, not, nat_lt, List, [], ◌∷◌, Bool, true, false, cond, Option, Some, None, filter, refl, sym, ap, subst, ◌∙◌, arith}
use Rattle.std.specs.List.Sorted.{IsStrictlySortedBy}
use Rattle.std.proofs.lemmas.Bool.Decides.{nat_tests}
use Rattle.std.proofs.lemmas.List.Kept.{IsStrictlySortedBy-filter}
use Rattle.std.proofs.lemmas.List.Sums.{sum_by-cons}
use Rattle.zr_msg.specs.Decl.{decl_cmp}
use Rattle.zr_msg.specs.declared.decl.Decl.{Decl}
use Rattle.zr_log_set.specs.Decls.{is_decl, IsSet, has}
use Rattle.zr_log_set.proofs.Decls.{decl_order, sets_same, set_none, set_all, has_all}
use Rattle.zr_lists.proofs.Order.{is_same, is_itself}
use Rattle.zr_local.specs.declared.row.Row.{Row}
use Rattle.zr_local.specs.declared.owners.Owned.{Owned}
use Rattle.zr_local.specs.Rows.{decls_of, declared_set, gone, came}
use Rattle.zr_local.specs.Owners.{count_of, one, rows_with, is_other, where_counted}

-- what passes a test, of a set
pub has_filter : (p : Decl → Bool) (ds : List Decl) (e : Decl) → has (filter p ds) e ≡ (p e && has ds e)
has_filter p [] e = by_test (p e)
  where
    by_test : (t : Bool) → false ≡ (t && false)
    by_test true = refl
    by_test false = refl
has_filter p (d ∷ ds) e = by_test (is_decl d e) refl (p d) refl (p e) refl (has_filter p ds e)
  where
    by_test : (s : Bool) → is_decl d e ≡ s → (t : Bool) → p d ≡ t → (u : Bool) → p e ≡ u → has (filter p ds) e ≡ (u && has ds e) →
        has (cond t (d ∷ filter p ds) (filter p ds)) e ≡ (u && (s || has ds e))
    by_test true h true k true m ih = rw h refl
    by_test true h true k false m ih = let i : d ≡ e = is_same decl_cmp decl_order d e h in let same : p d ≡ p e = ap p i in cc
    by_test true h false k true m ih = let i : d ≡ e = is_same decl_cmp decl_order d e h in let same : p d ≡ p e = ap p i in cc
    by_test true h false k false m ih = ih
    by_test false h true k true m ih = rw h ih
    by_test false h true k false m ih = rw h ih
    by_test false h false k true m ih = ih
    by_test false h false k false m ih = ih

pub set_filter : (p : Decl → Bool) (ds : List Decl) → IsSet ds → IsSet (filter p ds)
set_filter p ds up = IsStrictlySortedBy-filter decl_cmp p ds up

above : (n : ℕ) → true ≡ nat_lt 0 (1 + n)
above n = grind (arith, nat_tests)

-- a declaration is among those of rows where some row has it
pub has_rows : (rows : List Row) (e : Decl) → has (decls_of rows) e ≡ nat_lt 0 (rows_with rows e)
has_rows [] e = refl
has_rows (r ∷ rows) e = rw (sum_by-cons (λ (x : Row). cond (is_decl x.decl e) 1 0) r rows) (by_test (is_decl r.decl e) (has_rows rows e))
  where
    by_test : (t : Bool) → has (decls_of rows) e ≡ nat_lt 0 (rows_with rows e) → (t || has (decls_of rows) e) ≡ nat_lt 0 (cond t 1 0 + rows_with rows e)
    by_test true ih = above (rows_with rows e)
    by_test false ih = ih ∙ ap (λ n. nat_lt 0 n) (omega arith)

pub has_gone : (before after : List Row) (e : Decl) → has (gone before after) e ≡ (not (nat_lt 0 (rows_with after e)) && nat_lt 0 (rows_with before e))
has_gone before after e =
    has_filter (λ d. not (has (decls_of after) d)) (declared_set before) e ∙ rw (has_all (decls_of before) e, has_rows before e, has_rows after e) refl

pub set_gone : (before after : List Row) → IsSet (gone before after)
set_gone before after = set_filter (λ d. not (has (decls_of after) d)) (declared_set before) (set_all (decls_of before))

-- what the other declaration counts for
abbrev pub one_of : Option Decl → Decl → ℕ
one_of None e = 0
one_of (Some d) e = one d e

other_counts : (other : Option Decl) (d : Decl) → is_other other d ≡ (one_of other d == 0)
other_counts None d = refl
other_counts (Some e) d = by_test (is_decl e d)
  where
    by_test : (t : Bool) → not t ≡ (cond t 1 0 == 0)
    by_test true = refl
    by_test false = refl

set_one : (d : Decl) → IsSet (d ∷ [])
unfolding IsStrictlySortedBy
set_one d = (tt, tt)

set_counted : (os : List Owned) (n : ℕ) (this other : Option Decl) → IsSet (where_counted os n this other)
set_counted os n None other = set_none
set_counted os n (Some d) other = by_test (is_other other d && count_of os d == n)
  where
    by_test : (t : Bool) → IsSet (cond t (d ∷ []) [])
    by_test true = set_one d
    by_test false = set_none

has_counted : (os : List Owned) (n : ℕ) (d e : Decl) (other : Option Decl) → has (where_counted os n (Some d) other) e ≡ (is_decl d e && ((one_of other d == 0) && count_of os d == n))
has_counted os n d e other = rw (other_counts other d) (by_test ((one_of other d == 0) && count_of os d == n) (is_decl d e) refl)
  where
    by_test : (s t : Bool) → is_decl d e ≡ t → has (cond s (d ∷ []) []) e ≡ (t && s)
    by_test true true h = rw h refl
    by_test true false h = rw h refl
    by_test false true h = refl
    by_test false false h = refl

none_gone : (r x : ℕ) → false ≡ (not (nat_lt 0 (r + x)) && nat_lt 0 (r + 0))
none_gone r x = grind (arith, nat_tests)

one_gone : (r x : ℕ) → ((x == 0) && r + 1 == 1) ≡ (not (nat_lt 0 (r + x)) && nat_lt 0 (r + 1))
one_gone r x = grind (arith, nat_tests)

one_came : (r x : ℕ) → ((x == 0) && r + x == 0) ≡ (not (nat_lt 0 (r + x)) && nat_lt 0 (r + 1))
one_came r x = grind (arith, nat_tests)

-- the sum of what stays and what each declaration counts for is what rows have
counted_gone : (os : List Owned) (before after : Decl → ℕ) (rest : Decl → ℕ) (this other : Option Decl) (e : Decl) → ((d : Decl) → count_of os d ≡ before d) →
    ((d : Decl) → before d ≡ rest d + one_of this d) → ((d : Decl) → after d ≡ rest d + one_of other d) →
    has (where_counted os 1 this other) e ≡ (not (nat_lt 0 (after e)) && nat_lt 0 (before e))
counted_gone os before after rest None other e c b a = rw (a e, b e) (none_gone (rest e) (one_of other e))
counted_gone os before after rest (Some d) other e c b a = has_counted os 1 d e other ∙ rw (c d, b d, a e, b e) (by_test (is_decl d e) refl)
  where
    itself : is_decl d d ≡ true
    itself = is_itself decl_cmp decl_order d

    alone : ((one_of other d == 0) && rest d + one d d == 1) ≡ (not (nat_lt 0 (rest d + one_of other d)) && nat_lt 0 (rest d + 1))
    alone = rw itself (one_gone (rest d) (one_of other d))

    by_test : (t : Bool) → is_decl d e ≡ t → (t && ((one_of other d == 0) && rest d + one d d == 1)) ≡ (not (nat_lt 0 (rest e + one_of other e)) && nat_lt 0 (rest e + cond t 1 0))
    by_test true h =
        subst (λ (z : Decl). ((one_of other d == 0) && rest d + one d d == 1) ≡ (not (nat_lt 0 (rest z + one_of other z)) && nat_lt 0 (rest z + 1)))
        (is_same decl_cmp decl_order d e h) alone
    by_test false h = none_gone (rest e) (one_of other e)

counted_came : (os : List Owned) (before after : Decl → ℕ) (rest : Decl → ℕ) (this other : Option Decl) (e : Decl) → ((d : Decl) → count_of os d ≡ before d) →
    ((d : Decl) → before d ≡ rest d + one_of other d) → ((d : Decl) → after d ≡ rest d + one_of this d) →
    has (where_counted os 0 this other) e ≡ (not (nat_lt 0 (before e)) && nat_lt 0 (after e))
counted_came os before after rest None other e c b a = rw (a e, b e) (none_gone (rest e) (one_of other e))
counted_came os before after rest (Some d) other e c b a = has_counted os 0 d e other ∙ rw (c d, a e, b d, b e) (by_test (is_decl d e) refl)
  where
    alone : ((one_of other d == 0) && rest d + one_of other d == 0) ≡ (not (nat_lt 0 (rest d + one_of other d)) && nat_lt 0 (rest d + 1))
    alone = one_came (rest d) (one_of other d)

    by_test : (t : Bool) → is_decl d e ≡ t → (t && ((one_of other d == 0) && rest d + one_of other d == 0)) ≡ (not (nat_lt 0 (rest e + one_of other e)) && nat_lt 0 (rest e + cond t 1 0))
    by_test true h =
        subst (λ (z : Decl). ((one_of other d == 0) && rest d + one_of other d == 0) ≡ (not (nat_lt 0 (rest z + one_of other z)) && nat_lt 0 (rest z + 1)))
        (is_same decl_cmp decl_order d e h) alone
    by_test false h = none_gone (rest e) (one_of other e)

pub gone_is : (os : List Owned) (before after : List Row) (rest : Decl → ℕ) (old new : Option Decl) → ((d : Decl) → count_of os d ≡ rows_with before d) →
    ((d : Decl) → rows_with before d ≡ rest d + one_of old d) → ((d : Decl) → rows_with after d ≡ rest d + one_of new d) → where_counted os 1 old new ≡ gone before after
gone_is os before after rest old new c b a =
    sets_same (where_counted os 1 old new) (gone before after) (set_counted os 1 old new) (set_gone before after)
    (λ e. counted_gone os (rows_with before) (rows_with after) rest old new e c b a ∙ sym (has_gone before after e))

pub came_is : (os : List Owned) (before after : List Row) (rest : Decl → ℕ) (old new : Option Decl) → ((d : Decl) → count_of os d ≡ rows_with before d) →
    ((d : Decl) → rows_with before d ≡ rest d + one_of old d) → ((d : Decl) → rows_with after d ≡ rest d + one_of new d) → where_counted os 0 new old ≡ came before after
came_is os before after rest old new c b a =
    sets_same (where_counted os 0 new old) (came before after) (set_counted os 0 new old) (set_gone after before)
    (λ e. counted_came os (rows_with before) (rows_with after) rest new old e c b a ∙ sym (has_gone after before e))
