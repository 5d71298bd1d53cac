-- Sets of declarations: their order is one whose ties are equal, and so they are told by what they have.
use Rattle.std.proofs.Common.{◌≡◌, ℕ, ◌+◌, ◌-◌, Result, is_ok, ◌≤◌, List, [], ◌∷◌, Bool, true, false, cond, not, ◌||◌, ◌&&◌, Ordering, Less, Equal, Greater, Some, None, get_or, set, refl, sym, ap, ◌∙◌, rules, arith}
use Rattle.std.specs.Cmp.{IsTotalOrder}
use Rattle.std.specs.Cmp.Rules.{comparing}
use Rattle.std.specs.Cmp.Lexicographic.{slice_cmp}
use Rattle.std.specs.List.{filter, fold, insert, remove}
use Rattle.std.specs.List.Sorted.{IsStrictlySortedBy}
use Rattle.std.specs.Ordering.{nat_cmp, is_lt, ordering_then}
use Rattle.std.proofs.lemmas.Bool.{true≢false}
use Rattle.std.proofs.lemmas.List.{set-get_or}
use Rattle.std.proofs.lemmas.List.Sums.{sum_by-append, sum_by-cons, sum_by-insert, sum_by-remove}
use Rattle.std.proofs.lemmas.Map.Lookups.{exact_bytes, exact_unsigned}
use Rattle.zr_msg.specs.Decl.{kind_rank, decl_cmp}
use Rattle.zr_msg.specs.declared.decl.Decl.{Decl}
use Rattle.zr_msg.specs.declared.decl.Kind.{Kind}
use Rattle.zr_msg.specs.declared.decl.Kind.TheVariants.{Sub, Able, Full, Token}
use Rattle.zr_lists.specs.Ascending.{at_key, before_key, behind_key}
use Rattle.zr_log_set.specs.Decls.{is_decl, IsSet, has, with_decl, without_decl, set_of, decl_weight, weight}
use Rattle.zr_lists.specs.Place.{IsAt, IsGap, IsPlace}
use Rattle.zr_lists.proofs.Order.{IsExactOrder, is_same, comes}
use Rattle.zr_lists.proofs.Puts.{ascending_put, ascending_without, has-put, has-without, put_at, put_in, removed_at, place_has}
use Rattle.zr_lists.proofs.Same.{same}
use Rattle.zr_lists.proofs.Sorted.{less_from_test}

rank_is : (a b : Kind) → kind_rank a ≡ kind_rank b → a ≡ b
rank_is Sub Sub h = refl
rank_is Sub Able h = absurd (omega arith)
rank_is Sub Full h = absurd (omega arith)
rank_is Sub Token h = absurd (omega arith)
rank_is Able Sub h = absurd (omega arith)
rank_is Able Able h = refl
rank_is Able Full h = absurd (omega arith)
rank_is Able Token h = absurd (omega arith)
rank_is Full Sub h = absurd (omega arith)
rank_is Full Able h = absurd (omega arith)
rank_is Full Full h = refl
rank_is Full Token h = absurd (omega arith)
rank_is Token Sub h = absurd (omega arith)
rank_is Token Able h = absurd (omega arith)
rank_is Token Full h = absurd (omega arith)
rank_is Token Token h = refl

decl_is : (a b : Decl) → a.kind ≡ b.kind → a.key ≡ b.key → a ≡ b
decl_is a b p q = λ i. record { kind = p i; key = q i }

decl_exact : (a b : Decl) → decl_cmp a b ≡ Equal → a ≡ b
decl_exact a b h = by_kind (nat_cmp (kind_rank a.kind) (kind_rank b.kind)) refl h
  where
    by_kind : (r : Ordering) → nat_cmp (kind_rank a.kind) (kind_rank b.kind) ≡ r → ordering_then r (slice_cmp nat_cmp a.key b.key) ≡ Equal → a ≡ b
    by_kind Less e t = cc
    by_kind Equal e t = decl_is a b (rank_is a.kind b.kind (exact_unsigned _ _ e)) (exact_bytes _ _ t)
    by_kind Greater e t = cc

decl_total : IsTotalOrder decl_cmp
decl_total = search (comparing, rules)

pub decl_order : IsExactOrder decl_cmp
decl_order = record { total = decl_total; exact = decl_exact }

-- what a set has stands in it as itself
at_of_has : (ds : List Decl) (d : Decl) → at_key decl_cmp (λ e. e) ds d ≡ cond (has ds d) (Some d) None
at_of_has [] d = refl
at_of_has (e ∷ ds) d = by_test (is_decl e d) refl (at_of_has ds d)
  where
    by_test : (t : Bool) → is_decl e d ≡ t → at_key decl_cmp (λ x. x) ds d ≡ cond (has ds d) (Some d) None → cond t (Some e) (at_key decl_cmp (λ x. x) ds d) ≡ cond (t || has ds d) (Some d) None
    by_test true h ih = ap (λ (x : Decl). Some x) (is_same decl_cmp decl_order e d h)
    by_test false h ih = ih

pub sets_same : (xs ys : List Decl) → IsSet xs → IsSet ys → ((e : Decl) → has xs e ≡ has ys e) → xs ≡ ys
sets_same xs ys up vp h =
    same decl_cmp (λ (d : Decl). d) decl_order xs ys up vp
    (λ d. at_of_has xs d ∙ ap (λ (t : Bool). cond t (Some d) None) (h d) ∙ sym (at_of_has ys d))

pub set_with : (ds : List Decl) (d : Decl) → IsSet ds → IsSet (with_decl ds d)
set_with ds d up = ascending_put decl_cmp (λ (e : Decl). e) decl_order ds d up

pub set_without : (ds : List Decl) (d : Decl) → IsSet ds → IsSet (without_decl ds d)
set_without ds d up = ascending_without decl_cmp (λ (e : Decl). e) decl_order ds d up

pub has_more : (ds : List Decl) (d e : Decl) → has (with_decl ds d) e ≡ (is_decl d e || has ds e)
has_more ds d e = has-put decl_cmp (λ (x : Decl). x) decl_order ds d e

pub has_less : (ds : List Decl) (d e : Decl) → has (without_decl ds d) e ≡ (not (is_decl d e) && has ds e)
has_less ds d e = has-without decl_cmp (λ (x : Decl). x) decl_order ds d e

-- ---- the set of any declarations

pub set_from : (acc ds : List Decl) → IsSet acc → IsSet (fold with_decl acc ds)
set_from acc [] up = up
set_from acc (d ∷ ds) up = set_from (with_decl acc d) ds (set_with acc d up)

regroup : (a b c : Bool) → ((b || a) || c) ≡ (a || (b || c))
regroup true true c = refl
regroup true false c = refl
regroup false true c = refl
regroup false false c = refl

pub has_from : (acc ds : List Decl) (e : Decl) → has (fold with_decl acc ds) e ≡ (has acc e || has ds e)
has_from acc [] e = by_test (has acc e)
  where
    by_test : (t : Bool) → t ≡ (t || false)
    by_test true = refl
    by_test false = refl
has_from acc (d ∷ ds) e = has_from (with_decl acc d) ds e ∙ rw (has_more acc d e) (regroup (has acc e) (is_decl d e) (has ds e))

pub set_none : IsSet []
unfolding IsStrictlySortedBy
set_none = tt

pub set_all : (ds : List Decl) → IsSet (set_of ds)
set_all ds = set_from [] ds set_none

pub has_all : (ds : List Decl) (e : Decl) → has (set_of ds) e ≡ has ds e
has_all ds e = has_from [] ds e

-- ---- what they weigh

-- two parts that share nothing
parts_weigh : (p q : Decl → Bool) (ds : List Decl) → ((d : Decl) → p d ≡ true → q d ≡ false) → weight (filter p ds) + weight (filter q ds) ≤ weight ds
parts_weigh p q [] h = omega arith
parts_weigh p q (d ∷ ds) h = rw (sum_by-cons decl_weight d ds) (by_test (p d) (q d) (h d) (parts_weigh p q ds h))
  where
    by_test : (s t : Bool) → (s ≡ true → t ≡ false) → weight (filter p ds) + weight (filter q ds) ≤ weight ds →
        weight (cond s (d ∷ filter p ds) (filter p ds)) + weight (cond t (d ∷ filter q ds) (filter q ds)) ≤ decl_weight d + weight ds
    by_test true true k ih = absurd (true≢false (k refl))
    by_test true false k ih = omega (arith, sum_by-cons decl_weight d (filter p ds))
    by_test false true k ih = omega (arith, sum_by-cons decl_weight d (filter q ds))
    by_test false false k ih = omega arith

pub with_weighs : (ds : List Decl) (d : Decl) → weight (with_decl ds d) ≤ weight ds + decl_weight d
with_weighs ds d =
    let low = before_key decl_cmp (λ (e : Decl). e) ds d in
    let high = behind_key decl_cmp (λ (e : Decl). e) ds d in
    let parts : weight low + weight high ≤ weight ds =
    parts_weigh (λ e. is_lt (decl_cmp e d)) (λ e. is_lt (decl_cmp d e)) ds
    (λ e t. (comes decl_cmp decl_order e d (less_from_test (decl_cmp e d) t)).not_after) in
    omega (arith, sum_by-append decl_weight low (d ∷ high), sum_by-cons decl_weight d high)

from_weighs : (acc ds : List Decl) → weight (fold with_decl acc ds) ≤ weight acc + weight ds
from_weighs acc [] = omega arith
from_weighs acc (d ∷ ds) = omega (arith, from_weighs (with_decl acc d) ds, with_weighs acc d, sum_by-cons decl_weight d ds)

pub all_weigh : (ds : List Decl) → weight (set_of ds) ≤ weight ds
all_weigh ds = omega (arith, from_weighs [] ds)

-- ---- at a place that was found

pub put_there : (ds : List Decl) (d : Decl) (i : ℕ) → IsAt decl_cmp (λ e. e) ds d i → with_decl ds d ≡ ds
put_there ds d i h =
    sym (put_at decl_cmp (λ (e : Decl). e) decl_order ds d i h)
    ∙ ap (λ (e : Decl). set ds i e) (sym (h.key_is d))
    ∙ set-get_or ds i d

pub put_inside : (ds : List Decl) (d : Decl) (i : ℕ) → IsGap decl_cmp (λ e. e) ds d i → insert ds i d ≡ with_decl ds d
put_inside ds d i h = put_in decl_cmp (λ (e : Decl). e) decl_order ds d i h

pub removed_there : (ds : List Decl) (d : Decl) (i : ℕ) → IsAt decl_cmp (λ e. e) ds d i → remove ds i ≡ without_decl ds d
removed_there ds d i h = removed_at decl_cmp (λ (e : Decl). e) decl_order ds d i h

pub inside_weighs : (ds : List Decl) (d : Decl) (i : ℕ) → IsGap decl_cmp (λ e. e) ds d i → weight (with_decl ds d) ≡ weight ds + decl_weight d
inside_weighs ds d i h = rw (← put_inside ds d i h) (sum_by-insert decl_weight ds i d)

pub without_weighs : (ds : List Decl) (d : Decl) (i : ℕ) → IsAt decl_cmp (λ e. e) ds d i → weight (without_decl ds d) + decl_weight d ≡ weight ds
without_weighs ds d i h =
    let e : weight (remove ds i) + decl_weight (get_or ds i d) ≡ weight ds = sum_by-remove decl_weight ds i d h.within in
    rw (← removed_there ds d i h, ← h.key_is d) e

-- a set with its weight, once one was put in or taken out at its place
pub inside_weighed : (ds : List Decl) (d : Decl) (i total more : ℕ) → IsGap decl_cmp (λ e. e) ds d i → IsSet ds × (total ≡ weight ds) → more ≡ total + decl_weight d →
    IsSet (insert ds i d) × (more ≡ weight (insert ds i d))
inside_weighed ds d i total more gap h e = rw (put_inside ds d i gap) (set_with ds d h.0, omega (arith, inside_weighs ds d i gap, h.1, e))

pub without_weighed : (ds : List Decl) (d : Decl) (i total : ℕ) → IsAt decl_cmp (λ e. e) ds d i → IsSet ds × (total ≡ weight ds) →
    IsSet (remove ds i) × (total - decl_weight d ≡ weight (remove ds i))
without_weighed ds d i total at h = rw (removed_there ds d i at) (set_without ds d h.0, omega (arith, without_weighs ds d i at, h.1))

pub weighs_enough : (ds : List Decl) (d : Decl) (i total : ℕ) → IsAt decl_cmp (λ e. e) ds d i → IsSet ds × (total ≡ weight ds) → decl_weight d ≤ total
weighs_enough ds d i total at h = omega (arith, without_weighs ds d i at, h.1)

pub place_tells : (ds : List Decl) (d : Decl) (r : Result ℕ ℕ) → IsPlace decl_cmp (λ e. e) ds d r → is_ok r ≡ has ds d
place_tells ds d r h = place_has decl_cmp (λ (e : Decl). e) decl_order ds d r h

pub others_weigh : (ds : List Decl) (d : Decl) (i total : ℕ) → IsAt decl_cmp (λ e. e) ds d i → IsSet ds × (total ≡ weight ds) → total - decl_weight d ≡ weight (without_decl ds d)
others_weigh ds d i total at h = omega (arith, without_weighs ds d i at, h.1)
