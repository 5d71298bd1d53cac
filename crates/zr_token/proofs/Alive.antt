-- The keys of pairs, each put in its place: they ascend, and one of them passes a test just where the key of a pair does.
use Rattle.std.proofs.Common.{◌≡◌, ℕ, ◌||◌, Bool, true, false, List, [], ◌∷◌, map, filter, Ordering, Less, Equal, Greater, refl, sym, ap, ◌∙◌}
use Rattle.std.specs.BTreeSet.{insert_key}
use Rattle.std.specs.Cmp.Lexicographic.{slice_cmp}
use Rattle.std.specs.List.{AllByRecursion, fold, list_any}
use Rattle.std.specs.List.Sorted.{IsStrictlySortedBy}
use Rattle.std.specs.Ordering.{match_ordering, nat_cmp}
use Rattle.std.proofs.lemmas.Map.Keys.{sorted_head, sorted_tail}
use Rattle.zr_lists.proofs.Each.{All-each}
use Rattle.zr_lists.proofs.Filters.{any_kept}
use Rattle.zr_lists.proofs.Order.{name_order, comes_back}
use Rattle.zr_lists.proofs.Sorted.{sorted_cons}
use Rattle.zr_token.specs.Laws.{AliveAscends, AliveIsOfPairs}
use Rattle.zr_token.specs.Tally.{is_alive}
use Rattle.zr_token.specs.declared.pair.Pair.{Pair}

abbrev Keys : Type 0
Keys = List (List ℕ)

abbrev cmp : List ℕ → List ℕ → Ordering
cmp = slice_cmp nat_cmp

abbrev put : Keys → List ℕ → Keys
put = insert_key cmp

-- ---- one key more

all_put : (P : List ℕ → Type 0) (k : List ℕ) (ks : Keys) → AllByRecursion P ks → P k → AllByRecursion P (put ks k)
all_put P k [] h p = (p, tt)
all_put P k (x ∷ xs) h p = by (cmp k x) (all_put P k xs h.1 p)
  where
    by : (o : Ordering) → AllByRecursion P (put xs k) → AllByRecursion P (match_ordering o (k ∷ x ∷ xs) (x ∷ xs) (x ∷ put xs k))
    by Less ih = (p, h)
    by Equal ih = h
    by Greater ih = (h.0, ih)

ascends_put : (k : List ℕ) (ks : Keys) → IsStrictlySortedBy cmp ks → IsStrictlySortedBy cmp (put ks k)
ascends_put k [] up = sorted_cons cmp k [] tt up
ascends_put k (x ∷ xs) up = by (cmp k x) refl (ascends_put k xs (sorted_tail _ x xs up))
  where
    by : (o : Ordering) → cmp k x ≡ o → IsStrictlySortedBy cmp (put xs k) → IsStrictlySortedBy cmp (match_ordering o (k ∷ x ∷ xs) (x ∷ xs) (x ∷ put xs k))
    by Less e ih = sorted_cons cmp k (x ∷ xs) (e, All-each _ _ xs (λ z h. name_order.total.trans k x z e h) (sorted_head _ x xs up)) up
    by Equal e ih = up
    by Greater e ih = sorted_cons cmp x (put xs k) (all_put (λ z. cmp x z ≡ Less) k xs (sorted_head _ x xs up) (comes_back cmp name_order k x e).less) ih

any_put : (test : List ℕ → Bool) (k : List ℕ) (ks : Keys) → list_any test (put ks k) ≡ (test k || list_any test ks)
any_put test k [] = refl
any_put test k (x ∷ xs) = by (cmp k x) refl (any_put test k xs)
  where
    twice : (a b : Bool) → (a || b) ≡ (a || (a || b))
    twice true b = refl
    twice false b = refl

    swapped : (a b c : Bool) → (a || (b || c)) ≡ (b || (a || c))
    swapped true true c = refl
    swapped true false c = refl
    swapped false b c = refl

    by : (o : Ordering) → cmp k x ≡ o → list_any test (put xs k) ≡ (test k || list_any test xs) →
        list_any test (match_ordering o (k ∷ x ∷ xs) (x ∷ xs) (x ∷ put xs k)) ≡ (test k || (test x || list_any test xs))
    by Less e ih = refl
    by Equal e ih = twice (test x) (list_any test xs) ∙ ap (λ z. test z || (test x || list_any test xs)) (sym (name_order.exact k x e))
    by Greater e ih = ap (λ z. test x || z) ih ∙ swapped (test x) (test k) (list_any test xs)

-- ---- all keys

ascends_all : (ps : List Pair) (ks : Keys) → IsStrictlySortedBy cmp ks → IsStrictlySortedBy cmp (fold put ks (map (λ p. p.key) ps))
ascends_all [] ks up = up
ascends_all (p ∷ ps) ks up = ascends_all ps (put ks p.key) (ascends_put p.key ks up)

any_all : (test : List ℕ → Bool) (ps : List Pair) (ks : Keys) → list_any test (fold put ks (map (λ p. p.key) ps)) ≡ (list_any (λ p. test p.key) ps || list_any test ks)
any_all test [] ks = refl
any_all test (p ∷ ps) ks =
    any_all test ps (put ks p.key) ∙ ap (λ z. list_any (λ q. test q.key) ps || z) (any_put test p.key ks)
    ∙ moved (test p.key) (list_any (λ q. test q.key) ps) (list_any test ks)
  where
    moved : (a b c : Bool) → (b || (a || c)) ≡ ((a || b) || c)
    moved true true c = refl
    moved true false c = refl
    moved false b c = refl

-- ---- the laws

pub alive_ascends : AliveAscends
unfolding IsStrictlySortedBy
alive_ascends t but key = ascends_all (filter (is_alive t but key) t.pairs) [] tt

pub alive_is_of_pairs : AliveIsOfPairs
alive_is_of_pairs t but key test =
    any_all test (filter (is_alive t but key) t.pairs) [] ∙ none (list_any (λ p. test p.key) (filter (is_alive t but key) t.pairs))
    ∙ any_kept (λ p. test p.key) (is_alive t but key) t.pairs
  where
    none : (b : Bool) → (b || false) ≡ b
    none true = refl
    none false = refl
