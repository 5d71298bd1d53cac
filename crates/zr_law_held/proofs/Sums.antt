-- Sums over the entries of a world, its routers or its ends: what they come to once an entry has another value, where there is one more, and where
-- some change.
use Rattle.std.proofs.Common.{◌≡◌, ◌≤◌, ◌+◌, ℕ, Bool, true, false, cond, List, [], ◌∷◌, map, Some, is_some, Ordering, Less, Equal, Greater, refl, sym, ap, subst, arith}
use Rattle.std.specs.List.{AllByRecursion, sum_by}
use Rattle.std.specs.List.Sorted.{IsStrictlySortedBy}
use Rattle.std.specs.Map.{lookup, set_value, keys_of}
use Rattle.std.specs.Ordering.{is_eq, match_ordering}
use Rattle.std.specs.BTreeMap.{insert_entry}
use Rattle.std.proofs.lemmas.Bool.{false≢true}
use Rattle.std.proofs.lemmas.List.Sums.{sum_by-cons}
use Rattle.std.proofs.lemmas.Map.Keys.{sorted_head, sorted_tail}

module _ {K X : Type 0} (f : X → ℕ) where
  abbrev pub total : List (K × X) → ℕ
  total es = sum_by (λ e. f e.1) es

  pub total_cons : (e : K × X) (es : List (K × X)) → total (e ∷ es) ≡ f e.1 + total es
  total_cons e es = sum_by-cons (λ (e : K × X). f e.1) e es

  -- each entry is a part
  pub total_has : (t : K → Bool) (es : List (K × X)) (c : X) → lookup t es ≡ Some c → f c ≤ total es
  total_has t [] c found = absurd (false≢true (ap is_some found))
  total_has t (e ∷ es) c found = by (t e.0) found (total_has t es c)
    where
      by : (b : Bool) → cond b (Some e.1) (lookup t es) ≡ Some c → (lookup t es ≡ Some c → f c ≤ total es) → f c ≤ total (e ∷ es)
      by true k ih = let same : e.1 ≡ c = cc in omega (arith, total_cons e es, ap f same)
      by false k ih = omega (arith, total_cons e es, ih k)

  -- an entry has another value
  pub total_set : (t : K → Bool) (es : List (K × X)) (c v : X) → lookup t es ≡ Some c → total (set_value t es v) + f c ≡ total es + f v
  total_set t [] c v found = absurd (false≢true (ap is_some found))
  total_set t (e ∷ es) c v found = by (t e.0) found (total_set t es c v)
    where
      by : (b : Bool) → cond b (Some e.1) (lookup t es) ≡ Some c → (lookup t es ≡ Some c → total (set_value t es v) + f c ≡ total es + f v) →
          total (cond b ((e.0, v) ∷ es) (e ∷ set_value t es v)) + f c ≡ total (e ∷ es) + f v
      by true k ih = let same : e.1 ≡ c = cc in omega (arith, total_cons (e.0, v) es, total_cons e es, ap f same)
      by false k ih = omega (arith, total_cons e (set_value t es v), total_cons e es, ih k)

  -- there is one entry more, or one in place of another
  pub total_insert : (cmp : K → K → Ordering) (es : List (K × X)) (k : K) (v : X) → total (insert_entry cmp es k v) ≤ total es + f v
  total_insert cmp [] k v = omega (arith, total_cons (k, v) [])
  total_insert cmp (e ∷ es) k v = by (cmp k e.0) (total_insert cmp es k v)
    where
      by : (o : Ordering) → total (insert_entry cmp es k v) ≤ total es + f v → total (match_ordering o ((k, v) ∷ e ∷ es) ((e.0, v) ∷ es) (e ∷ insert_entry cmp es k v)) ≤ total (e ∷ es) + f v
      by Less ih = omega (arith, total_cons (k, v) (e ∷ es))
      by Equal ih = omega (arith, total_cons (e.0, v) es, total_cons e es)
      by Greater ih = omega (arith, total_cons e (insert_entry cmp es k v), total_cons e es, ih)

  -- those change that pass a test
  abbrev changed_where : (K → Bool) → (X → X) → List (K × X) → List (K × X)
  changed_where t change es = map (λ e. cond (t e.0) (e.0, change e.1) e) es

  pub total_lighter : (t : K → Bool) (change : X → X) → ((x : X) → f (change x) ≤ f x) → (es : List (K × X)) → total (changed_where t change es) ≤ total es
  total_lighter t change less [] = omega arith
  total_lighter t change less (e ∷ es) = by (t e.0) (total_lighter t change less es)
    where
      by : (b : Bool) → total (changed_where t change es) ≤ total es → total (cond b (e.0, change e.1) e ∷ changed_where t change es) ≤ total (e ∷ es)
      by true ih = omega (arith, total_cons (e.0, change e.1) (changed_where t change es), total_cons e es, less e.1, ih)
      by false ih = omega (arith, total_cons e (changed_where t change es), total_cons e es, ih)

  -- and where keys ascend, one at most has a key
  module _ (cmp : K → K → Ordering) (same : (a b : K) → is_eq (cmp a b) ≡ true → a ≡ b) (itself : (a : K) → is_eq (cmp a a) ≡ true) where
    none_behind : (k : K) (change : X → X) (es : List (K × X)) → AllByRecursion (λ y. cmp k y ≡ Less) (keys_of es) → changed_where (λ y. is_eq (cmp k y)) change es ≡ es
    none_behind k change [] h = refl
    none_behind k change (e ∷ es) h = λ i. cond (is_eq (h.0 i)) (e.0, change e.1) e ∷ none_behind k change es h.1 i

    pub total_once : (k : K) (change : X → X) (n : ℕ) → ((x : X) → f (change x) ≤ f x + n) → (es : List (K × X)) → IsStrictlySortedBy cmp (keys_of es) →
        total (changed_where (λ y. is_eq (cmp k y)) change es) ≤ total es + n
    total_once k change n more [] sorted = omega arith
    total_once k change n more (e ∷ es) sorted = by (is_eq (cmp k e.0)) refl (total_once k change n more es (sorted_tail cmp e.0 (keys_of es) sorted))
      where
        rest : List (K × X)
        rest = changed_where (λ y. is_eq (cmp k y)) change es

        behind : is_eq (cmp k e.0) ≡ true → total rest ≡ total es
        behind here =
            let own : k ≡ e.0 = same k e.0 here in
            ap total (none_behind k change es (subst (λ z. AllByRecursion (λ y. cmp z y ≡ Less) (keys_of es)) (sym own) (sorted_head cmp e.0 (keys_of es) sorted)))

        by : (b : Bool) → is_eq (cmp k e.0) ≡ b → total rest ≤ total es + n → total (cond b (e.0, change e.1) e ∷ rest) ≤ total (e ∷ es) + n
        by true here ih = omega (arith, total_cons (e.0, change e.1) rest, total_cons e es, more e.1, behind here)
        by false other ih = omega (arith, total_cons e rest, total_cons e es, ih)
