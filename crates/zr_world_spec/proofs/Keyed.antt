-- What a look-up by key finds after a replacement, an insertion or a change, where keys go by a total order. Names (`Names`) and ends of
-- links (`Ends`) are such keys. Each lemma is one equation; `read_cond` carries any reading of what was found through it.
use Rattle.std.proofs.Common.{◌≡◌, Bool, true, false, cond, List, [], ◌∷◌, Option, Some, None, Ordering, refl, sym, ap, ◌∙◌, inl, inr}
use Rattle.std.specs.Prelude.{if◌then◌else◌, is_some, map}
use Rattle.std.specs.List.{AllByRecursion, list_all}
use Rattle.std.specs.List.Sorted.{IsStrictlySortedBy}
use Rattle.std.specs.Map.{lookup, set_value, keys_of}
use Rattle.std.specs.Option.{option_map}
use Rattle.std.specs.BTreeMap.{insert_entry}
use Rattle.std.specs.Ordering.{is_eq, match_ordering, ordering_reverse}
use Rattle.std.specs.declared.cmp.Ordering.TheVariants.{Less, Equal, Greater}
use Rattle.std.specs.Cmp.{IsEquivalence, IsTotalOrder, eq_by_cmp_equiv}
use Rattle.std.proofs.lemmas.Bool.{false≢true, true≢false, and_parts, and_from}
use Rattle.std.proofs.lemmas.Map.{lookup-set_value}
use Rattle.zr_lists.proofs.Elements.{each_in}
use Rattle.zr_lists.proofs.Finds.{In, map_in}

-- ---- readings

-- where both readings are one, so is that of either
pub read_same : {Y : Type 0} (b : Bool) (x y : Y) → (b ≡ true → x ≡ y) → cond b x y ≡ y
read_same true x y e = e refl
read_same false x y e = refl

-- a test of what a look-up found, if it found anything
abbrev pub of_some : {X : Type 0} → (X → Bool) → Option X → Bool
of_some t None = true
of_some t (Some x) = t x

-- a look-up that found something
pub there : {X : Type 0} (o : Option X) → is_some o ≡ true → (x : X) × (o ≡ Some x)
there None h = absurd (false≢true h)
there (Some x) h = (x, refl)

-- ---- lists

-- what was set last counts
pub set_twice : {K X : Type 0} (t : K → Bool) (es : List (K × X)) (v w : X) → set_value t (set_value t es v) w ≡ set_value t es w
set_twice t [] v w = refl
set_twice t (e ∷ es) v w = by (t e.0) refl (set_twice t es v w)
  where
    by : (b : Bool) → t e.0 ≡ b → set_value t (set_value t es v) w ≡ set_value t es w →
        set_value t (cond b ((e.0, v) ∷ es) (e ∷ set_value t es v)) w ≡ cond b ((e.0, w) ∷ es) (e ∷ set_value t es w)
    by true k ih = ap (λ c. cond c ((e.0, w) ∷ es) ((e.0, v) ∷ set_value t es w)) k
    by false k ih = ap (λ c. cond c ((e.0, w) ∷ set_value t es v) (e ∷ set_value t (set_value t es v) w)) k ∙ ap (λ z. e ∷ z) ih

-- ---- keys

module _ {K : Type 0} {R : K → K → Ordering} (order : IsTotalOrder R) where
  abbrev pub is_key : K → K → Bool
  is_key a b = is_eq (R a b)

  pub keys : IsEquivalence is_key
  keys = eq_by_cmp_equiv order

  module _ {X : Type 0} where
    -- after the value of a key was replaced
    pub lookup_set : (es : List (K × X)) (k q : K) (w : X) → is_some (lookup (is_key k) es) ≡ true →
        lookup (is_key q) (set_value (is_key k) es w) ≡ cond (is_key k q) (Some w) (lookup (is_key q) es)
    lookup_set es k q w h = lookup-set_value keys (is_key k) (keys.congr k) q w es h

    -- after a value was put in under a new key
    pub lookup_insert : (es : List (K × X)) (k q : K) (w : X) → lookup (is_key k) es ≡ None →
        lookup (is_key q) (insert_entry R es k w) ≡ cond (is_key k q) (Some w) (lookup (is_key q) es)
    lookup_insert [] k q w none = ap (λ b. cond b (Some w) None) (keys.symm q k)
    lookup_insert (e ∷ es) k q w none = by (R k e.0) refl none (lookup_insert es k q w)
      where
        swap : (b c : Bool) → (c ≡ true → b ≡ false) → (x y : Option X) → cond b x (cond c (Some w) y) ≡ cond c (Some w) (cond b x y)
        swap false c n x y = refl
        swap true false n x y = refl
        swap true true n x y = absurd (true≢false (n refl))

        by : (o : Ordering) → R k e.0 ≡ o → cond (is_eq o) (Some e.1) (lookup (is_key k) es) ≡ None →
            (lookup (is_key k) es ≡ None → lookup (is_key q) (insert_entry R es k w) ≡ cond (is_key k q) (Some w) (lookup (is_key q) es)) →
            lookup (is_key q) (match_ordering o ((k, w) ∷ e ∷ es) ((e.0, w) ∷ es) (e ∷ insert_entry R es k w)) ≡ cond (is_key k q) (Some w) (lookup (is_key q) (e ∷ es))
        by Less eq n ih = ap (λ b. cond b (Some w) (lookup (is_key q) (e ∷ es))) (keys.symm q k)
        by Equal eq n ih = absurd (true≢false (ap is_some n))
        by Greater eq n ih = ap (λ z. cond (is_key q e.0) (Some e.1) z) (ih n) ∙ swap (is_key q e.0) (is_key k q) apart (Some e.1) (lookup (is_key q) es)
          where
            apart : is_key k q ≡ true → is_key q e.0 ≡ false
            apart h = sym (keys.congr k q e.0 h) ∙ ap is_eq eq

    -- a replacement and an insertion keep the order of the keys
    All-keys-insert : (P : K → Type 0) (es : List (K × X)) (k : K) (w : X) → AllByRecursion P (keys_of es) → P k → AllByRecursion P (keys_of (insert_entry R es k w))
    All-keys-insert P [] k w a p = (p, tt)
    All-keys-insert P (e ∷ es) k w a p = by (R k e.0) (All-keys-insert P es k w a.1 p)
      where
        by : (o : Ordering) → AllByRecursion P (keys_of (insert_entry R es k w)) →
            AllByRecursion P (keys_of (match_ordering o ((k, w) ∷ e ∷ es) ((e.0, w) ∷ es) (e ∷ insert_entry R es k w)))
        by Less h = (p, a)
        by Equal h = a
        by Greater h = (a.0, h)

    pub sorted_insert : (es : List (K × X)) (k : K) (w : X) → IsStrictlySortedBy R (keys_of es) → IsStrictlySortedBy R (keys_of (insert_entry R es k w))
    unfolding IsStrictlySortedBy
    sorted_insert [] k w s = (tt, tt)
    sorted_insert (e ∷ es) k w s = by (R k e.0) refl (sorted_insert es k w s.1)
      where
        below : R k e.0 ≡ Less → (ks : List K) → AllByRecursion (λ y. R e.0 y ≡ Less) ks → AllByRecursion (λ y. R k y ≡ Less) ks
        below l [] a = tt
        below l (y ∷ ks) a = (order.trans k e.0 y l a.0, below l ks a.1)

        by : (o : Ordering) → R k e.0 ≡ o → IsStrictlySortedBy R (keys_of (insert_entry R es k w)) →
            IsStrictlySortedBy R (keys_of (match_ordering o ((k, w) ∷ e ∷ es) ((e.0, w) ∷ es) (e ∷ insert_entry R es k w)))
        by Less l h = ((l, below l (keys_of es) s.0), s)
        by Equal l h = s
        by Greater l h = (All-keys-insert (λ y. R e.0 y ≡ Less) es k w s.0 (order.antisymm e.0 k ∙ ap ordering_reverse l), h)

    -- a change of the values of some keys keeps the keys
    pub keys_where : (t : K → Bool) (f : K → X → X) (es : List (K × X)) → keys_of (map (λ e. if t e.0 then (e.0, f e.0 e.1) else e) es) ≡ keys_of es
    keys_where t f [] = refl
    keys_where t f (e ∷ es) = by (t e.0) (keys_where t f es)
      where
        by : (b : Bool) → keys_of (map (λ e. if t e.0 then (e.0, f e.0 e.1) else e) es) ≡ keys_of es →
            keys_of (cond b (e.0, f e.0 e.1) e ∷ map (λ e. if t e.0 then (e.0, f e.0 e.1) else e) es) ≡ e.0 ∷ keys_of es
        by true ih = ap (λ z. e.0 ∷ z) ih
        by false ih = ap (λ z. e.0 ∷ z) ih

  -- ---- keys of which equal ones are one

  module _ {X : Type 0} (exact : (a b : K) → is_key a b ≡ true → a ≡ b) where
    -- after the values of some keys were changed
    pub lookup_where : (t : K → Bool) (f : K → X → X) (es : List (K × X)) (q : K) →
        lookup (is_key q) (map (λ e. if t e.0 then (e.0, f e.0 e.1) else e) es) ≡ cond (t q) (option_map (f q) (lookup (is_key q) es)) (lookup (is_key q) es)
    lookup_where t f [] q = by (t q)
      where
        by : (b : Bool) → lookup {X = X} (is_key q) [] ≡ cond b (option_map (f q) None) None
        by true = refl
        by false = refl
    lookup_where t f (e ∷ es) q = by (t e.0) (is_key q e.0) refl refl (lookup_where t f es q)
      where
        rest : Option X
        rest = lookup (is_key q) (map (λ e. if t e.0 then (e.0, f e.0 e.1) else e) es)

        by : (b c : Bool) → t e.0 ≡ b → is_key q e.0 ≡ c → rest ≡ cond (t q) (option_map (f q) (lookup (is_key q) es)) (lookup (is_key q) es) →
            lookup (is_key q) (cond b (e.0, f e.0 e.1) e ∷ map (λ e. if t e.0 then (e.0, f e.0 e.1) else e) es)
            ≡ cond (t q) (option_map (f q) (cond c (Some e.1) (lookup (is_key q) es))) (cond c (Some e.1) (lookup (is_key q) es))
        by true true k l ih =
            let own : t q ≡ true = ap t (exact q e.0 l) ∙ k in
            ap (λ z. cond z (Some (f e.0 e.1)) rest) l ∙ ap (λ z. Some (f z e.1)) (sym (exact q e.0 l)) ∙ ap (λ z. cond z (Some (f q e.1)) (Some e.1)) (sym own)
        by false true k l ih =
            let own : t q ≡ false = ap t (exact q e.0 l) ∙ k in
            ap (λ z. cond z (Some e.1) rest) l ∙ ap (λ z. cond z (Some (f q e.1)) (Some e.1)) (sym own)
        by true false k l ih = ap (λ z. cond z (Some (f e.0 e.1)) rest) l ∙ ih
        by false false k l ih = ap (λ z. cond z (Some e.1) rest) l ∙ ih

    -- what all entries pass, the one that was found passes
    pub found_entry : (t : K × X → Bool) (es : List (K × X)) (q : K) (x : X) → list_all t es ≡ true → lookup (is_key q) es ≡ Some x → t (q, x) ≡ true
    found_entry t [] q x h found = absurd (false≢true (ap is_some found))
    found_entry t (e ∷ es) q x h found = by (is_key q e.0) refl found (found_entry t es q x (and_parts (t e) (list_all t es) h).1)
      where
        by : (b : Bool) → is_key q e.0 ≡ b → cond b (Some e.1) (lookup (is_key q) es) ≡ Some x → (lookup (is_key q) es ≡ Some x → t (q, x) ≡ true) → t (q, x) ≡ true
        by true k here ih = let value : e.1 ≡ x = cc in ap (λ z. t (z, x)) (exact q e.0 k) ∙ ap (λ z. t (e.0, z)) (sym value) ∙ (and_parts (t e) (list_all t es) h).0
        by false k later ih = ih later

    -- each entry is found, where the keys ascend
    pub entry_found : (es : List (K × X)) (x : K × X) → IsStrictlySortedBy R (keys_of es) → In x es → lookup (is_key x.0) es ≡ Some x.1
    unfolding IsStrictlySortedBy
    entry_found [] x s i = absurd i
    entry_found (e ∷ es) x s (inl same) = ap (λ (z : K × X). cond (is_key x.0 z.0) (Some z.1) (lookup (is_key x.0) es)) (sym same) ∙ ap (λ b. cond b (Some x.1) (lookup (is_key x.0) es)) (keys.refl x.0)
    entry_found (e ∷ es) x s (inr later) =
        let less : R e.0 x.0 ≡ Less = each_in (λ y. R e.0 y ≡ Less) (keys_of es) x.0 s.0 (map_in (λ z. z.0) es x later) in
        ap (λ b. cond b (Some e.1) (lookup (is_key x.0) es)) (keys.symm x.0 e.0 ∙ ap is_eq less) ∙ entry_found es x s.1 later

    -- what each entry passes that can be found, all pass
    pub all_found : (t : K × X → Bool) (es : List (K × X)) → IsStrictlySortedBy R (keys_of es) → ((q : K) (x : X) → lookup (is_key q) es ≡ Some x → t (q, x) ≡ true) → list_all t es ≡ true
    unfolding IsStrictlySortedBy
    all_found t [] s h = refl
    all_found t (e ∷ es) s h =
        and_from (t e) (list_all t es)
        (h e.0 e.1 (ap (λ b. cond b (Some e.1) (lookup (is_key e.0) es)) (keys.refl e.0)))
        (all_found t es s.1 (λ q x found. h q x (ap (λ b. cond b (Some e.1) (lookup (is_key q) es)) (later es q x s.0 found) ∙ found)))
      where
        -- a key that stands behind the first one is another
        later : (fs : List (K × X)) (q : K) (x : X) → AllByRecursion (λ y. R e.0 y ≡ Less) (keys_of fs) → lookup (is_key q) fs ≡ Some x → is_key q e.0 ≡ false
        later [] q x a found = absurd (false≢true (ap is_some found))
        later (f ∷ fs) q x a found = by (is_key q f.0) refl found (later fs q x a.1)
          where
            by : (b : Bool) → is_key q f.0 ≡ b → cond b (Some f.1) (lookup (is_key q) fs) ≡ Some x → (lookup (is_key q) fs ≡ Some x → is_key q e.0 ≡ false) → is_key q e.0 ≡ false
            by true k here ih = keys.congr q f.0 e.0 k ∙ keys.symm f.0 e.0 ∙ ap is_eq a.0
            by false k more ih = ih more
