-- Sums over the entries of a map, each weighed by its key and its value, as the map changes.
use Rattle.std.proofs.Common.{◌≡◌, ℕ, ◌+◌, Bool, true, false, cond, List, [], ◌∷◌, Option, Some, None, refl, ap, ◌∙◌, arith}
use Rattle.std.specs.declared.cmp.Ordering.{Ordering}
use Rattle.std.specs.declared.cmp.Ordering.TheVariants.{Less, Equal, Greater}
use Rattle.std.specs.List.{sum_by}
use Rattle.std.specs.Ordering.{match_ordering, is_eq}
use Rattle.std.specs.Map.{lookup, set_value, remove_entry}
use Rattle.std.specs.BTreeMap.{insert_entry, is_at}
use Rattle.std.proofs.lemmas.List.Sums.{sum_by-cons}

pub some_is : {X : Type 0} (v w : X) → Some v ≡ Some w → v ≡ w
some_is v w e = cc

module _ {K X N : Type 0} (name : K → N) (g : N → X → ℕ) where
  abbrev total : List (K × X) → ℕ
  total es = sum_by (λ e. g (name e.0) e.1) es

  -- an entry's value is another
  pub sum_set : (test : K → Bool) (c : N) → ((k : K) → test k ≡ true → name k ≡ c) → (es : List (K × X)) (v w : X) → lookup test es ≡ Some v
      → total (set_value test es w) + g c v ≡ total es + g c w
  sum_set test c same [] v w found = cc
  sum_set test c same (e ∷ es) v w found = by (test e.0) refl found (sum_set test c same es v w)
    where
      by : (b : Bool) → test e.0 ≡ b → cond b (Some e.1) (lookup test es) ≡ Some v → (lookup test es ≡ Some v → total (set_value test es w) + g c v ≡ total es + g c w)
          → total (cond b ((e.0, w) ∷ es) (e ∷ set_value test es w)) + g c v ≡ total (e ∷ es) + g c w
      by true t f ih =
          let here : g (name e.0) w ≡ g c w = ap (λ n. g n w) (same e.0 t) in
          let had : g (name e.0) e.1 ≡ g c v = ap (λ n. g n e.1) (same e.0 t) ∙ ap (g c) (some_is e.1 v f) in
          omega (arith, here, had, sum_by-cons (λ (e : K × X). g (name e.0) e.1) (e.0, w) es, sum_by-cons (λ (e : K × X). g (name e.0) e.1) e es)
      by false t f ih = omega (arith, ih f, sum_by-cons (λ (e : K × X). g (name e.0) e.1) e (set_value test es w), sum_by-cons (λ (e : K × X). g (name e.0) e.1) e es)

  -- an entry is gone
  pub sum_gone : (test : K → Bool) (c : N) → ((k : K) → test k ≡ true → name k ≡ c) → (es : List (K × X)) (v : X) → lookup test es ≡ Some v
      → total (remove_entry test es) + g c v ≡ total es
  sum_gone test c same [] v found = cc
  sum_gone test c same (e ∷ es) v found = by (test e.0) refl found (sum_gone test c same es v)
    where
      by : (b : Bool) → test e.0 ≡ b → cond b (Some e.1) (lookup test es) ≡ Some v → (lookup test es ≡ Some v → total (remove_entry test es) + g c v ≡ total es)
          → total (cond b es (e ∷ remove_entry test es)) + g c v ≡ total (e ∷ es)
      by true t f ih =
          let had : g (name e.0) e.1 ≡ g c v = ap (λ n. g n e.1) (same e.0 t) ∙ ap (g c) (some_is e.1 v f) in
          omega (arith, had, sum_by-cons (λ (e : K × X). g (name e.0) e.1) e es)
      by false t f ih = omega (arith, ih f, sum_by-cons (λ (e : K × X). g (name e.0) e.1) e (remove_entry test es), sum_by-cons (λ (e : K × X). g (name e.0) e.1) e es)

  -- an entry is new
  pub sum_new : (cmp : K → K → Ordering) (k : K) (v : X) (es : List (K × X)) → lookup (is_at (cmp k)) es ≡ None → total (insert_entry cmp es k v) ≡ g (name k) v + total es
  sum_new cmp k v [] none = sum_by-cons (λ (e : K × X). g (name e.0) e.1) (k, v) []
  sum_new cmp k v (e ∷ es) none = by (cmp k e.0) none (sum_new cmp k v es)
    where
      by : (o : Ordering) → cond (is_eq o) (Some e.1) (lookup (is_at (cmp k)) es) ≡ None → (lookup (is_at (cmp k)) es ≡ None → total (insert_entry cmp es k v) ≡ g (name k) v + total es)
          → total (match_ordering o ((k, v) ∷ e ∷ es) ((e.0, v) ∷ es) (e ∷ insert_entry cmp es k v)) ≡ g (name k) v + total (e ∷ es)
      by Less f ih = sum_by-cons (λ (e : K × X). g (name e.0) e.1) (k, v) (e ∷ es)
      by Equal f ih = cc
      by Greater f ih = omega (arith, ih f, sum_by-cons (λ (e : K × X). g (name e.0) e.1) e (insert_entry cmp es k v), sum_by-cons (λ (e : K × X). g (name e.0) e.1) e es)

-- what was written is found
pub lookup_set : {K X : Type 0} (test : K → Bool) (es : List (K × X)) (v w : X) → lookup test es ≡ Some v → lookup test (set_value test es w) ≡ Some w
lookup_set test [] v w found = cc
lookup_set {K = K} {X = X} test (e ∷ es) v w found = by (test e.0) refl found (lookup_set test es v w)
  where
    by : (b : Bool) → test e.0 ≡ b → cond b (Some e.1) (lookup test es) ≡ Some v → (lookup test es ≡ Some v → lookup test (set_value test es w) ≡ Some w)
        → lookup test (cond b ((e.0, w) ∷ es) (e ∷ set_value test es w)) ≡ Some w
    by true t f ih = ap {B = Option X} (λ b. cond b (Some w) (lookup test es)) t
    by false t f ih = ap {B = Option X} (λ b. cond b (Some e.1) (lookup test (set_value test es w))) t ∙ ih f
