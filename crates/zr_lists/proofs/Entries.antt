-- How many entries there are once one more was put in.
use Rattle.std.proofs.Common.{◌≡◌, ℕ, ◌+◌, ◌≤◌, suc, List, [], ◌∷◌, length, Ordering, Less, Equal, Greater, arith}
use Rattle.std.specs.BTreeMap.{insert_entry}
use Rattle.std.specs.Ordering.{match_ordering}

module _ {K X : Type 0} (R : K → K → Ordering) where
  pub length_inserted : (es : List (K × X)) (k : K) (v : X) → length (insert_entry R es k v) ≤ length es + 1
  length_inserted [] k v = omega arith
  length_inserted (e ∷ es) k v = by (R k e.0) (length_inserted es k v)
    where
      by : (o : Ordering) → length (insert_entry R es k v) ≤ length es + 1 →
          length (match_ordering o ((k, v) ∷ e ∷ es) ((e.0, v) ∷ es) (e ∷ insert_entry R es k v)) ≤ suc (length es) + 1
      by Less ih = omega arith
      by Equal ih = omega arith
      by Greater ih = omega (arith, ih)
