-- One pair more or less of a tree, from one more or less of a level's parts.
use Rattle.std.proofs.Common.{◌≡◌, ℕ, ◌+◌, ◌≤◌, Bool, true, false, cond, ◌&&◌, List, [], ◌∷◌, Some, None, Result, Ok, Err, OnOk, IfErr, refl, sym, ap, ◌∙◌, arith}
use Rattle.std.specs.List.{sum_by, IsDistinct}
use Rattle.std.specs.Result.{is_ok}
use Rattle.std.specs.Str.{bytes_eq}
use Rattle.std.specs.Cmp.Lexicographic.{pointwise, slice_cmp}
use Rattle.std.specs.Cmp.{eq_by_cmp_equiv}
use Rattle.std.specs.Ordering.{is_eq, nat_cmp, eq_by_cmp}
use Rattle.std.specs.Map.{lookup, keys_of}
use Rattle.std.specs.BTreeMap.{is_at}
use Rattle.std.proofs.lemmas.Bool.{false≢true}
use Rattle.std.proofs.lemmas.List.Sums.{sum_by-cons}
use Rattle.std.proofs.lemmas.Map.{lookup-none}
use Rattle.std.proofs.lemmas.Map.Entries.{none_past_head}
use Rattle.std.proofs.lemmas.Map.Keys.{IsDistinct-tail}
use Rattle.std.proofs.lemmas.Map.Text.{is_eq-slice_cmp}
use Rattle.zr_key.specs.Key.{is_plain_text}
use Rattle.zr_index.specs.Pairs.{pairs, weigh_below, one, TakesOne, TakesValue, TakesBelow}
use Rattle.zr_index.specs.declared.node.Node.{Node}
use Rattle.zr_index.specs.declared.node.Node.TheOpen.{Node-F}
use Rattle.zr_index.specs.declared.node.Node.TheViews.{out-Node, roll-Node}
use Rattle.zr_index.proofs.Levels.{guarded, level, weigh_roll, weigh_out}
use Rattle.zr_index.proofs.Changing.{grow_plain, grow_wild, same_level, sum_all_zero, none_ends, none_plain, none_wild, sum_le}
use Rattle.zr_index.proofs.Sought.{same_key, total_by}
use Rattle.zr_index.proofs.Weights.{some_is}

pub at_ok : {T E P : Type 0} (r : Result T E) → is_ok r ≡ true → OnOk r P → P
at_ok (Ok t) e h = h
at_ok (Err x) e h = absurd (false≢true e)

pub refused_weaker : {T V A B : Type 0} (x : V) (r : Result T V) → (A → B) → IfErr r (λ back. (back ≡ x) × A) → IfErr r (λ back. (back ≡ x) × B)
refused_weaker x (Ok t) f h = h
refused_weaker x (Err e) f h = (h.0, f h.1)

module _ {V : Type 0} (n : Node V) (y : Node-F V (Node V)) (whole : List (List ℕ)) where
  -- one pair more
  pub added : (f : List (List ℕ) × V → ℕ) (path : List (List ℕ)) (v : V) → whole ≡ path → level f y ≡ f (path, v) + level f (out-Node V n) → sum_by f (pairs (roll-Node V y)) ≡ sum_by f ((whole, v) ∷ pairs n)
  added f path v e h = omega (arith, h, weigh_roll f y, weigh_out f n, ap (λ w. f (w, v)) e, sum_by-cons f (whole, v) (pairs n))

  -- one pair less
  taken : (f : List (List ℕ) × V → ℕ) (path : List (List ℕ)) (v : V) → whole ≡ path → level f (out-Node V n) ≡ f (path, v) + level f y → sum_by f (pairs n) ≡ sum_by f ((whole, v) ∷ pairs (roll-Node V y))
  taken f path v e h = omega (arith, h, weigh_roll f y, weigh_out f n, ap (λ w. f (w, v)) e, sum_by-cons f (whole, v) (pairs (roll-Node V y)))

  pub kept : (f : List (List ℕ) × V → ℕ) → level f y ≡ level f (out-Node V n) → sum_by f (pairs (roll-Node V y)) ≡ sum_by f (pairs n)
  kept f h = weigh_roll f y ∙ h ∙ sym (weigh_out f n)

  module _ (eq : V → V → Bool) (v : V) where
    none : (path : List (List ℕ)) → whole ≡ path → level (one eq path v) (out-Node V n) ≡ 0 → sum_by (one eq whole v) (pairs n) ≡ 0
    none path e h = ap (λ w. sum_by (one eq w v) (pairs n)) e ∙ weigh_out (one eq path v) n ∙ h

    pub takes_value : (b : Bool) → whole ≡ [] → y.plain.entries ≡ (out-Node V n).plain.entries → y.wild.entries ≡ (out-Node V n).wild.entries
        → TakesValue eq v (out-Node V n).values.items y.values.items b → TakesOne eq whole v (pairs n) (pairs (roll-Node V y)) b
    takes_value true e p q h = (
      h.0,
      h.1,
      λ f. taken f [] h.0 e (
          omega (arith, h.2 (λ w. f ([], w)), ap (weigh_below (λ k. guarded true f k.items)) p, ap (weigh_below (λ k. guarded false f k.items)) q)),
    )
    takes_value false e p q h = (
      λ f. kept f (same_level f (out-Node V n) y h.0 (ap (weigh_below (λ k. guarded true f k.items)) p) (ap (weigh_below (λ k. guarded false f k.items)) q)),
      none [] e (none_ends eq v (out-Node V n) h.1),
    )

    module _ (c : List ℕ) (path : List (List ℕ)) (e : whole ≡ c ∷ path) (values : y.values.items ≡ (out-Node V n).values.items) where
      pub takes_plain : (b : Bool) → is_plain_text c ≡ true → y.wild.entries ≡ (out-Node V n).wild.entries
          → TakesBelow (λ k. k.items) eq c path v (out-Node V n).plain.entries y.plain.entries b → TakesOne eq whole v (pairs n) (pairs (roll-Node V y)) b
      takes_plain true plain q h = (h.0, h.1, λ f. taken f (c ∷ path) h.0 e (grow_plain f y (out-Node V n) c path h.0 plain (sym values) (sym q) (h.2 (guarded true f))))
      takes_plain false plain q h = (
        λ f. kept f (same_level f (out-Node V n) y values (h.0 (guarded true f)) (ap (weigh_below (λ k. guarded false f k.items)) q)),
        none (c ∷ path) e (none_plain eq v c path (out-Node V n) plain h.1),
      )

      pub takes_wild : (b : Bool) → is_plain_text c ≡ false → y.plain.entries ≡ (out-Node V n).plain.entries
          → TakesBelow (λ k. k.items) eq c path v (out-Node V n).wild.entries y.wild.entries b → TakesOne eq whole v (pairs n) (pairs (roll-Node V y)) b
      takes_wild true wild p h = (h.0, h.1, λ f. taken f (c ∷ path) h.0 e (grow_wild f y (out-Node V n) c path h.0 wild (sym values) (sym p) (h.2 (guarded false f))))
      takes_wild false wild p h = (
        λ f. kept f (same_level f (out-Node V n) y values (ap (weigh_below (λ k. guarded true f k.items)) p) (h.0 (guarded false f))),
        none (c ∷ path) e (none_wild eq v c path (out-Node V n) wild h.1),
      )

-- ---- below chunks

module _ {V K : Type 0} (text : K → List ℕ) (eq : V → V → Bool) (c : List ℕ) (path : List (List ℕ)) (v : V) where
  abbrev counted : K → List (List ℕ) × V → ℕ
  counted k p = one eq (c ∷ path) v (text k ∷ p.0, p.1)

  no_one : (b : Bool) (k : List ℕ) (p : List (List ℕ) × V) → bytes_eq c k ≡ b → b ≡ false → one eq (c ∷ path) v (k ∷ p.0, p.1) ≡ 0
  no_one true k p e h = absurd (false≢true (sym h))
  no_one false k p e h = ap {B = ℕ} (λ t. cond ((t && pointwise bytes_eq path p.0) && eq p.1 v) 1 0) e

  pub none_in : (es : List (K × Node V)) → lookup (is_at (λ k. slice_cmp nat_cmp c (text k))) es ≡ None → weigh_below counted es ≡ 0
  none_in [] none = refl
  none_in (e ∷ es) none = by (is_eq (slice_cmp nat_cmp c (text e.0))) refl none (none_in es)
    where
      by : (b : Bool) → is_eq (slice_cmp nat_cmp c (text e.0)) ≡ b → cond b (Some e.1) (lookup (is_at (λ k. slice_cmp nat_cmp c (text k))) es) ≡ None
          → (lookup (is_at (λ k. slice_cmp nat_cmp c (text k))) es ≡ None → weigh_below counted es ≡ 0) → weigh_below counted (e ∷ es) ≡ 0
      by true t f ih = cc
      by false t f ih = omega (
        arith,
        ih f,
        sum_by-cons (λ (x : K × Node V). sum_by (counted x.0) (pairs x.1)) e es,
        sum_all_zero (counted e.0) (λ p. no_one (bytes_eq c (text e.0)) (text e.0) p refl (sym (is_eq-slice_cmp c (text e.0)) ∙ t)) (pairs e.1),
      )

  one_le : (k : List ℕ) (p : List (List ℕ) × V) → one eq (c ∷ path) v (k ∷ p.0, p.1) ≤ one eq path v p
  one_le k p = by (bytes_eq c k) (pointwise bytes_eq path p.0 && eq p.1 v) refl
    where
      less : (a : Bool) → cond ((true && a) && eq p.1 v) 1 0 ≤ cond (a && eq p.1 v) 1 0
      less a = omega arith

      by : (b r : Bool) → bytes_eq c k ≡ b → cond ((b && pointwise bytes_eq path p.0) && eq p.1 v) 1 0 ≤ cond (pointwise bytes_eq path p.0 && eq p.1 v) 1 0
      by true r e = less (pointwise bytes_eq path p.0)
      by false r e = omega arith

  only_in : (es : List (K × Node V)) (old : Node V) → IsDistinct (eq_by_cmp (λ (x y : K). slice_cmp nat_cmp (text x) (text y))) (keys_of es)
      → lookup (is_at (λ k. slice_cmp nat_cmp c (text k))) es ≡ Some old → sum_by (one eq path v) (pairs old) ≡ 0 → weigh_below counted es ≡ 0
  only_in [] old d found h = cc
  only_in (e ∷ es) old d found h =
      by (is_eq (slice_cmp nat_cmp c (text e.0))) refl found (λ f. only_in es old (IsDistinct-tail (eq_by_cmp (λ (x y : K). slice_cmp nat_cmp (text x) (text y))) e.0 (keys_of es) d) f h)
    where
      by : (b : Bool) → is_eq (slice_cmp nat_cmp c (text e.0)) ≡ b → cond b (Some e.1) (lookup (is_at (λ k. slice_cmp nat_cmp c (text k))) es) ≡ Some old
          → (lookup (is_at (λ k. slice_cmp nat_cmp c (text k))) es ≡ Some old → weigh_below counted es ≡ 0) → weigh_below counted (e ∷ es) ≡ 0
      by true t f ih =
          let same = same_key c (text e.0) t in
          let this = some_is e.1 old f in
          let o = total_by text in
          let others = lookup-none (eq_by_cmp (λ (x y : K). slice_cmp nat_cmp (text x) (text y)) e.0) es
          (none_past_head (eq_by_cmp_equiv o) e.0 e es d ((eq_by_cmp_equiv o).refl e.0)) in
          let rest = none_in es (ap (λ z. lookup (λ x. is_eq (slice_cmp nat_cmp z (text x))) es) same ∙ others) in
          let le = sum_le eq v c path (counted e.0) (one eq path v) (one_le (text e.0)) (pairs e.1) in
          let zero = ap (λ x. sum_by (one eq path v) (pairs x)) this ∙ h in
          omega (arith, rest, le, zero, sum_by-cons (λ (x : K × Node V). sum_by (counted x.0) (pairs x.1)) e es)
      by false t f ih = omega (
        arith,
        ih f,
        sum_by-cons (λ (x : K × Node V). sum_by (counted x.0) (pairs x.1)) e es,
        sum_all_zero (counted e.0) (λ p. no_one (bytes_eq c (text e.0)) (text e.0) p refl (sym (is_eq-slice_cmp c (text e.0)) ∙ t)) (pairs e.1),
      )

  -- what is taken of the child of a chunk is taken of all that stand below chunks
  pub takes_below : (b : Bool) (es fs : List (K × Node V)) (old new : Node V) → IsDistinct (eq_by_cmp (λ (x y : K). slice_cmp nat_cmp (text x) (text y))) (keys_of es)
      → lookup (is_at (λ k. slice_cmp nat_cmp c (text k))) es ≡ Some old
      → ((f : List ℕ → List (List ℕ) × V → ℕ) → weigh_below (λ k. f (text k)) fs + sum_by (f c) (pairs old) ≡ weigh_below (λ k. f (text k)) es + sum_by (f c) (pairs new))
      → TakesOne eq path v (pairs old) (pairs new) b → TakesBelow text eq c path v es fs b
  takes_below true es fs old new d found set h = (h.0, h.1, λ f. omega (arith, set f, h.2 (f c), sum_by-cons (f c) (path, h.0) (pairs new)))
  takes_below false es fs old new d found set h = (λ f. omega (arith, set f, h.0 (f c)), only_in es old d found h.1)
