-- Ids last just where no more is wanted than there are.
use Rattle.std.proofs.Common.{◌≡◌, ℕ, ◌+◌, ◌≤◌, ◌<◌, ◌==◌, ◌||◌, Bool, true, false, cond, List, [], ◌∷◌, length, map, filter, refl, sym, ap, ◌∙◌, arith}
use Rattle.std.specs.Prelude.{nat_lt, eqb}
use Rattle.std.specs.declared.option.Option.{Option}
use Rattle.std.specs.declared.option.Option.TheVariants.{None, Some}
use Rattle.std.specs.List.{list_any, fold, AllByRecursion, IsDistinct}
use Rattle.std.specs.Option.{option_map_or}
use Rattle.std.specs.BTreeMap.{insert_entry}
use Rattle.std.proofs.lemmas.Bool.{eqb-true, eq-eqb, false_from_ne_true, true≢false}
use Rattle.std.proofs.lemmas.List.{length-map}
use Rattle.std.proofs.lemmas.Map.Keys.{IsDistinct-cons}
use Rattle.std.proofs.lemmas.Map.Steps.{length-le_from_distinct_below}
use Rattle.zr_told_spec.specs.Ids.{IsLeast}
use Rattle.zr_told.specs.Laws.{IdsLast}
use Rattle.zr_told_spec.specs.Place.{Ascends, place_cmp}
use Rattle.zr_told.specs.Plan.{AreUpTo, fit, ids_differ}
use Rattle.zr_told_spec.specs.Rows.{lacks_ids, most_id}
use Rattle.zr_told_spec.specs.Told.{ToldMap, at, is_used, is_in, free_id, id_for, entered, kept, fresh, retold}
use Rattle.zr_told_spec.specs.Wanted.{is_complete_at, wanted}
use Rattle.zr_told_spec.specs.declared.entry.Entry.{Entry}
use Rattle.zr_told_spec.specs.declared.place.Place.{Place}
use Rattle.zr_told_spec.proofs.Agree.{found_used}
use Rattle.zr_told_spec.proofs.Free.{free_is_least_id}
use Rattle.zr_told.proofs.Numbers.{used_put, used_again, differ_put, differ_again}
use Rattle.zr_told_spec.proofs.Sorted.{as_many, filter_ascends, put_ascends, wanted_ascends}
use Rattle.zr_told.proofs.Fitting.{Small, ids_fit}
use Rattle.zr_told_spec.proofs.Wants.{wanted_by}

-- ---- what is kept

kept_used : (f : Place → Bool) (m : ToldMap) (n : ℕ) → is_used (filter (λ e. f e.0) m) n ≡ true → is_used m n ≡ true
kept_used f [] n h = h
kept_used f (e ∷ es) n h = by (f e.0) (e.1.id == n) (kept_used f es n) h
  where
    by : (s b : Bool) → (is_used (filter (λ d. f d.0) es) n ≡ true → is_used es n ≡ true) → is_used (cond s (e ∷ filter (λ d. f d.0) es) (filter (λ d. f d.0) es)) n ≡ true →
        (e.1.id == n || is_used es n) ≡ true
    by true b ih k = first (e.1.id == n) k
      where
        first : (b : Bool) → (b || is_used (filter (λ d. f d.0) es) n) ≡ true → (b || is_used es n) ≡ true
        first true k = refl
        first false k = ih k
    by false b ih k = second (e.1.id == n) (ih k)
      where
        second : (b : Bool) → is_used es n ≡ true → (b || is_used es n) ≡ true
        second true k = refl
        second false k = k

kept_differ : (f : Place → Bool) (m : ToldMap) → ids_differ m → ids_differ (filter (λ e. f e.0) m)
kept_differ f [] d = d
kept_differ f (e ∷ es) d = by (f e.0) (kept_differ f es d.1)
  where
    by : (s : Bool) → ids_differ (filter (λ x. f x.0) es) → ids_differ (cond s (e ∷ filter (λ x. f x.0) es) (filter (λ x. f x.0) es))
    by true ih = (false_from_ne_true _ (λ t. absurd (true≢false (sym (kept_used f es e.1.id t) ∙ d.0))), ih)
    by false ih = ih

-- ---- what is told

record AreSound (most : ℕ) (m : ToldMap) : Type 0 where
  ascends : Ascends m
  differ : ids_differ m
  within : AreUpTo most m

entered_sound : (most : ℕ) (m : ToldMap) (w : Place × Bool) → id_for m w.0 ≤ most → AreSound most m → AreSound most (entered m w)
entered_sound most m w l a = by (at m w.0) refl l
  where
    by : (o : Option Entry) → at m w.0 ≡ o → option_map_or (λ v. v.id) o (free_id m) ≤ most →
        AreSound most (insert_entry place_cmp m w.0 (record { id = option_map_or (λ v. v.id) o (free_id m); complete = w.1 }))
    by None e l =
        let least : IsLeast (is_used m) (free_id m) = free_is_least_id m in
        let v : Entry = record { id = free_id m; complete = w.1 } in
        record {
          ascends = put_ascends m w.0 v a.ascends;
          differ = differ_put m w.0 v e least.free a.differ;
          within = λ n h. in_put (free_id m == n) n refl (sym (used_put m w.0 v n e) ∙ h);
        }
      where
        in_put : (b : Bool) (n : ℕ) → (free_id m == n) ≡ b → (b || is_used m n) ≡ true → (1 ≤ n) × (n ≤ most)
        in_put true n q h =
            let p = (free_is_least_id m).positive in
            let i = eqb-true (free_id m) n q in (omega (arith, p, i), omega (arith, l, i))
        in_put false n q h = a.within n h
    by (Some u) e l =
        let v : Entry = record { id = u.id; complete = w.1 } in
        record {
          ascends = put_ascends m w.0 v a.ascends;
          differ = differ_again m w.0 v u a.ascends e refl a.differ;
          within = λ n h. a.within n (sym (used_again m w.0 v u n a.ascends e refl) ∙ h);
        }

all_sound : (most : ℕ) (ws : List (Place × Bool)) (m : ToldMap) → fit most m ws → AreSound most m → AreSound most (fold entered m ws)
all_sound most [] m f a = a
all_sound most (w ∷ ws) m f a = all_sound most ws (entered m w) f.1 (entered_sound most m w f.0 a)

-- ---- ids that differ, from 1 on, are no more than the last of them

abbrev ids_of : ToldMap → List ℕ
ids_of m = map (λ e. e.1.id) m

used_is : (m : ToldMap) (n : ℕ) → list_any (eqb n) (ids_of m) ≡ true → is_used m n ≡ true
used_is [] n h = h
used_is (e ∷ es) n h = by (used_is es n) (n == e.1.id) refl h
  where
    second : (b : Bool) → is_used es n ≡ true → (b || is_used es n) ≡ true
    second true k = refl
    second false k = k

    by : (list_any (eqb n) (ids_of es) ≡ true → is_used es n ≡ true) → (b : Bool) → (n == e.1.id) ≡ b → (b || list_any (eqb n) (ids_of es)) ≡ true → (e.1.id == n || is_used es n) ≡ true
    by ih true q k = ap (λ z. z || is_used es n) (eq-eqb e.1.id n (sym (eqb-true n e.1.id q)))
    by ih false q k = second (e.1.id == n) (ih k)

unused_far : (n : ℕ) (m : ToldMap) → is_used m n ≡ false → AllByRecursion (λ k. eqb n k ≡ false) (ids_of m)
unused_far n [] u = tt
unused_far n (e ∷ es) u = by (unused_far n es) (e.1.id == n) refl u
  where
    by : (is_used es n ≡ false → AllByRecursion (λ k. eqb n k ≡ false) (ids_of es)) → (b : Bool) → (e.1.id == n) ≡ b → (b || is_used es n) ≡ false → AllByRecursion (λ k. eqb n k ≡ false) (ids_of (e ∷ es))
    by ih true q k = absurd (true≢false k)
    by ih false q k = (false_from_ne_true _ (λ t. absurd (true≢false (sym (eq-eqb e.1.id n (sym (eqb-true n e.1.id t))) ∙ q))), ih k)

ids_distinct : (m : ToldMap) → ids_differ m → IsDistinct eqb (ids_of m)
unfolding IsDistinct
ids_distinct [] d = tt
ids_distinct (e ∷ es) d = IsDistinct-cons eqb e.1.id (ids_of es) (unused_far e.1.id es d.0) (ids_distinct es d.1)

few : (most : ℕ) (m : ToldMap) → ids_differ m → AreUpTo most m → length m ≤ most
few most m d u =
    let none : is_used m 0 ≡ false = false_from_ne_true _ (λ t. absurd (by (u 0 t).0)) in
    let le : length (0 ∷ ids_of m) ≤ most + 1 = length-le_from_distinct_below (0 ∷ ids_of m) (most + 1) (IsDistinct-cons eqb 0 (ids_of m) (unused_far 0 m none) (ids_distinct m d)) below in
    omega (arith, le, length-map m (λ e. e.1.id))
  where
    by : 1 ≤ 0 → ⊥
    by h = omega (arith, h)

    below : (q : ℕ) → list_any (eqb q) (0 ∷ ids_of m) ≡ true → q < most + 1
    below q h = at_first (eqb q 0) refl h
      where
        at_first : (b : Bool) → eqb q 0 ≡ b → (b || list_any (eqb q) (ids_of m)) ≡ true → q < most + 1
        at_first true e k = let i = eqb-true q 0 e in omega (arith, i)
        at_first false e k = let l = (u q (used_is m q k)).1 in omega (arith, l)

-- ---- the law

pub ids_last : IdsLast
ids_last again ds is m t d u = (λ l. ids_fit again (wanted ds is) m most_id (wanted_ascends ds is) t small (within (length (wanted ds is)) l), λ f. lasting (sound f))
  where
    small : Small most_id m
    small p e h = (u e.id (found_used m p e h)).1

    within : (n : ℕ) → nat_lt most_id n ≡ false → n ≤ most_id
    within n l = grind (arith, l)

    sound : fit most_id (kept (wanted ds is) m) (fresh again (wanted ds is) (kept (wanted ds is) m)) → AreSound most_id (retold again (wanted ds is) m)
    sound f = all_sound most_id (fresh again (wanted ds is) (kept (wanted ds is) m)) (kept (wanted ds is) m) f (record {
      ascends = filter_ascends (is_in (wanted ds is)) m t;
      differ = kept_differ (is_in (wanted ds is)) m d;
      within = λ n h. u n (kept_used (is_in (wanted ds is)) m n h);
    })

    lasting : AreSound most_id (retold again (wanted ds is) m) → lacks_ids ds is ≡ false
    lasting a =
        let n = few most_id (retold again (wanted ds is) m) a.differ a.within in
        let e = as_many again (is_complete_at ds) (wanted ds is) m (wanted_by ds is) (wanted_ascends ds is) t in
        grind (arith, n, e)
