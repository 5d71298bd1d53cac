-- The ids of a told map once an entry was put or taken out.
use Rattle.std.proofs.Common.{Less, Equal, Greater, ◌≡◌, ℕ, ◌-◌, ◌^◌, ◌≤◌, ◌==◌, ◌&&◌, ◌||◌, not, Bool, true, false, cond, [], ◌∷◌, refl, sym, ap, ◌∙◌, arith}
use Rattle.std.specs.declared.cmp.Ordering.{Ordering}
use Rattle.std.specs.Ordering.{is_eq, match_ordering}
use Rattle.std.specs.declared.option.Option.TheVariants.{None, Some}
use Rattle.std.specs.Map.{keys_of, remove_entry}
use Rattle.std.specs.BTreeMap.{insert_entry}
use Rattle.std.proofs.lemmas.Bool.{eqb-true, eq-eqb, false_from_ne_true, true≢false, or_parts}
use Rattle.std.proofs.lemmas.Option.{none-some, same_Some}
use Rattle.std.proofs.lemmas.Map.Keys.{sorted_tail}
use Rattle.std.proofs.lemmas.Map.Entries.{none_below_head}
use Rattle.std.proofs.lemmas.Map.{lookup-none}
use Rattle.zr_told_spec.specs.Place.{Ascends, place_cmp, same}
use Rattle.zr_told_spec.specs.Told.{ToldMap, at, is_used, free_id}
use Rattle.zr_told.specs.Plan.{ids_differ, AreNumbered}
use Rattle.zr_told_spec.specs.Ids.{IsLeast}
use Rattle.zr_told.specs.Ids.{IdsState, AreIds, is_given}
use Rattle.zr_told_spec.proofs.Places.{place_total}
use Rattle.zr_told_spec.proofs.Free.{free_is_least_id, least_is_one}
use Rattle.zr_told.proofs.Freed.{given_within}
use Rattle.zr_told_spec.proofs.Agree.{found_used}
use Rattle.zr_told_spec.proofs.Sorted.{put_ascends}
use Rattle.zr_told_spec.specs.declared.entry.Entry.{Entry}
use Rattle.zr_told_spec.specs.declared.place.Place.{Place}
use Rattle.zr_lists.proofs.Truths.{or_swap}

-- ---- an entry where none was

pub used_put : (m : ToldMap) (p : Place) (v : Entry) (k : ℕ) → at m p ≡ None → is_used (insert_entry place_cmp m p v) k ≡ (v.id == k || is_used m k)
used_put [] p v k n = refl
used_put (e ∷ es) p v k n = by (place_cmp p e.0) (λ z. used_put es p v k z) n
  where
    by : (o : Ordering) → (at es p ≡ None → is_used (insert_entry place_cmp es p v) k ≡ (v.id == k || is_used es k)) → cond (is_eq o) (Some e.1) (at es p) ≡ None →
        is_used (match_ordering o ((p, v) ∷ e ∷ es) ((e.0, v) ∷ es) (e ∷ insert_entry place_cmp es p v)) k ≡ (v.id == k || (e.1.id == k || is_used es k))
    by Less ih h = refl
    by Equal ih h = absurd (none-some e.1 (sym h))
    by Greater ih h = ap (λ z. e.1.id == k || z) (ih h) ∙ or_swap (e.1.id == k) (v.id == k) (is_used es k)

pub differ_put : (m : ToldMap) (p : Place) (v : Entry) → at m p ≡ None → is_used m v.id ≡ false → ids_differ m → ids_differ (insert_entry place_cmp m p v)
differ_put [] p v n u d = (refl, tt)
differ_put (e ∷ es) p v n u d = by (place_cmp p e.0) (λ z. used_put es p v e.1.id z) (λ z w. differ_put es p v z w d.1) n
  where
    off : (e.1.id == v.id) ≡ false
    off = (or_parts (e.1.id == v.id) (is_used es v.id) u).0

    back : (v.id == e.1.id) ≡ false
    back = false_from_ne_true _ (λ t. absurd (true≢false (sym (eq-eqb e.1.id v.id (sym (eqb-true v.id e.1.id t))) ∙ off)))

    by : (o : Ordering) → (at es p ≡ None → is_used (insert_entry place_cmp es p v) e.1.id ≡ (v.id == e.1.id || is_used es e.1.id)) → (at es p ≡ None → is_used es v.id ≡ false → ids_differ (insert_entry place_cmp es p v)) →
        cond (is_eq o) (Some e.1) (at es p) ≡ None → ids_differ (match_ordering o ((p, v) ∷ e ∷ es) ((e.0, v) ∷ es) (e ∷ insert_entry place_cmp es p v))
    by Less g ih h = (u, d)
    by Equal g ih h = absurd (none-some e.1 (sym h))
    by Greater g ih h = (g h ∙ ap (λ z. z || is_used es e.1.id) back ∙ d.0, ih h (or_parts (e.1.id == v.id) (is_used es v.id) u).1)

-- ---- another entry in place of one of the same id

none_below : (p : Place) (e : Place × Entry) (es : ToldMap) (u : Entry) → Ascends (e ∷ es) → place_cmp p e.0 ≡ Less → at (e ∷ es) p ≡ Some u → ⊥
none_below p e es u s l h = none-some u (sym (lookup-none (same p) (e ∷ es) (none_below_head place_total p e es s l)) ∙ h)

pub used_again : (m : ToldMap) (p : Place) (v u : Entry) (k : ℕ) → Ascends m → at m p ≡ Some u → v.id ≡ u.id → is_used (insert_entry place_cmp m p v) k ≡ is_used m k
used_again [] p v u k s h i = absurd (none-some u h)
used_again (e ∷ es) p v u k s h i = by (place_cmp p e.0) refl (λ z. used_again es p v u k (sorted_tail place_cmp e.0 (keys_of es) s) z i) h
  where
    by : (o : Ordering) → place_cmp p e.0 ≡ o → (at es p ≡ Some u → is_used (insert_entry place_cmp es p v) k ≡ is_used es k) → cond (is_eq o) (Some e.1) (at es p) ≡ Some u →
        is_used (match_ordering o ((p, v) ∷ e ∷ es) ((e.0, v) ∷ es) (e ∷ insert_entry place_cmp es p v)) k ≡ (e.1.id == k || is_used es k)
    by Less q ih t = absurd (none_below p e es u s q h)
    by Equal q ih t = let f : v.id ≡ e.1.id = i ∙ ap (λ z. z.id) (sym (same_Some e.1 u t)) in ap (λ z. z == k || is_used es k) f
    by Greater q ih t = ap (λ z. e.1.id == k || z) (ih t)

pub differ_again : (m : ToldMap) (p : Place) (v u : Entry) → Ascends m → at m p ≡ Some u → v.id ≡ u.id → ids_differ m → ids_differ (insert_entry place_cmp m p v)
differ_again [] p v u s h i d = absurd (none-some u h)
differ_again (e ∷ es) p v u s h i d =
    let t = sorted_tail place_cmp e.0 (keys_of es) s in
    by (place_cmp p e.0) refl (λ z. used_again es p v u e.1.id t z i) (λ z. differ_again es p v u t z i d.1) h
  where
    by : (o : Ordering) → place_cmp p e.0 ≡ o → (at es p ≡ Some u → is_used (insert_entry place_cmp es p v) e.1.id ≡ is_used es e.1.id) → (at es p ≡ Some u → ids_differ (insert_entry place_cmp es p v)) →
        cond (is_eq o) (Some e.1) (at es p) ≡ Some u → ids_differ (match_ordering o ((p, v) ∷ e ∷ es) ((e.0, v) ∷ es) (e ∷ insert_entry place_cmp es p v))
    by Less q g ih t = absurd (none_below p e es u s q h)
    by Equal q g ih t = let f : v.id ≡ e.1.id = i ∙ ap (λ z. z.id) (sym (same_Some e.1 u t)) in (ap (λ z. is_used es z) f ∙ d.0, d.1)
    by Greater q g ih t = (g t ∙ d.0, ih t)

-- ---- without an entry

keep_unused : (b c : Bool) → b ≡ false → (b && not c) ≡ b
keep_unused true c h = absurd (true≢false h)
keep_unused false c h = refl

pub used_without : (m : ToldMap) (p : Place) (u : Entry) (k : ℕ) → at m p ≡ Some u → ids_differ m → is_used (remove_entry (same p) m) k ≡ (is_used m k && not (u.id == k))
used_without [] p u k h d = absurd (none-some u h)
used_without (e ∷ es) p u k h d = by (same p e.0) (λ z. used_without es p u k z d.1) h
  where
    first : (e.1.id ≡ u.id) → is_used es k ≡ ((e.1.id == k || is_used es k) && not (u.id == k))
    first i = at_id (e.1.id == k) refl
      where
        at_id : (b : Bool) → (e.1.id == k) ≡ b → is_used es k ≡ ((b || is_used es k) && not (u.id == k))
        at_id true q =
            let g : (u.id == k) ≡ true = ap (λ z. z == k) (sym i) ∙ q in
            let n : is_used es k ≡ false = ap (λ z. is_used es z) (sym (eqb-true e.1.id k q)) ∙ d.0 in
            n ∙ ap not (sym g)
        at_id false q = let g : (u.id == k) ≡ false = ap (λ z. z == k) (sym i) ∙ q in rw g (last (is_used es k))
          where
            last : (b : Bool) → b ≡ (b && true)
            last true = refl
            last false = refl

    apart : at es p ≡ Some u → (e.1.id == k || is_used es k && not (u.id == k)) ≡ ((e.1.id == k || is_used es k) && not (u.id == k))
    apart t = at_id (e.1.id == k) refl
      where
        at_id : (b : Bool) → (e.1.id == k) ≡ b → (b || is_used es k && not (u.id == k)) ≡ ((b || is_used es k) && not (u.id == k))
        at_id true q =
            let used : is_used es u.id ≡ true = found_used es p u t in
            let g : (u.id == k) ≡ false = false_from_ne_true _ (λ z.
            let j : u.id ≡ e.1.id = eqb-true u.id k z ∙ sym (eqb-true e.1.id k q) in
            absurd (true≢false (sym used ∙ ap (λ y. is_used es y) j ∙ d.0))) in
            ap not (sym g)
        at_id false q = refl

    by : (b : Bool) → (at es p ≡ Some u → is_used (remove_entry (same p) es) k ≡ (is_used es k && not (u.id == k))) → cond b (Some e.1) (at es p) ≡ Some u →
        is_used (cond b es (e ∷ remove_entry (same p) es)) k ≡ ((e.1.id == k || is_used es k) && not (u.id == k))
    by true ih t = first (ap (λ z. z.id) (same_Some e.1 u t))
    by false ih t = ap (λ z. e.1.id == k || z) (ih t) ∙ apart t

fewer_used : (m : ToldMap) (p : Place) (k : ℕ) → is_used m k ≡ false → is_used (remove_entry (same p) m) k ≡ false
fewer_used [] p k u = u
fewer_used (e ∷ es) p k u = let o = or_parts (e.1.id == k) (is_used es k) u in by (same p e.0) o.1 (fewer_used es p k o.1) o.0
  where
    by : (b : Bool) → is_used es k ≡ false → is_used (remove_entry (same p) es) k ≡ false → (e.1.id == k) ≡ false → is_used (cond b es (e ∷ remove_entry (same p) es)) k ≡ false
    by true u ih q = u
    by false u ih q = rw q ih

pub differ_without : (m : ToldMap) (p : Place) → ids_differ m → ids_differ (remove_entry (same p) m)
differ_without [] p d = d
differ_without (e ∷ es) p d = by (same p e.0) (differ_without es p d.1) (fewer_used es p e.1.id d.0)
  where
    by : (b : Bool) → ids_differ (remove_entry (same p) es) → is_used (remove_entry (same p) es) e.1.id ≡ false → ids_differ (cond b es (e ∷ remove_entry (same p) es))
    by true ih f = d.1
    by false ih f = (f, ih)

-- ---- all three facts together

pub numbered_without : (m : ToldMap) (s t : IdsState) (p : Place) (u : Entry) → AreNumbered m s → at m p ≡ Some u → ((k : ℕ) → is_given t k ≡ (is_given s k && not (u.id == k))) →
    Ascends (remove_entry (same p) m) → AreNumbered (remove_entry (same p) m) t
numbered_without m s t p u a h g o = record {
  given = λ k. g k ∙ ap (λ z. z && not (u.id == k)) (a.given k) ∙ sym (used_without m p u k h a.differ);
  differ = differ_without m p a.differ;
  ascends = o;
}

pub numbered_put : (m : ToldMap) (s t : IdsState) (p : Place) (v : Entry) → AreNumbered m s → at m p ≡ None → is_used m v.id ≡ false → ((k : ℕ) → is_given t k ≡ (v.id == k || is_given s k)) →
    AreNumbered (insert_entry place_cmp m p v) t
numbered_put m s t p v a n u g = record {
  given = λ k. g k ∙ ap (λ z. v.id == k || z) (a.given k) ∙ sym (used_put m p v k n);
  differ = differ_put m p v n u a.differ;
  ascends = put_ascends m p v a.ascends;
}

pub numbered_again : (m : ToldMap) (s : IdsState) (p : Place) (v u : Entry) → AreNumbered m s → at m p ≡ Some u → v.id ≡ u.id → AreNumbered (insert_entry place_cmp m p v) s
numbered_again m s p v u a h i = record {
  given = λ k. a.given k ∙ sym (used_again m p v u k a.ascends h i);
  differ = differ_again m p v u a.ascends h i a.differ;
  ascends = put_ascends m p v a.ascends;
}

-- the least id of the kept ids is the least that isn't in use
pub least_id : (m : ToldMap) (s : IdsState) (n : ℕ) → AreNumbered m s → IsLeast (is_given s) n → n ≡ free_id m
least_id m s n a l = least_is_one (is_used m) n (free_id m)
    (record { positive = l.positive; free = sym (a.given n) ∙ l.free; least = λ k le lt. sym (a.given k) ∙ l.least k le lt })
    (free_is_least_id m)

pub ids_small : (m : ToldMap) (s : IdsState) → AreNumbered m s → AreIds s → (p : Place) (e : Entry) → at m p ≡ Some e → e.id ≤ 2 ^ 32 - 1
ids_small m s a i p e h =
    let g = given_within s e.id i (a.given e.id ∙ found_used m p e h) in
    omega (arith, g.1, i.upto)

-- where nothing stands nothing goes
pub nothing_without : (m : ToldMap) (p : Place) → at m p ≡ None → remove_entry (same p) m ≡ m
nothing_without [] p h = refl
nothing_without (e ∷ es) p h = by (same p e.0) (nothing_without es p) h
  where
    by : (b : Bool) → (at es p ≡ None → remove_entry (same p) es ≡ es) → cond b (Some e.1) (at es p) ≡ None → cond b es (e ∷ remove_entry (same p) es) ≡ e ∷ es
    by true ih h = absurd (none-some e.1 (sym h))
    by false ih h = ap (λ z. e ∷ z) (ih h)
