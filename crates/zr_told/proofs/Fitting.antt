-- Ids fit.
use Rattle.std.proofs.Common.{◌≡◌, ℕ, ◌+◌, ◌≤◌, ◌||◌, not, Bool, true, false, cond, List, [], ◌∷◌, length, filter, refl, sym, ap, ◌∙◌, arith}
use Rattle.std.specs.declared.option.Option.{Option}
use Rattle.std.specs.declared.option.Option.TheVariants.{None, Some}
use Rattle.std.specs.List.{list_any, AllByRecursion}
use Rattle.std.specs.Option.{option_map_or, is_some}
use Rattle.std.specs.Map.{keys_of}
use Rattle.std.specs.BTreeMap.{insert_entry}
use Rattle.std.proofs.lemmas.Bool.{false≢true, false_from_ne_true}
use Rattle.std.proofs.lemmas.Option.{none-some, same_Some}
use Rattle.std.proofs.lemmas.Map.Keys.{IsDistinct-from_sorted, IsDistinct-cons}
use Rattle.std.proofs.lemmas.Map.Made.{length-le_from_is_member, is_some-lookup}
use Rattle.std.proofs.lemmas.Map.Entries.{length-keys_of}
use Rattle.zr_told_spec.specs.Place.{Ascends, place_cmp, same}
use Rattle.zr_told_spec.specs.Wanted.{Wanted}
use Rattle.zr_told_spec.specs.Told.{ToldMap, at, is_in, kept, fresh, is_told, id_for, free_id, entered}
use Rattle.zr_told.specs.Plan.{fit}
use Rattle.zr_told_spec.specs.declared.entry.Entry.{Entry}
use Rattle.zr_told_spec.specs.declared.place.Place.{Place}
use Rattle.zr_told_spec.proofs.Places.{same_equiv, same_is, at_put}
use Rattle.zr_told_spec.proofs.Free.{free_within}
use Rattle.zr_told_spec.proofs.Agree.{at_kept}
use Rattle.zr_told_spec.proofs.Wants.{keys_all}
use Rattle.zr_told_spec.proofs.Sorted.{put_ascends, filter_ascends}

-- ---- within what is wanted

abbrev Within : ToldMap → Wanted → Type 0
Within m ws = (q : Place) → is_some (at m q) ≡ true → is_in ws q ≡ true

entered_within : (m : ToldMap) (w : Place × Bool) (ws : Wanted) → is_in ws w.0 ≡ true → Within m ws → Within (entered m w) ws
entered_within m w ws i h q k = by (same q w.0) refl (sym (ap is_some (at_put m w.0 (record { id = id_for m w.0; complete = w.1 }) q)) ∙ k)
  where
    by : (s : Bool) → same q w.0 ≡ s → is_some (cond s (Some (record { id = id_for m w.0; complete = w.1 })) (at m q)) ≡ true → is_in ws q ≡ true
    by true e k = ap (λ z. is_in ws z) (same_is q w.0 e) ∙ i
    by false e k = h q k

kept_within : (ws : Wanted) (m : ToldMap) → Within (kept ws m) ws
kept_within ws m q k = by (is_in ws q) refl (sym (ap is_some (at_kept ws m q)) ∙ k)
  where
    by : (s : Bool) → is_in ws q ≡ s → is_some (cond s (at m q) None) ≡ true → is_in ws q ≡ true
    by true e k = e
    by false e k = absurd (false≢true k)

-- a place that is not there yet makes one more
one_more : (ws : Wanted) (m : ToldMap) (p : Place) → Ascends ws → Ascends m → Within m ws → is_in ws p ≡ true → at m p ≡ None → length m + 1 ≤ length ws
one_more ws m p s t h i n =
    let far : AllByRecursion (λ y. same p y ≡ false) (keys_of m) =
    keys_all (λ y. same p y ≡ false) m (λ q k. false_from_ne_true _ (λ e. false≢true (sym (ap is_some (ap (λ z. at m z) (sym (same_is p q e)) ∙ n)) ∙ k))) in
    let le : length (p ∷ keys_of m) ≤ length (keys_of ws) =
    length-le_from_is_member same_equiv (p ∷ keys_of m) (keys_of ws) (IsDistinct-cons same p (keys_of m) far (IsDistinct-from_sorted place_cmp (keys_of m) t))
    (λ q k. sym (is_some-lookup (same q) ws) ∙ by q (same q p) refl k) in
    omega (arith, le, length-keys_of m, length-keys_of ws)
  where
    by : (q : Place) (b : Bool) → same q p ≡ b → (b || list_any (same q) (keys_of m)) ≡ true → is_in ws q ≡ true
    by q true e k = ap (λ z. is_in ws z) (same_is q p e) ∙ i
    by q false e k = h q (is_some-lookup (same q) m ∙ k)

-- ---- ids fit

-- each id in use is at most this one
abbrev pub Small : ℕ → ToldMap → Type 0
Small most m = (p : Place) (e : Entry) → at m p ≡ Some e → e.id ≤ most

small_put : (most : ℕ) (m : ToldMap) (k : Place) (v : Entry) → v.id ≤ most → Small most m → Small most (insert_entry place_cmp m k v)
small_put most m k v l a q e h = by (same q k) (sym (at_put m k v q) ∙ h)
  where
    by : (s : Bool) → cond s (Some v) (at m q) ≡ Some e → e.id ≤ most
    by true t = let f : v.id ≡ e.id = ap (λ z. z.id) (same_Some v e t) in omega (arith, f, l)
    by false t = a q e t

small_kept : (most : ℕ) (ws : Wanted) (m : ToldMap) → Small most m → Small most (kept ws m)
small_kept most ws m a q e h = by (is_in ws q) (sym (at_kept ws m q) ∙ h)
  where
    by : (s : Bool) → cond s (at m q) None ≡ Some e → e.id ≤ most
    by true t = a q e t
    by false t = absurd (none-some e t)

fit_all : (ws : Wanted) (most : ℕ) → Ascends ws → length ws ≤ most → (m : ToldMap) → Ascends m → Within m ws → Small most m →
    (us : List (Place × Bool)) → AllByRecursion (λ w. is_in ws w.0 ≡ true) us → fit most m us
fit_all ws most s l m t h a [] i = tt
fit_all ws most s l m t h a (w ∷ us) i =
    let n = by (at m w.0) refl in
    (n, fit_all ws most s l (entered m w) (put_ascends m w.0 _ t) (entered_within m w ws i.0 h) (small_put most m w.0 _ n a) us i.1)
  where
    by : (o : Option Entry) → at m w.0 ≡ o → option_map_or (λ v. v.id) o (free_id m) ≤ most
    by None e = let one = one_more ws m w.0 s t h i.0 e in let f = free_within m in omega (arith, one, f, l)
    by (Some v) e = a w.0 v e

entries_in : (ws : Wanted) (f : Place × Bool → Bool) (us : Wanted) → AllByRecursion (λ q. is_in ws q ≡ true) (keys_of us) → AllByRecursion (λ w. is_in ws w.0 ≡ true) (filter f us)
entries_in ws f [] a = tt
entries_in ws f (w ∷ us) a = by (f w) (entries_in ws f us a.1)
  where
    by : (s : Bool) → AllByRecursion (λ u. is_in ws u.0 ≡ true) (filter f us) → AllByRecursion (λ u. is_in ws u.0 ≡ true) (cond s (w ∷ filter f us) (filter f us))
    by true ih = (a.0, ih)
    by false ih = ih

pub ids_fit : (again : Place → Bool) (ws : Wanted) (m : ToldMap) (most : ℕ) → Ascends ws → Ascends m → Small most m → length ws ≤ most → fit most (kept ws m) (fresh again ws (kept ws m))
ids_fit again ws m most s t a l =
    fit_all ws most s l (kept ws m) (filter_ascends (is_in ws) m t) (kept_within ws m) (small_kept most ws m a) (fresh again ws (kept ws m))
    (entries_in ws (λ w. again w.0 || not (is_told (kept ws m) w)) ws (keys_all (λ q. is_in ws q ≡ true) ws (λ q k. k)))
