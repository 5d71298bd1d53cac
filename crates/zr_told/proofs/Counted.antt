-- How much is wanted, counted by what is planned.
use Rattle.std.proofs.Common.{◌≡◌, ◌+◌, ◌||◌, not, Bool, true, false, cond, [], ◌∷◌, length, filter, refl, sym, ap, ◌∙◌, arith}
use Rattle.std.specs.declared.option.Option.{Option}
use Rattle.std.specs.declared.option.Option.TheVariants.{None, Some}
use Rattle.std.specs.Map.{lookup, keys_of}
use Rattle.std.specs.Option.{option_map_or, is_some}
use Rattle.std.proofs.lemmas.Bool.{true≢false}
use Rattle.std.proofs.lemmas.List.Filters.{length-filter_both}
use Rattle.std.proofs.lemmas.Map.Keys.{IsDistinct-from_sorted}
use Rattle.std.proofs.lemmas.Map.Made.{length-from_same_keys, is_some-lookup}
use Rattle.std.proofs.lemmas.Map.Entries.{length-keys_of, lookup-filter-keys}
use Rattle.std.proofs.Math.Bool.{or-true}
use Rattle.zr_told_spec.specs.Place.{Ascends, place_cmp, same}
use Rattle.zr_told_spec.specs.Wanted.{Wanted}
use Rattle.zr_told_spec.specs.Told.{ToldMap, at, is_in, kept, gone, bool_same, is_told, fresh}
use Rattle.zr_told.specs.Plan.{count_new}
use Rattle.zr_told_spec.specs.declared.entry.Entry.{Entry}
use Rattle.zr_told_spec.specs.declared.place.Place.{Place}
use Rattle.zr_told_spec.proofs.Places.{same_equiv, same_is}
use Rattle.zr_told_spec.proofs.Agree.{at_kept}
use Rattle.zr_told_spec.proofs.Sorted.{keys_filter, filter_ascends}

-- what wasn't told is told
new_fresh : (again : Place → Bool) (k m : ToldMap) (ws : Wanted) → ((p : Place) → at m p ≡ None → at k p ≡ None) →
    filter (λ u. not (is_some (at m u.0))) (fresh again ws k) ≡ filter (λ u. not (is_some (at m u.0))) ws
new_fresh again k m [] h = refl
new_fresh again k m (w ∷ ws) h = by (at m w.0) refl (again w.0 || not (is_told k w)) refl (new_fresh again k m ws h)
  where
    by : (o : Option Entry) → at m w.0 ≡ o → (g : Bool) → (again w.0 || not (is_told k w)) ≡ g → filter (λ u. not (is_some (at m u.0))) (fresh again ws k) ≡ filter (λ u. not (is_some (at m u.0))) ws →
        filter (λ u. not (is_some (at m u.0))) (cond g (w ∷ fresh again ws k) (fresh again ws k)) ≡ cond (not (is_some (at m w.0))) (w ∷ filter (λ u. not (is_some (at m u.0))) ws) (filter (λ u. not (is_some (at m u.0))) ws)
    by o e true f ih = ap (λ z. cond (not (is_some (at m w.0))) (w ∷ z) z) ih
    by None e false f ih =
        let t : (again w.0 || not (is_told k w)) ≡ true = ap (λ z. again w.0 || not (option_map_or (λ v. bool_same v.complete w.1) z false)) (h w.0 e) ∙ or-true (again w.0) in
        absurd (true≢false (sym t ∙ f))
    by (Some v) e false f ih = ih ∙ sym (ap (λ z. cond (not (is_some z)) (w ∷ filter (λ u. not (is_some (at m u.0))) ws) (filter (λ u. not (is_some (at m u.0))) ws)) e)

both_some : {X Y : Type 0} (o : Option X) (p : Option Y) → is_some (cond (is_some o) p None) ≡ is_some (cond (is_some p) o None)
both_some None None = refl
both_some None (Some y) = refl
both_some (Some x) None = refl
both_some (Some x) (Some y) = refl

kept_count : (ws : Wanted) (m : ToldMap) → Ascends ws → Ascends m → length (filter (λ w. is_some (at m w.0)) ws) ≡ length (kept ws m)
kept_count ws m s t =
    let e = length-from_same_keys same_equiv (keys_of (filter (λ w. is_some (at m w.0)) ws)) (keys_of (kept ws m))
    (IsDistinct-from_sorted place_cmp _ (filter_ascends (λ p. is_some (at m p)) ws s)) (IsDistinct-from_sorted place_cmp _ (filter_ascends (is_in ws) m t))
    (λ q. sym (is_some-lookup (same q) (filter (λ w. is_some (at m w.0)) ws))
    ∙ ap is_some (lookup-filter-keys (same q) (λ p. is_some (at m p)) (is_some (at m q)) (λ k h. ap (λ z. is_some (at m z)) (sym (same_is q k h))) ws)
    ∙ both_some (at m q) (lookup (same q) ws)
    ∙ sym (ap is_some (at_kept ws m q))
    ∙ is_some-lookup (same q) (kept ws m)) in
    sym (length-keys_of (filter (λ w. is_some (at m w.0)) ws)) ∙ e ∙ length-keys_of (kept ws m)

-- what is wanted is what was told without what goes, and what is new
pub counted_wanted : (again : Place → Bool) (ws : Wanted) (m : ToldMap) → Ascends ws → Ascends m → length ws + length (gone ws m) ≡ length m + count_new m (fresh again ws (kept ws m))
counted_wanted again ws m s t =
    let a = length-filter_both (λ w. is_some (at m w.0)) (λ w. not (is_some (at m w.0))) (λ w. refl) ws in
    let b = kept_count ws m s t in
    let c = length-filter_both (λ e. is_in ws e.0) (λ e. not (is_in ws e.0)) (λ e. refl) m in
    let d : length (gone ws m) ≡ length (filter (λ e. not (is_in ws e.0)) m) = ap length (sym (keys_filter (λ p. not (is_in ws p)) m)) ∙ length-keys_of (filter (λ e. not (is_in ws e.0)) m) in
    let e : count_new m (fresh again ws (kept ws m)) ≡ length (filter (λ w. not (is_some (at m w.0))) ws) = ap length (new_fresh again (kept ws m) m ws absent) in
    omega (arith, a, b, c, d, e)
  where
    absent : (p : Place) → at m p ≡ None → at (kept ws m) p ≡ None
    absent p h = at_kept ws m p ∙ ap (λ z. cond (is_in ws p) z None) h ∙ nothing (is_in ws p)
      where
        none : Option Entry
        none = None

        nothing : (b : Bool) → cond b none none ≡ none
        nothing true = refl
        nothing false = refl
