-- The order of what is told.
use Rattle.std.proofs.Common.{Less, Equal, Greater, ◌≡◌, ◌≤◌, Bool, true, false, cond, List, [], ◌∷◌, length, filter, refl, sym, ap, ◌∙◌, arith}
use Rattle.std.specs.declared.cmp.Ordering.{Ordering}
use Rattle.std.specs.Ordering.{match_ordering, ordering_reverse}
use Rattle.std.specs.declared.option.Option.{Option}
use Rattle.std.specs.declared.option.Option.TheVariants.{None, Some}
use Rattle.std.specs.List.{fold, flat_map, AllByRecursion}
use Rattle.std.specs.List.Sorted.{IsStrictlySortedBy}
use Rattle.std.specs.Option.{option_map, is_some}
use Rattle.std.specs.Map.{lookup, keys_of}
use Rattle.std.specs.BTreeMap.{insert_entry}
use Rattle.std.proofs.lemmas.Option.{none-some, same_Some}
use Rattle.std.proofs.lemmas.List.Kept.{IsStrictlySortedBy-filter}
use Rattle.std.proofs.lemmas.Map.Keys.{sorted_tail, IsDistinct-from_sorted}
use Rattle.std.proofs.lemmas.Map.Made.{length-le_from_is_member, length-from_same_keys, is_some-lookup}
use Rattle.std.proofs.lemmas.Map.Entries.{length-keys_of, none_past_head, none_below_head, lookup_head, lookup_tail}
use Rattle.std.proofs.lemmas.Map.{lookup-none}
use Rattle.zr_msg.specs.declared.decl.Decl.{Decl}
use Rattle.zr_told_spec.specs.Place.{Ascends, place_cmp, same}
use Rattle.zr_told_spec.specs.Wanted.{is_complete_at, places_of, put_wanted, Wanted, wanted, wants}
use Rattle.zr_told_spec.specs.Rows.{IsAsWanted}
use Rattle.zr_told_spec.specs.Told.{ToldMap, at, is_in, kept, fresh, entered, retold}
use Rattle.zr_told_spec.specs.declared.entry.Entry.{Entry}
use Rattle.zr_local.specs.declared.interest.Interest.{Interest}
use Rattle.zr_told_spec.specs.declared.place.Place.{Place}
use Rattle.zr_told_spec.proofs.Places.{place_order, place_total, same_equiv, same_refl}
use Rattle.zr_told_spec.proofs.Wants.{IsBy, retold_at, wanted_in}

abbrev Above : Place → List Place → Type 0
Above j ks = AllByRecursion (λ y. place_cmp j y ≡ Less) ks

above_put : {X : Type 0} (j : Place) (es : List (Place × X)) (k : Place) (v : X) → place_cmp j k ≡ Less → Above j (keys_of es) → Above j (keys_of (insert_entry place_cmp es k v))
above_put j [] k v l a = (l, tt)
above_put {X} j (e ∷ es) k v l a = by (place_cmp k e.0) (above_put j es k v l a.1)
  where
    by : (o : Ordering) → Above j (keys_of (insert_entry place_cmp es k v)) → Above j (keys_of (match_ordering o ((k, v) ∷ e ∷ es) ((e.0, v) ∷ es) (e ∷ insert_entry place_cmp es k v)))
    by Less ih = (l, a)
    by Equal ih = a
    by Greater ih = (a.0, ih)

above_less : (j k : Place) (ks : List Place) → place_cmp j k ≡ Less → Above k ks → Above j ks
above_less j k [] l a = tt
above_less j k (y ∷ ks) l a = (place_total.trans j k y l a.0, above_less j k ks l a.1)

pub put_ascends : {X : Type 0} (es : List (Place × X)) (k : Place) (v : X) → Ascends es → Ascends (insert_entry place_cmp es k v)
unfolding IsStrictlySortedBy
put_ascends [] k v s = (tt, tt)
put_ascends {X} (e ∷ es) k v s = by (place_cmp k e.0) refl (put_ascends es k v s.1)
  where
    by : (o : Ordering) → place_cmp k e.0 ≡ o → Ascends (insert_entry place_cmp es k v) → Ascends (match_ordering o ((k, v) ∷ e ∷ es) ((e.0, v) ∷ es) (e ∷ insert_entry place_cmp es k v))
    by Less q ih = ((q, above_less k e.0 (keys_of es) q s.0), s)
    by Equal q ih = s
    by Greater q ih = (above_put e.0 es k v (place_total.antisymm e.0 k ∙ ap ordering_reverse q) s.0, ih)

put_all_ascends : (ds : List Decl) (ps : List Place) (w : Wanted) → Ascends w → Ascends (fold (put_wanted ds) w ps)
put_all_ascends ds [] w s = s
put_all_ascends ds (p ∷ ps) w s = put_all_ascends ds ps (put_wanted ds w p) (put_ascends w p (is_complete_at ds p) s)

pub nothing_ascends : (X : Type 0) → Ascends {X = X} []
unfolding IsStrictlySortedBy
nothing_ascends X = tt

pub wanted_ascends : (ds : List Decl) (is : List Interest) → Ascends (wanted ds is)
wanted_ascends ds is = put_all_ascends ds (flat_map (λ i. places_of ds i) is) [] (nothing_ascends Bool)

pub keys_filter : {X : Type 0} (f : Place → Bool) (es : List (Place × X)) → keys_of (filter (λ e. f e.0) es) ≡ filter f (keys_of es)
keys_filter f [] = refl
keys_filter {X} f (e ∷ es) = by (f e.0) (keys_filter f es)
  where
    by : (s : Bool) → keys_of (filter (λ d. f d.0) es) ≡ filter f (keys_of es) → keys_of (cond s (e ∷ filter (λ d. f d.0) es) (filter (λ d. f d.0) es)) ≡ cond s (e.0 ∷ filter f (keys_of es)) (filter f (keys_of es))
    by true ih = ap (λ z. e.0 ∷ z) ih
    by false ih = ih

pub filter_ascends : {X : Type 0} (f : Place → Bool) (es : List (Place × X)) → Ascends es → Ascends (filter (λ e. f e.0) es)
filter_ascends f es s = rw (keys_filter f es) (IsStrictlySortedBy-filter place_cmp f (keys_of es) s)

pub keys_ascend : {X : Type 0} (f : Place × X → Bool) (es : List (Place × X)) → Ascends es → Ascends (filter f es)
unfolding IsStrictlySortedBy
keys_ascend f [] s = s
keys_ascend {X} f (e ∷ es) s = by (f e) (keys_ascend f es s.1)
  where
    fewer : (P : Place → Type 0) (xs : List (Place × X)) → AllByRecursion P (keys_of xs) → AllByRecursion P (keys_of (filter f xs))
    fewer P [] a = a
    fewer P (x ∷ xs) a = on (f x) (fewer P xs a.1)
      where
        on : (b : Bool) → AllByRecursion P (keys_of (filter f xs)) → AllByRecursion P (keys_of (cond b (x ∷ filter f xs) (filter f xs)))
        on true ih = (a.0, ih)
        on false ih = ih

    by : (b : Bool) → Ascends (filter f es) → Ascends (cond b (e ∷ filter f es) (filter f es))
    by true ih = (fewer _ es s.0, ih)
    by false ih = ih

entered_ascends : (ws : List (Place × Bool)) (m : ToldMap) → Ascends m → Ascends (fold entered m ws)
entered_ascends [] m s = s
entered_ascends (w ∷ ws) m s = entered_ascends ws (entered m w) (put_ascends m w.0 _ s)

some_mark : (o : Option Entry) → is_some (option_map (λ v. v.complete) o) ≡ is_some o
some_mark None = refl
some_mark (Some v) = refl

pub as_many : (again c : Place → Bool) (ws : Wanted) (m : ToldMap) → IsBy c ws → Ascends ws → Ascends m → length (retold again ws m) ≡ length ws
as_many again c ws m b s t =
    let r : Ascends (retold again ws m) = entered_ascends (fresh again ws (kept ws m)) (kept ws m) (filter_ascends (is_in ws) m t) in
    let e = length-from_same_keys same_equiv (keys_of (retold again ws m)) (keys_of ws) (IsDistinct-from_sorted place_cmp _ r) (IsDistinct-from_sorted place_cmp _ s)
    (λ q. sym (is_some-lookup (same q) (retold again ws m)) ∙ sym (some_mark (at (retold again ws m) q)) ∙ ap is_some (retold_at again c ws m b q) ∙ by q (is_in ws q) ∙ is_some-lookup (same q) ws) in
    sym (length-keys_of (retold again ws m)) ∙ e ∙ length-keys_of ws
  where
    by : (q : Place) (a : Bool) → is_some (cond a (Some (c q)) None) ≡ a
    by q true = refl
    by q false = refl

-- where a client was told of what is wanted, no more is wanted than it was told of
pub few_wanted : (ds : List Decl) (is : List Interest) (m : ToldMap) → IsAsWanted ds is m → length (wanted ds is) ≤ length m
few_wanted ds is m w =
    let le : length (keys_of (wanted ds is)) ≤ length (keys_of m) =
    length-le_from_is_member same_equiv (keys_of (wanted ds is)) (keys_of m) (IsDistinct-from_sorted place_cmp _ (wanted_ascends ds is))
    (λ q k. sym (is_some-lookup (same q) m) ∙ sym (some_mark (at m q)) ∙ ap is_some (w q) ∙ by q (wants ds is q) ∙ sym (wanted_in ds is q) ∙ is_some-lookup (same q) (wanted ds is) ∙ k) in
    omega (arith, le, length-keys_of (wanted ds is), length-keys_of m)
  where
    by : (q : Place) (a : Bool) → is_some (cond a (Some (is_complete_at ds q)) None) ≡ a
    by q true = refl
    by q false = refl

-- lists that ascend and hold the same are the same
at_head : {X : Type 0} (w : Place × X) (ws : List (Place × X)) → lookup (same w.0) (w ∷ ws) ≡ Some w.1
at_head w ws = lookup_head (same w.0) w ws (same_refl w.0)

past_head : {X : Type 0} (q : Place) (w : Place × X) (ws : List (Place × X)) → Ascends (w ∷ ws) → same q w.0 ≡ true → lookup (same q) ws ≡ None
past_head q w ws s t = lookup-none (same q) ws (none_past_head same_equiv q w ws (IsDistinct-from_sorted place_cmp _ s) t)

heads_same : {X : Type 0} (x y : Place × X) (xs ys : List (Place × X)) → Ascends (x ∷ xs) → Ascends (y ∷ ys) → ((q : Place) → lookup (same q) (x ∷ xs) ≡ lookup (same q) (y ∷ ys)) → x.0 ≡ y.0
heads_same x y xs ys s t h = place_order.exact x.0 y.0 (by (place_cmp x.0 y.0) refl)
  where
    by : (r : Ordering) → place_cmp x.0 y.0 ≡ r → place_cmp x.0 y.0 ≡ Equal
    by Less p = absurd (none-some x.1 (sym (sym (at_head x xs) ∙ h x.0 ∙ lookup-none _ (y ∷ ys) (none_below_head place_total x.0 y ys t p))))
    by Equal p = p
    by Greater p = absurd (none-some y.1 (sym (sym (at_head y ys) ∙ sym (h y.0) ∙ lookup-none _ (x ∷ xs) (none_below_head place_total y.0 x xs s (place_total.antisymm y.0 x.0 ∙ ap ordering_reverse p)))))

pub same_entries : {X : Type 0} (es fs : List (Place × X)) → Ascends es → Ascends fs → ((q : Place) → lookup (same q) es ≡ lookup (same q) fs) → es ≡ fs
same_entries [] [] s t h = refl
same_entries [] (y ∷ ys) s t h = absurd (none-some y.1 (h y.0 ∙ at_head y ys))
same_entries (x ∷ xs) [] s t h = absurd (none-some x.1 (sym (h x.0) ∙ at_head x xs))
same_entries {X} (x ∷ xs) (y ∷ ys) s t h =
    let k : x.0 ≡ y.0 = heads_same x y xs ys s t h in
    let v : x.1 ≡ y.1 = same_Some x.1 y.1 (sym (at_head x xs) ∙ h x.0 ∙ lookup_head (same x.0) y ys (ap (λ z. same x.0 z) (sym k) ∙ same_refl x.0)) in
    let r : xs ≡ ys = same_entries xs ys (sorted_tail place_cmp x.0 (keys_of xs) s) (sorted_tail place_cmp y.0 (keys_of ys) t) (λ q. by q k (same q x.0) refl) in
    λ i. (k i, v i) ∷ r i
  where
    by : (q : Place) → x.0 ≡ y.0 → (b : Bool) → same q x.0 ≡ b → lookup (same q) xs ≡ lookup (same q) ys
    by q k true e = past_head q x xs s e ∙ sym (past_head q y ys t (ap (λ z. same q z) (sym k) ∙ e))
    by q k false e = sym (lookup_tail (same q) x xs e) ∙ h q ∙ lookup_tail (same q) y ys (ap (λ z. same q z) (sym k) ∙ e)
