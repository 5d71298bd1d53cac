-- What is wanted, and that it is what is told.
use Rattle.std.proofs.Common.{Less, Equal, Greater, ◌≡◌, ℕ, ◌&&◌, ◌||◌, not, Bool, true, false, cond, List, [], ◌∷◌, map, filter, refl, sym, ap, ◌∙◌}
use Rattle.std.specs.declared.cmp.Ordering.{Ordering}
use Rattle.std.specs.Ordering.{is_eq, match_ordering}
use Rattle.std.specs.declared.option.Option.{Option}
use Rattle.std.specs.declared.option.Option.TheVariants.{None, Some}
use Rattle.std.specs.List.{list_any, fold, flat_map, AllByRecursion}
use Rattle.std.specs.Option.{option_map, option_map_or, is_some}
use Rattle.std.specs.Map.{lookup, keys_of}
use Rattle.std.specs.BTreeMap.{insert_entry}
use Rattle.std.proofs.lemmas.Bool.{false≢true}
use Rattle.std.proofs.lemmas.Option.{none-some, same_Some}
use Rattle.std.proofs.lemmas.List.Folds.{list_any-append}
use Rattle.std.proofs.lemmas.Map.Entries.{lookup-filter-keys}
use Rattle.zr_msg.specs.declared.decl.Kind.{Kind}
use Rattle.zr_msg.specs.declared.decl.Kind.TheVariants.{Sub, Able, Full, Token}
use Rattle.zr_node_spec.specs.Queries.{is_complete}
use Rattle.zr_told_spec.specs.Place.{place_cmp, same, place_of, class_of}
use Rattle.zr_told_spec.specs.Wanted.{fits, told_as, asked, wants, is_complete_at, want, Wanted, places_of, put_wanted, wanted}
use Rattle.zr_told_spec.specs.Told.{ToldMap, at, id_at, id_for, free_id, entered, is_in, kept, gone, bool_same, is_told, fresh, retell, retold, with_number, hear, declares}
use Rattle.zr_told_spec.specs.declared.entry.Entry.{Entry}
use Rattle.zr_local.specs.declared.interest.Interest.{Interest}
use Rattle.zr_told_spec.specs.declared.place.Class.{Class}
use Rattle.zr_told_spec.specs.declared.place.Class.TheVariants.{Subscriber, Queryable, Living}
use Rattle.zr_told_spec.specs.declared.place.Place.{Place}
use Rattle.zr_msg.specs.declared.decl.Decl.{Decl}
use Rattle.zr_told_spec.proofs.Places.{same_is, same_refl, at_put}
use Rattle.zr_told_spec.proofs.Agree.{Says, at_kept}

-- the completeness of each entry is that of its place
abbrev pub IsBy : (Place → Bool) → Wanted → Type 0
IsBy c ws = AllByRecursion (λ w. w.1 ≡ c w.0) ws

-- ---- the list of what is wanted

put_at : (ds : List Decl) (ps : List Place) (w : Wanted) (p : Place) →
    lookup (same p) (fold (put_wanted ds) w ps) ≡ cond (list_any (same p) ps) (Some (is_complete_at ds p)) (lookup (same p) w)
put_at ds [] w p = refl
put_at ds (q ∷ qs) w p =
    put_at ds qs (put_wanted ds w q) p
    ∙ ap (λ z. cond (list_any (same p) qs) (Some (is_complete_at ds p)) z) (at_put w q (is_complete_at ds q) p)
    ∙ by (same p q) refl (list_any (same p) qs)
  where
    by : (s : Bool) → same p q ≡ s → (a : Bool) →
        cond a (Some (is_complete_at ds p)) (cond s (Some (is_complete_at ds q)) (lookup (same p) w)) ≡ cond (s || a) (Some (is_complete_at ds p)) (lookup (same p) w)
    by true e true = refl
    by true e false = ap (λ z. Some (is_complete_at ds z)) (sym (same_is p q e))
    by false e true = refl
    by false e false = refl

listed_any : (ds : List Decl) (i : Interest) (es : List Decl) (p : Place) →
    list_any (same p) (map (λ d. told_as i (place_of d)) (filter (λ d. fits i (place_of d)) es)) ≡ list_any (λ d. fits i (place_of d) && same p (told_as i (place_of d))) es
listed_any ds i [] p = refl
listed_any ds i (d ∷ es) p = by (fits i (place_of d)) (listed_any ds i es p)
  where
    by : (s : Bool) → list_any (same p) (map (λ d. told_as i (place_of d)) (filter (λ d. fits i (place_of d)) es)) ≡ list_any (λ d. fits i (place_of d) && same p (told_as i (place_of d))) es →
        list_any (same p) (map (λ d. told_as i (place_of d)) (cond s (d ∷ filter (λ d. fits i (place_of d)) es) (filter (λ d. fits i (place_of d)) es))) ≡ (s && same p (told_as i (place_of d)) || list_any (λ d. fits i (place_of d) && same p (told_as i (place_of d))) es)
    by true ih = ap (λ z. same p (told_as i (place_of d)) || z) ih
    by false ih = ih

all_listed_any : (ds : List Decl) (is : List Interest) (p : Place) → list_any (same p) (flat_map (λ i. places_of ds i) is) ≡ wants ds is p
all_listed_any ds [] p = refl
all_listed_any ds (i ∷ is) p =
    list_any-append (same p) (places_of ds i) (flat_map (λ j. places_of ds j) is)
    ∙ ap (λ z. z || list_any (same p) (flat_map (λ j. places_of ds j) is)) (listed_any ds i ds p)
    ∙ ap (λ z. asked ds i p || z) (all_listed_any ds is p)

pub wanted_at : (ds : List Decl) (is : List Interest) (p : Place) → lookup (same p) (wanted ds is) ≡ want ds is p
wanted_at ds is p =
    put_at ds (flat_map (λ i. places_of ds i) is) [] p
    ∙ ap (λ z. cond z (Some (is_complete_at ds p)) None) (all_listed_any ds is p)

put_by : (c : Place → Bool) (es : Wanted) (k : Place) (v : Bool) → v ≡ c k → IsBy c es → IsBy c (insert_entry place_cmp es k v)
put_by c [] k v e b = (e, tt)
put_by c (w ∷ ws) k v e b = by (place_cmp k w.0) refl (put_by c ws k v e b.1)
  where
    by : (o : Ordering) → place_cmp k w.0 ≡ o → IsBy c (insert_entry place_cmp ws k v) → IsBy c (match_ordering o ((k, v) ∷ w ∷ ws) ((w.0, v) ∷ ws) (w ∷ insert_entry place_cmp ws k v))
    by Less q ih = (e, b)
    by Equal q ih = (e ∙ ap c (same_is k w.0 (ap is_eq q)), b.1)
    by Greater q ih = (b.0, ih)

all_by : (ds : List Decl) (ps : List Place) (w : Wanted) → IsBy (is_complete_at ds) w → IsBy (is_complete_at ds) (fold (put_wanted ds) w ps)
all_by ds [] w b = b
all_by ds (p ∷ ps) w b = all_by ds ps (put_wanted ds w p) (put_by (is_complete_at ds) w p (is_complete_at ds p) refl b)

pub wanted_by : (ds : List Decl) (is : List Interest) → IsBy (is_complete_at ds) (wanted ds is)
wanted_by ds is = all_by ds (flat_map (λ i. places_of ds i) is) [] tt

pub wanted_in : (ds : List Decl) (is : List Interest) (p : Place) → is_in (wanted ds is) p ≡ wants ds is p
wanted_in ds is p = ap is_some (wanted_at ds is p) ∙ by (wants ds is p)
  where
    by : (s : Bool) → is_some (cond s (Some (is_complete_at ds p)) None) ≡ s
    by true = refl
    by false = refl

-- nothing but a queryable is complete
no_complete : (ds : List Decl) (p : Place) → ((p.class ≡ Queryable) → ⊥) → is_complete_at ds p ≡ false
no_complete [] p other = refl
no_complete (d ∷ ds) p other = by (same p (place_of d)) refl d.kind refl (no_complete ds p other)
  where
    by : (s : Bool) → same p (place_of d) ≡ s → (k : Kind) → d.kind ≡ k → is_complete_at ds p ≡ false → (s && is_complete k || is_complete_at ds p) ≡ false
    by false e k f ih = ih
    by true e Sub f ih = ih
    by true e Able f ih = ih
    by true e Token f ih = ih
    by true e Full f ih = absurd (other (ap (λ z. z.class) (same_is p (place_of d) e) ∙ ap class_of f))

says : (ds : List Decl) (w : Place × Bool) → w.1 ≡ is_complete_at ds w.0 → Says w
says ds w b t id interest = by w.0.class refl
  where
    not_complete : {c : Class} → w.0.class ≡ c → ((c ≡ Queryable) → ⊥) → false ≡ w.1
    not_complete e other = sym (b ∙ no_complete ds w.0 (λ q. other (sym e ∙ q)))

    by : (c : Class) → w.0.class ≡ c → hear t (declares id c w.0.key w.1 interest) ≡ with_number t id w.0 w.1
    by Subscriber e = λ i. with_number t id (record { class = sym e i; key = w.0.key }) (not_complete e (λ q. cc) i)
    by Living e = λ i. with_number t id (record { class = sym e i; key = w.0.key }) (not_complete e (λ q. cc) i)
    by Queryable e = λ i. with_number t id (record { class = sym e i; key = w.0.key }) w.1

all_say : (ds : List Decl) (ws : Wanted) → IsBy (is_complete_at ds) ws → AllByRecursion Says ws
all_say ds [] b = tt
all_say ds (w ∷ ws) b = (says ds w b.0, all_say ds ws b.1)

pub wanted_says : (ds : List Decl) (is : List Interest) → AllByRecursion Says (wanted ds is)
wanted_says ds is = all_say ds (wanted ds is) (wanted_by ds is)

-- ---- what was told again is what is wanted

abbrev pub marks : ToldMap → Place → Option Bool
marks m p = option_map (λ v. v.complete) (at m p)

abbrev pub IsMarked : ToldMap → (Place → Option Bool) → Type 0
IsMarked m w = (p : Place) → marks m p ≡ w p

in_cons : (w : Place × Bool) (ws : Wanted) (p : Place) → is_in (w ∷ ws) p ≡ (same p w.0 || is_in ws p)
in_cons w ws p = by (same p w.0)
  where
    by : (s : Bool) → is_some (cond s (Some w.1) (lookup (same p) ws)) ≡ (s || is_in ws p)
    by true = refl
    by false = refl

entered_at : (c : Place → Bool) (ws : List (Place × Bool)) (m : ToldMap) (p : Place) → IsBy c ws → marks (fold entered m ws) p ≡ cond (is_in ws p) (Some (c p)) (marks m p)
entered_at c [] m p b = refl
entered_at c (w ∷ ws) m p b =
    entered_at c ws (entered m w) p b.1
    ∙ ap (λ z. cond (is_in ws p) (Some (c p)) (option_map (λ v. v.complete) z)) (at_put m w.0 (record { id = id_for m w.0; complete = w.1 }) p)
    ∙ by (same p w.0) refl (is_in ws p)
    ∙ ap (λ z. cond z (Some (c p)) (marks m p)) (sym (in_cons w ws p))
  where
    by : (s : Bool) → same p w.0 ≡ s → (a : Bool) →
        cond a (Some (c p)) (option_map (λ v. v.complete) (cond s (Some (record { id = id_for m w.0; complete = w.1 })) (at m p))) ≡ cond (s || a) (Some (c p)) (marks m p)
    by true e true = refl
    by true e false = ap Some (b.0 ∙ ap c (sym (same_is p w.0 e)))
    by false e true = refl
    by false e false = refl

abbrev pub fresh_by : (Place → Bool) → (Place → Bool) → ToldMap → Place → Bool
fresh_by again c m p = again p || not (is_told m (p, c p))

pub fresh_is : (again c : Place → Bool) (m : ToldMap) (ws : Wanted) → IsBy c ws → fresh again ws m ≡ filter (λ w. fresh_by again c m w.0) ws
fresh_is again c m [] b = refl
fresh_is again c m (w ∷ ws) b =
    ap (λ z. cond (again w.0 || not (is_told m (w.0, z))) (w ∷ fresh again ws m) (fresh again ws m)) b.0
    ∙ ap (λ z. cond (fresh_by again c m w.0) (w ∷ z) z) (fresh_is again c m ws b.1)

by_filter : (c : Place → Bool) (f : Place × Bool → Bool) (ws : Wanted) → IsBy c ws → IsBy c (filter f ws)
by_filter c f [] b = b
by_filter c f (w ∷ ws) b = by (f w) (by_filter c f ws b.1)
  where
    by : (s : Bool) → IsBy c (filter f ws) → IsBy c (cond s (w ∷ filter f ws) (filter f ws))
    by true ih = (b.0, ih)
    by false ih = ih

fresh_at : (again c : Place → Bool) (m : ToldMap) (ws : Wanted) (p : Place) → IsBy c ws → is_in (fresh again ws m) p ≡ (fresh_by again c m p && is_in ws p)
fresh_at again c m ws p b =
    ap (λ z. is_in z p) (fresh_is again c m ws b)
    ∙ ap is_some (lookup-filter-keys (same p) (fresh_by again c m) (fresh_by again c m p) (λ k h. ap (λ z. fresh_by again c m z) (sym (same_is p k h))) ws)
    ∙ by (fresh_by again c m p)
  where
    by : (s : Bool) → is_some (cond s (lookup (same p) ws) None) ≡ (s && is_in ws p)
    by true = refl
    by false = refl

same_bits : (a b : Bool) → bool_same a b ≡ true → a ≡ b
same_bits true true h = refl
same_bits true false h = sym h
same_bits false true h = h
same_bits false false h = refl

told_marks : (m : ToldMap) (p : Place) (b : Bool) → is_told m (p, b) ≡ true → marks m p ≡ Some b
told_marks m p b h = by (at m p) h
  where
    by : (o : Option Entry) → option_map_or (λ t. bool_same t.complete b) o false ≡ true → option_map (λ v. v.complete) o ≡ Some b
    by None h = absurd (false≢true h)
    by (Some v) h = ap Some (same_bits v.complete b h)

pub retold_at : (again c : Place → Bool) (ws : Wanted) (m : ToldMap) → IsBy c ws → (p : Place) → marks (retold again ws m) p ≡ cond (is_in ws p) (Some (c p)) None
retold_at again c ws m b p =
    entered_at c (fresh again ws (kept ws m)) (kept ws m) p (by_filter c _ ws b)
    ∙ ap (λ z. cond z (Some (c p)) (marks (kept ws m) p)) (fresh_at again c (kept ws m) ws p b)
    ∙ by (is_in ws p) (ap (λ z. option_map (λ v. v.complete) z) (at_kept ws m p)) (again p) (is_told (kept ws m) (p, c p)) refl
  where
    by : (s : Bool) → marks (kept ws m) p ≡ option_map (λ v. v.complete) (cond s (at m p) None) → (a t : Bool) → is_told (kept ws m) (p, c p) ≡ t →
        cond ((a || not t) && s) (Some (c p)) (marks (kept ws m) p) ≡ cond s (Some (c p)) None
    by true e true t f = refl
    by true e false true f = told_marks (kept ws m) p (c p) f
    by true e false false f = refl
    by false e true t f = e
    by false e false true f = e
    by false e false false f = e

-- ---- ids stay

id_entered : (ws : List (Place × Bool)) (m : ToldMap) (p : Place) (v : Entry) → at m p ≡ Some v → id_at (fold entered m ws) p ≡ v.id
id_entered [] m p v h = ap (λ o. option_map_or (λ t. t.id) o 0) h
id_entered (w ∷ ws) m p v h = by (same p w.0) refl (at_put m w.0 (record { id = id_for m w.0; complete = w.1 }) p) (λ u k. id_entered ws (entered m w) p u k)
  where
    by : (s : Bool) → same p w.0 ≡ s → at (entered m w) p ≡ cond s (Some (record { id = id_for m w.0; complete = w.1 })) (at m p) →
        ((u : Entry) → at (entered m w) p ≡ Some u → id_at (fold entered (entered m w) ws) p ≡ u.id) → id_at (fold entered (entered m w) ws) p ≡ v.id
    by true e q ih =
        let there : at m w.0 ≡ Some v = ap (λ z. at m z) (sym (same_is p w.0 e)) ∙ h in
        ih (record { id = id_for m w.0; complete = w.1 }) q ∙ ap (λ o. option_map_or (λ t. t.id) o (free_id m)) there
    by false e q ih = ih v (q ∙ h)

pub id_stays : (again : Place → Bool) (ws : Wanted) (m : ToldMap) (p : Place) (v : Entry) → at m p ≡ Some v → is_in ws p ≡ true → id_at (retold again ws m) p ≡ v.id
id_stays again ws m p v h w = id_entered (fresh again ws (kept ws m)) (kept ws m) p v (at_kept ws m p ∙ ap (λ z. cond z (at m p) None) w ∙ h)

-- ---- nothing changed

-- what holds of each place at which something is found holds of each key
pub keys_all : {X : Type 0} (P : Place → Type 0) (es : List (Place × X)) → ((q : Place) → is_some (lookup (same q) es) ≡ true → P q) → AllByRecursion P (keys_of es)
keys_all P [] h = tt
keys_all {X} P (e ∷ es) h = (
  h e.0 (ap (λ z. is_some (cond z (Some e.1) (lookup (same e.0) es))) (same_refl e.0)),
  keys_all P es (λ q k. h q (by (same q e.0) q k)),
)
  where
    by : (s : Bool) (q : Place) → is_some (lookup (same q) es) ≡ true → is_some (cond s (Some e.1) (lookup (same q) es)) ≡ true
    by true q k = refl
    by false q k = k

pub none_left : (f : Place → Bool) (ps : List Place) → AllByRecursion (λ p. f p ≡ false) ps → filter f ps ≡ []
none_left f [] h = refl
none_left f (p ∷ ps) h = rw h.0 (none_left f ps h.1)

no_entry_left : (f : Place → Bool) (ws : Wanted) → AllByRecursion (λ p. f p ≡ false) (keys_of ws) → filter (λ w. f w.0) ws ≡ []
no_entry_left f [] h = refl
no_entry_left f (w ∷ ws) h = rw h.0 (no_entry_left f ws h.1)

pub marks_told : (m : ToldMap) (p : Place) (b : Bool) → marks m p ≡ Some b → is_told m (p, b) ≡ true
marks_told m p b h = by (at m p) h
  where
    bits : (a c : Bool) → a ≡ c → bool_same a c ≡ true
    bits true true e = refl
    bits true false e = sym e
    bits false true e = e
    bits false false e = refl

    by : (o : Option Entry) → option_map (λ v. v.complete) o ≡ Some b → option_map_or (λ t. bool_same t.complete b) o false ≡ true
    by None h = absurd (none-some b h)
    by (Some v) h = bits v.complete b (same_Some v.complete b h)

-- where all that is told is what is wanted, each told place is wanted, and each wanted one told so
pub by_gone : (c : Place → Bool) (ws : Wanted) (m : ToldMap) (q : Place) → marks m q ≡ cond (is_in ws q) (Some (c q)) None → is_some (at m q) ≡ true → is_in ws q ≡ true
by_gone c ws m q w k = by (is_in ws q) refl (at m q) refl k
  where
    by : (s : Bool) → is_in ws q ≡ s → (o : Option Entry) → at m q ≡ o → is_some o ≡ true → s ≡ true
    by true e o f k = refl
    by false e None f k = absurd (false≢true k)
    by false e (Some v) f k = absurd (none-some v.complete (ap (λ z. cond z (Some (c q)) None) (sym e) ∙ sym w ∙ ap (λ z. option_map (λ u. u.complete) z) f))

pub by_fresh : (c : Place → Bool) (ws : Wanted) (m : ToldMap) (q : Place) → marks m q ≡ cond (is_in ws q) (Some (c q)) None → is_in ws q ≡ true → is_told (kept ws m) (q, c q) ≡ true
by_fresh c ws m q w k = marks_told (kept ws m) q (c q)
    (ap (λ z. option_map (λ v. v.complete) z) (at_kept ws m q ∙ ap (λ z. cond z (at m q) None) k) ∙ w ∙ ap (λ z. cond z (Some (c q)) None) k)

pub none_gone : (c : Place → Bool) (ws : Wanted) (m : ToldMap) → IsMarked m (λ p. cond (is_in ws p) (Some (c p)) None) → gone ws m ≡ []
none_gone c ws m w = none_left (λ p. not (is_in ws p)) (keys_of m) (keys_all (λ p. not (is_in ws p) ≡ false) m (λ q k. ap not (by_gone c ws m q (w q) k)))

pub none_fresh : (c : Place → Bool) (ws : Wanted) (m : ToldMap) → IsBy c ws → IsMarked m (λ p. cond (is_in ws p) (Some (c p)) None) → fresh (λ p. false) ws (kept ws m) ≡ []
none_fresh c ws m b w =
    fresh_is (λ p. false) c (kept ws m) ws b
    ∙ no_entry_left (fresh_by (λ p. false) c (kept ws m)) ws (keys_all (λ p. fresh_by (λ q. false) c (kept ws m) p ≡ false) ws (λ q k. ap not (by_fresh c ws m q (w q) k)))

pub quiet : (c : Place → Bool) (interest : Option ℕ) (ws : Wanted) (m : ToldMap) → IsBy c ws →
    IsMarked m (λ p. cond (is_in ws p) (Some (c p)) None) → retell (λ p. false) interest ws m ≡ []
quiet c interest ws m b w = rw (none_gone c ws m w, none_fresh c ws m b w) refl
