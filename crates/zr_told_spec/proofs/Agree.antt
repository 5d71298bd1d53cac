-- Of what a client was told, by place, is what the messages of its link leave, by number.
use Rattle.std.proofs.Common.{◌≡◌, ℕ, ◌==◌, ◌&&◌, ◌||◌, not, Bool, true, false, cond, List, [], ◌∷◌, filter, refl, sym, ap, ◌∙◌, arith}
use Rattle.std.specs.declared.option.Option.{Option}
use Rattle.std.specs.declared.option.Option.TheVariants.{None, Some}
use Rattle.std.specs.List.{list_any, fold, AllByRecursion}
use Rattle.std.specs.Option.{option_map_or}
use Rattle.std.specs.Map.{keys_of}
use Rattle.std.specs.BTreeMap.{insert_entry}
use Rattle.std.proofs.lemmas.Bool.{eqb-true, eq-eqb, ne_eqb, false_from_ne_true, true_from_ne_false, false≢true, true≢false, or_right}
use Rattle.std.proofs.lemmas.List.Sums.{fold-append}
use Rattle.std.proofs.lemmas.Option.{same_Some, some_pair_parts, none-some}
use Rattle.std.proofs.lemmas.Map.Entries.{lookup-filter-keys}
use Rattle.zr_told_spec.specs.Ids.{IsLeast}
use Rattle.zr_told_spec.specs.Place.{place_cmp, same}
use Rattle.zr_told_spec.specs.Wanted.{Wanted}
use Rattle.zr_told_spec.specs.Told.{ToldMap, at, is_used, free_id, id_at, id_for, declares, undeclares, undeclared, declared, entered, is_in, kept, gone, fresh, retell, retold, Heard, with_number, without_number, hear}
use Rattle.zr_told_spec.specs.declared.entry.Entry.{Entry}
use Rattle.zr_told_spec.specs.declared.place.Class.{Class}
use Rattle.zr_told_spec.specs.declared.place.Class.TheVariants.{Subscriber, Queryable, Living}
use Rattle.zr_told_spec.specs.declared.place.Place.{Place}
use Rattle.zr_told_spec.specs.Laws.{Agrees}
use Rattle.zr_told_spec.proofs.Places.{same_is, same_at, at_put}
use Rattle.zr_told_spec.proofs.Free.{free_is_least_id}

-- ---- what the messages say

un_hears : (t : Heard) (id : ℕ) (c : Class) → hear t (undeclares id c) ≡ without_number t id
un_hears t id Subscriber = refl
un_hears t id Queryable = refl
un_hears t id Living = refl

-- a message says of a place all that is to be told: of subscribers and tokens there is no completeness to tell
abbrev pub Says : Place × Bool → Type 0
Says w = (t : Heard) (id : ℕ) (interest : Option ℕ) → hear t (declares id w.0.class w.0.key w.1 interest) ≡ with_number t id w.0 w.1

-- an id that is found is in use
pub found_used : (m : ToldMap) (p : Place) (v : Entry) → at m p ≡ Some v → is_used m v.id ≡ true
found_used [] p v h = absurd (none-some v h)
found_used (e ∷ es) p v h = by (same p e.0) (found_used es p v) h
  where
    by : (s : Bool) → (at es p ≡ Some v → is_used es v.id ≡ true) → cond s (Some e.1) (at es p) ≡ Some v → (e.1.id == v.id || is_used es v.id) ≡ true
    by true ih q = let f : (e.1.id == v.id) ≡ true = eq-eqb e.1.id v.id (ap (λ z. z.id) (same_Some e.1 v q)) in rw f refl
    by false ih q = or_right (e.1.id == v.id) _ (ih q)

-- ---- undeclarations

-- one of these places has this id
abbrev pub is_of : ToldMap → ℕ → List Place → Bool
is_of m n ps = list_any (λ p. id_at m p == n) ps

pub after_untold : (m : ToldMap) (ps : List Place) (t : Heard) (n : ℕ) → fold hear t (undeclared m ps) n ≡ cond (is_of m n ps) None (t n)
after_untold m [] t n = refl
after_untold m (p ∷ ps) t n =
    after_untold m ps (hear t (undeclares (id_at m p) p.class)) n
    ∙ ap (λ (z : Heard). cond (is_of m n ps) None (z n)) (un_hears t (id_at m p) p.class)
    ∙ by (id_at m p == n) (is_of m n ps)
  where
    by : (a b : Bool) → cond b None (cond a None (t n)) ≡ cond (a || b) None (t n)
    by true true = refl
    by true false = refl
    by false b = refl

-- an id of a place is that of the entry there
pub id_of : (m : ToldMap) (p : Place) (n : ℕ) → (n == 0) ≡ false → id_at m p ≡ n → (v : Entry) × (at m p ≡ Some v) × (v.id ≡ n)
id_of m p n z h = by (at m p) refl h
  where
    by : (o : Option Entry) → at m p ≡ o → option_map_or (λ t. t.id) o 0 ≡ n → (v : Entry) × (at m p ≡ Some v) × (v.id ≡ n)
    by None q k = let f : (n == 0) ≡ true = eq-eqb n 0 (sym k) in let no : false ≡ true = sym z ∙ f in cc
    by (Some v) q k = (v, q, k)

-- of a place that is kept nothing changes, and another one is gone
pub at_kept : (ws : Wanted) (m : ToldMap) (p : Place) → at (kept ws m) p ≡ cond (is_in ws p) (at m p) None
at_kept ws m p = lookup-filter-keys (same p) (is_in ws) (is_in ws p) (λ k h. ap (λ z. is_in ws z) (sym (same_is p k h))) m

abbrev lost : Wanted → List Place → List Place
lost ws ps = filter (λ p. not (is_in ws p)) ps

-- the place of an id that goes is wanted no more
lost_place : (ws : Wanted) (m : ToldMap) (n : ℕ) (ps : List Place) → is_of m n (lost ws ps) ≡ true → (p : Place) × (is_in ws p ≡ false) × (id_at m p ≡ n)
lost_place ws m n [] h = absurd (false≢true h)
lost_place ws m n (p ∷ ps) h = by (is_in ws p) refl (lost_place ws m n ps) h
  where
    by : (s : Bool) → is_in ws p ≡ s → (is_of m n (lost ws ps) ≡ true → (q : Place) × (is_in ws q ≡ false) × (id_at m q ≡ n)) →
        is_of m n (cond (not s) (p ∷ lost ws ps) (lost ws ps)) ≡ true → (q : Place) × (is_in ws q ≡ false) × (id_at m q ≡ n)
    by true e ih k = ih k
    by false e ih k = here (id_at m p == n) refl k
      where
        here : (a : Bool) → (id_at m p == n) ≡ a → (a || is_of m n (lost ws ps)) ≡ true → (q : Place) × (is_in ws q ≡ false) × (id_at m q ≡ n)
        here true f l = (p, e, eqb-true (id_at m p) n f)
        here false f l = ih l

-- a place that is told and wanted no more is among those that go
lost_has : (ws : Wanted) (m : ToldMap) (p : Place) (u : Entry) (es : ToldMap) → at es p ≡ Some u → is_in ws p ≡ false → is_of m (id_at m p) (lost ws (keys_of es)) ≡ true
lost_has ws m p u [] h k = absurd (none-some u h)
lost_has ws m p u (e ∷ es) h k = by (same p e.0) refl (λ q. lost_has ws m p u es q k) h
  where
    skip : (s a : Bool) → is_of m (id_at m p) (lost ws (keys_of es)) ≡ true → is_of m (id_at m p) (cond s (e.0 ∷ lost ws (keys_of es)) (lost ws (keys_of es))) ≡ true
    skip true a l = or_right (id_at m e.0 == id_at m p) _ l
    skip false a l = l

    by : (s : Bool) → same p e.0 ≡ s → (at es p ≡ Some u → is_of m (id_at m p) (lost ws (keys_of es)) ≡ true) → cond s (Some e.1) (at es p) ≡ Some u → is_of m (id_at m p) (cond (not (is_in ws e.0)) (e.0 ∷ lost ws (keys_of es)) (lost ws (keys_of es))) ≡ true
    by true f ih q =
        let g : p ≡ e.0 = same_is p e.0 f in
        let a : not (is_in ws e.0) ≡ true = ap (λ z. not (is_in ws z)) (sym g) ∙ ap not k in
        let b : (id_at m e.0 == id_at m p) ≡ true = eq-eqb (id_at m e.0) (id_at m p) (ap (λ z. id_at m z) (sym g)) in
        rw (a, b) refl
    by false f ih q = skip (not (is_in ws e.0)) true (ih q)

none_or : (b : Bool) (x : Option (Place × Bool)) (y : Place × Bool) → cond b None x ≡ Some y → (b ≡ false) × (x ≡ Some y)
none_or true x y h = absurd (none-some y h)
none_or false x y h = (refl, h)

-- whatever has a number in t has one above 0
positive : (m : ToldMap) (t : Heard) → Agrees m t → (n : ℕ) (y : Place × Bool) → t n ≡ Some y → (n == 0) ≡ false
positive m t a n y h = false_from_ne_true _ (λ z. none-some y (sym a.zero_free ∙ ap t (sym (eqb-true n 0 z)) ∙ h))

pub kept_keeps : (ws : Wanted) (m : ToldMap) (t : Heard) → Agrees m t → Agrees (kept ws m) (fold hear t (undeclared m (gone ws m)))
kept_keeps ws m t a = record {
  to = λ p v h. by_to p v (is_in ws p) refl (sym (at_kept ws m p) ∙ h);
  from = λ n p b h. by_from n p b (none_or _ _ _ (sym (after_untold m (gone ws m) t n) ∙ h));
  zero_free = after_untold m (gone ws m) t 0 ∙ ap (λ z. cond (is_of m 0 (gone ws m)) None z) a.zero_free ∙ none_both (is_of m 0 (gone ws m));
}
  where
    nothing : Option (Place × Bool)
    nothing = None

    none_both : (b : Bool) → cond b nothing nothing ≡ nothing
    none_both true = refl
    none_both false = refl

    by_to : (p : Place) (v : Entry) (s : Bool) → is_in ws p ≡ s → cond s (at m p) None ≡ Some v → fold hear t (undeclared m (gone ws m)) v.id ≡ Some (p, v.complete)
    by_to p v true e h =
        let was : t v.id ≡ Some (p, v.complete) = a.to p v h in
        let stays : is_of m v.id (gone ws m) ≡ false = false_from_ne_true _ (λ l.
        let q = lost_place ws m v.id (keys_of m) l in
        let w = id_of m q.0 v.id (positive m t a v.id (p, v.complete) was) q.2 in
        let other : t v.id ≡ Some (q.0, w.0.complete) = ap t (sym w.2) ∙ a.to q.0 w.0 w.1 in
        let one : p ≡ q.0 = (some_pair_parts p q.0 v.complete w.0.complete (sym was ∙ other)).0 in
        let no : true ≡ false = sym e ∙ ap (λ z. is_in ws z) one ∙ q.1 in
        true≢false no) in
        after_untold m (gone ws m) t v.id ∙ ap (λ z. cond z None (t v.id)) stays ∙ was
    by_to p v false e h = absurd (none-some v h)

    by_from : (n : ℕ) (p : Place) (b : Bool) → (is_of m n (gone ws m) ≡ false) × (t n ≡ Some (p, b)) → at (kept ws m) p ≡ Some (record { id = n; complete = b })
    by_from n p b h =
        let was : at m p ≡ Some (record { id = n; complete = b }) = a.from n p b h.1 in
        let stays : is_in ws p ≡ true = true_from_ne_false _ (λ f.
        let l = lost_has ws m p (record { id = n; complete = b }) m was f in
        let i : id_at m p ≡ n = ap (λ o. option_map_or (λ t. t.id) o 0) was in
        let no : true ≡ false = sym l ∙ ap (λ z. is_of m z (gone ws m)) i ∙ h.0 in
        true≢false no) in
        at_kept ws m p ∙ ap (λ z. cond z (at m p) None) stays ∙ was

-- ---- declarations

-- an entry is put at a number that is free, or is that of the entry which was there
put_keeps : (m : ToldMap) (t : Heard) (p : Place) (n : ℕ) (b : Bool) → Agrees m t → (n == 0) ≡ false →
    ((q : Place) (c : Bool) → t n ≡ Some (q, c) → q ≡ p) → ((v : Entry) → at m p ≡ Some v → v.id ≡ n) →
    Agrees (insert_entry place_cmp m p (record { id = n; complete = b })) (with_number t n p b)
put_keeps m t p n b a z one own = record {
  to = λ q v h. by_to q v (same q p) refl (sym (at_put m p (record { id = n; complete = b }) q) ∙ h);
  from = λ k q c h. by_from k q c (n == k) refl (n == 0) z h;
  zero_free = ap (λ s. cond (s && not s) (Some (p, b)) (t 0)) z ∙ a.zero_free;
}
  where
    by_to : (q : Place) (v : Entry) (s : Bool) → same q p ≡ s → cond s (Some (record { id = n; complete = b })) (at m q) ≡ Some v →
        cond (n == v.id && not (n == 0)) (Some (p, b)) (t v.id) ≡ Some (q, v.complete)
    by_to q v true e h =
        let f : record { id = n; complete = b } ≡ v = same_Some _ v h in
        let g : (n == v.id) ≡ true = eq-eqb n v.id (ap (λ w. w.id) f) in
        rw (g, z) (λ i. Some (sym (same_is q p e) i, (f i).complete))
    by_to q v false e h =
        let was : t v.id ≡ Some (q, v.complete) = a.to q v h in
        let g : (n == v.id) ≡ false = false_from_ne_true _ (λ s.
        let k : q ≡ p = one q v.complete (ap t (eqb-true n v.id s) ∙ was) in
        let no : true ≡ false = sym (same_at q p k) ∙ e in true≢false no) in
        rw g was

    by_from : (k : ℕ) (q : Place) (c : Bool) (s : Bool) → (n == k) ≡ s → (y : Bool) → y ≡ false → cond (s && not y) (Some (p, b)) (t k) ≡ Some (q, c) →
        at (insert_entry place_cmp m p (record { id = n; complete = b })) q ≡ Some (record { id = k; complete = c })
    by_from k q c true e true y h = absurd (true≢false y)
    by_from k q c true e false y h =
        let f = some_pair_parts p q b c h in
        at_put m p (record { id = n; complete = b }) q ∙ ap (λ s. cond s (Some (record { id = n; complete = b })) (at m q)) (same_at q p (sym f.0))
        ∙ (λ i. Some (record { id = eqb-true n k e i; complete = f.1 i }))
    by_from k q c false e y u h =
        let was : at m q ≡ Some (record { id = k; complete = c }) = a.from k q c h in
        let f : same q p ≡ false = false_from_ne_true _ (λ s.
        let g : k ≡ n = own (record { id = k; complete = c }) (ap (λ w. at m w) (sym (same_is q p s)) ∙ was) in
        let no : true ≡ false = sym (eq-eqb n k (sym g)) ∙ e in true≢false no) in
        at_put m p (record { id = n; complete = b }) q ∙ ap (λ s. cond s (Some (record { id = n; complete = b })) (at m q)) f ∙ was

pub enter_keeps : (m : ToldMap) (t : Heard) (w : Place × Bool) → Agrees m t → Agrees (entered m w) (with_number t (id_for m w.0) w.0 w.1)
enter_keeps m t w a = by (at m w.0) refl
  where
    by : (o : Option Entry) → at m w.0 ≡ o →
        Agrees (insert_entry place_cmp m w.0 (record { id = option_map_or (λ v. v.id) o (free_id m); complete = w.1 })) (with_number t (option_map_or (λ v. v.id) o (free_id m)) w.0 w.1)
    by None e =
        let n = free_id m in
        let least : IsLeast (is_used m) n = free_is_least_id m in
        put_keeps m t w.0 n w.1 a
        (let le = least.positive in ne_eqb n 0 (λ z. absurd (omega arith)))
        (λ q c h. absurd (true≢false (sym (found_used m q (record { id = n; complete = c }) (a.from n q c h)) ∙ least.free)))
        (λ v h. absurd (none-some v (sym e ∙ h)))
    by (Some v) e =
        let was : t v.id ≡ Some (w.0, v.complete) = a.to w.0 v e in
        put_keeps m t w.0 v.id w.1 a
        (positive m t a v.id (w.0, v.complete) was)
        (λ q c h. (some_pair_parts q w.0 c v.complete (sym h ∙ was)).0)
        (λ u h. ap (λ z. z.id) (same_Some u v (sym h ∙ e)))

pub tells_keep : (interest : Option ℕ) (m : ToldMap) (t : Heard) (ws : Wanted) → AllByRecursion Says ws → Agrees m t → Agrees (fold entered m ws) (fold hear t (declared interest m ws))
tells_keep interest m t [] s a = a
tells_keep interest m t (w ∷ ws) s a =
    let e : hear t (declares (id_for m w.0) w.0.class w.0.key w.1 interest) ≡ with_number t (id_for m w.0) w.0 w.1 = s.0 t (id_for m w.0) interest in
    tells_keep interest (entered m w) _ ws s.1 (rw e (enter_keeps m t w a))

pub filter_says : (f : Place × Bool → Bool) (ws : Wanted) → AllByRecursion Says ws → AllByRecursion Says (filter f ws)
filter_says f [] s = s
filter_says f (w ∷ ws) s = by (f w) (filter_says f ws s.1)
  where
    by : (b : Bool) → AllByRecursion Says (filter f ws) → AllByRecursion Says (cond b (w ∷ filter f ws) (filter f ws))
    by true ih = (s.0, ih)
    by false ih = ih

pub retell_keeps : (again : Place → Bool) (interest : Option ℕ) (ws : Wanted) (m : ToldMap) (t : Heard) → AllByRecursion Says ws → Agrees m t → Agrees (retold again ws m) (fold hear t (retell again interest ws m))
retell_keeps again interest ws m t s a =
    let k = kept_keeps ws m t a in
    let r = tells_keep interest (kept ws m) (fold hear t (undeclared m (gone ws m))) (fresh again ws (kept ws m)) (filter_says _ ws s) k in
    rw (fold-append hear t (undeclared m (gone ws m)) (declared interest (kept ws m) (fresh again ws (kept ws m)))) r
