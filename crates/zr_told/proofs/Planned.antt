-- What is marked is what is to be told.
use Rattle.std.proofs.Common.{◌≡◌, ◌&&◌, ◌||◌, not, Bool, true, false, cond, List, [], ◌∷◌, map, filter, refl, sym, ap, ◌∙◌, subst}
use Rattle.std.specs.declared.option.Option.{Option}
use Rattle.std.specs.declared.option.Option.TheVariants.{None, Some}
use Rattle.std.specs.List.{list_any}
use Rattle.std.specs.List.Sorted.{IsStrictlySortedBy}
use Rattle.std.specs.Option.{option_map, option_map_or, is_some}
use Rattle.std.specs.Map.{lookup, keys_of, remove_entry}
use Rattle.std.proofs.lemmas.Option.{none-some}
use Rattle.std.proofs.lemmas.Map.Keys.{sorted_tail, IsDistinct-from_sorted}
use Rattle.std.proofs.lemmas.Map.Entries.{lookup-filter-keys, none_past_head}
use Rattle.std.proofs.lemmas.Map.{lookup-none}
use Rattle.zr_told_spec.specs.Place.{Ascends, place_cmp, same}
use Rattle.zr_told_spec.specs.Wanted.{Wanted}
use Rattle.zr_told_spec.specs.Told.{ToldMap, at, is_in, kept, gone, is_told, fresh}
use Rattle.zr_told.specs.Plan.{Marks, marked_gone, marked_fresh, AreRight, forgotten}
use Rattle.zr_told.specs.declared.mark.Mark.{Mark}
use Rattle.zr_told_spec.specs.declared.entry.Entry.{Entry}
use Rattle.zr_told_spec.specs.declared.place.Place.{Place}
use Rattle.zr_told_spec.proofs.Places.{same_equiv, same_is, same_refl}
use Rattle.zr_told_spec.proofs.Agree.{at_kept}
use Rattle.zr_told_spec.proofs.Wants.{IsBy, marks, fresh_by, fresh_is, marks_told}
use Rattle.zr_told_spec.proofs.Sorted.{keys_ascend, keys_filter, same_entries}

-- ---- entries picked by place and value

abbrev pick : {X : Type 0} (f : Place × X → Bool) (p : Place) → Option X → Option X
pick f p None = None
pick f p (Some v) = cond (f (p, v)) (Some v) None

past : {X : Type 0} (e : Place × X) (es : List (Place × X)) (p : Place) → Ascends (e ∷ es) → same p e.0 ≡ true → lookup (same p) es ≡ None
past e es p s t = lookup-none (same p) es (none_past_head same_equiv p e es (IsDistinct-from_sorted place_cmp _ s) t)

filter_at : {X : Type 0} (f : Place × X → Bool) (es : List (Place × X)) (p : Place) → Ascends es → lookup (same p) (filter f es) ≡ pick f p (lookup (same p) es)
filter_at f [] p s = refl
filter_at {X} f (e ∷ es) p s = by (same p e.0) refl (f e) refl (filter_at f es p (sorted_tail place_cmp e.0 (keys_of es) s))
  where
    by : (b : Bool) → same p e.0 ≡ b → (g : Bool) → f e ≡ g → lookup (same p) (filter f es) ≡ pick f p (lookup (same p) es) →
        lookup (same p) (cond g (e ∷ filter f es) (filter f es)) ≡ pick f p (cond b (Some e.1) (lookup (same p) es))
    by true t true q ih =
        let i : p ≡ e.0 = same_is p e.0 t in
        let h : f (p, e.1) ≡ true = ap (λ z. f (z, e.1)) i ∙ q in
        ap (λ z. cond z (Some e.1) (lookup (same p) (filter f es))) t ∙ ap (λ z. cond z (Some e.1) None) (sym h)
    by true t false q ih =
        let i : p ≡ e.0 = same_is p e.0 t in
        let h : f (p, e.1) ≡ false = ap (λ z. f (z, e.1)) i ∙ q in
        ih ∙ ap (pick f p) (past e es p s t) ∙ ap (λ z. cond z (Some e.1) None) (sym h)
    by false t true q ih = ap (λ z. cond z (Some e.1) (lookup (same p) (filter f es))) t ∙ ih
    by false t false q ih = ih

change_at : {X Y : Type 0} (g : X → Y) (es : List (Place × X)) (p : Place) → lookup (same p) (map (λ e. (e.0, g e.1)) es) ≡ option_map g (lookup (same p) es)
change_at g [] p = refl
change_at {X} {Y} g (e ∷ es) p = by (same p e.0) (change_at g es p)
  where
    by : (b : Bool) → lookup (same p) (map (λ e. (e.0, g e.1)) es) ≡ option_map g (lookup (same p) es) →
        cond b (Some (g e.1)) (lookup (same p) (map (λ e. (e.0, g e.1)) es)) ≡ option_map g (cond b (Some e.1) (lookup (same p) es))
    by true ih = refl
    by false ih = ih

change_keys : {X Y : Type 0} (g : X → Y) (es : List (Place × X)) → keys_of (map (λ e. (e.0, g e.1)) es) ≡ keys_of es
change_keys g [] = refl
change_keys g (e ∷ es) = ap (λ z. e.0 ∷ z) (change_keys g es)

-- ---- what is to be told

module _ (again c : Place → Bool) (ws : Wanted) (m : ToldMap) (ms : Marks) (b : IsBy c ws) (r : AreRight again c ws m ms) (s : Ascends ws) (t : Ascends m) (u : Ascends ms) where
  abbrev is_fresh : Place × Mark → Bool
  is_fresh e = e.1.wanted && (e.1.again || not (is_told m (e.0, e.1.complete)))

  at_ws : (p : Place) → lookup (same p) ws ≡ cond (is_in ws p) (Some (c p)) None
  at_ws p = at_any ws b
    where
      at_any : (xs : Wanted) → IsBy c xs → lookup (same p) xs ≡ cond (is_some (lookup (same p) xs)) (Some (c p)) None
      at_any [] y = refl
      at_any (x ∷ xs) y = on (same p x.0) refl (at_any xs y.1)
        where
          on : (q : Bool) → same p x.0 ≡ q → lookup (same p) xs ≡ cond (is_some (lookup (same p) xs)) (Some (c p)) None →
              cond q (Some x.1) (lookup (same p) xs) ≡ cond (is_some (cond q (Some x.1) (lookup (same p) xs))) (Some (c p)) None
          on true e ih = ap Some (y.0 ∙ ap c (sym (same_is p x.0 e)))
          on false e ih = ih

  told_kept : (p : Place) (x : Bool) → is_in ws p ≡ true → is_told (kept ws m) (p, x) ≡ is_told m (p, x)
  told_kept p x i = ap (λ z. option_map_or (λ e. Rattle.zr_told_spec.specs.Told.bool_same e.complete x) z false) (at_kept ws m p ∙ ap (λ z. cond z (at m p) None) i)

  fresh_here : (p : Place) (o : Option Mark) → lookup (same p) ms ≡ o → (a : Bool) → is_in ws p ≡ a →
      option_map (λ (v : Mark). v.complete) (pick is_fresh p o) ≡ cond (fresh_by again c (kept ws m) p) (cond a (Some (c p)) None) None
  fresh_here p (Some v) e true i =
      let w : v.wanted ≡ true = r.wanted p v e ∙ i in
      let k : v.complete ≡ c p = r.complete_is p v e w in
      let g : v.again ≡ again p = r.again_is p v e w in
      let h : is_told (kept ws m) (p, c p) ≡ is_told m (p, c p) = told_kept p (c p) i in
      let q : (v.wanted && (v.again || not (is_told m (p, v.complete)))) ≡ (again p || not (is_told (kept ws m) (p, c p))) =
      ap (λ z. z && (v.again || not (is_told m (p, v.complete)))) w
      ∙ ap (λ z. z || not (is_told m (p, v.complete))) g
      ∙ ap (λ z. again p || not (is_told m (p, z))) k
      ∙ ap (λ z. again p || not z) (sym h) in
      ap (λ z. option_map (λ (x : Mark). x.complete) (cond z (Some v) None)) q ∙ on k (again p || not (is_told (kept ws m) (p, c p)))
    where
      on : v.complete ≡ c p → (q : Bool) → option_map (λ (x : Mark). x.complete) (cond q (Some v) None) ≡ cond q (Some (c p)) None
      on k true = ap Some k
      on k false = refl
  fresh_here p (Some v) e false i =
      let w : v.wanted ≡ false = r.wanted p v e ∙ i in
      ap (λ z. option_map (λ (x : Mark). x.complete) (cond (z && (v.again || not (is_told m (p, v.complete)))) (Some v) None)) w
      ∙ on (again p || not (is_told (kept ws m) (p, c p)))
    where
      nothing : Option Bool
      nothing = None

      on : (q : Bool) → nothing ≡ cond q nothing nothing
      on true = refl
      on false = refl
  fresh_here p None e true i =
      let g : again p ≡ false = r.again_elsewhere p e i in
      let n : marks m p ≡ Some (c p) = r.elsewhere p e ∙ ap (λ z. cond z (Some (c p)) None) i in
      let h : is_told (kept ws m) (p, c p) ≡ true = told_kept p (c p) i ∙ marks_told m p (c p) n in
      let q : (again p || not (is_told (kept ws m) (p, c p))) ≡ false = ap (λ z. z || not (is_told (kept ws m) (p, c p))) g ∙ ap not h in
      sym (ap (λ z. cond z (Some (c p)) None) q)
  fresh_here p None e false i = on (again p || not (is_told (kept ws m) (p, c p)))
    where
      nothing : Option Bool
      nothing = None

      on : (q : Bool) → nothing ≡ cond q nothing nothing
      on true = refl
      on false = refl

  pub fresh_marked : marked_fresh m ms ≡ fresh again ws (kept ws m)
  fresh_marked =
      same_entries (marked_fresh m ms) (fresh again ws (kept ws m))
      (subst (λ z. IsStrictlySortedBy place_cmp z) (sym (change_keys (λ (v : Mark). v.complete) (filter is_fresh ms))) (keys_ascend is_fresh ms u))
      (keys_ascend (λ w. again w.0 || not (is_told (kept ws m) w)) ws s)
      (λ p. change_at (λ (v : Mark). v.complete) (filter is_fresh ms) p
      ∙ ap (λ z. option_map (λ (v : Mark). v.complete) z) (filter_at is_fresh ms p u)
      ∙ fresh_here p (lookup (same p) ms) refl (is_in ws p) refl
      ∙ sym (ap (λ z. lookup (same p) z) (fresh_is again c (kept ws m) ws b)
      ∙ lookup-filter-keys (same p) (fresh_by again c (kept ws m)) (fresh_by again c (kept ws m) p) (λ k h. ap (λ z. fresh_by again c (kept ws m) z) (sym (same_is p k h))) ws
      ∙ ap (λ z. cond (fresh_by again c (kept ws m) p) z None) (at_ws p)))

  -- of what goes, only the places matter
  abbrev none_here : Place × Mark → Bool
  none_here e = not e.1.wanted && is_some (at m e.0)

  abbrev here : {X : Type 0} → X → Bool
  here x = true

  gone_here : (p : Place) (o : Option Mark) → lookup (same p) ms ≡ o → (a : Bool) → is_in ws p ≡ a →
      option_map (here {X = Mark}) (pick none_here p o) ≡ option_map (here {X = Entry}) (cond (not a) (at m p) None)
  gone_here p (Some v) e true i =
      let w : v.wanted ≡ true = r.wanted p v e ∙ i in
      ap (λ z. option_map (here {X = Mark}) (cond (not z && is_some (at m p)) (Some v) None)) w
  gone_here p (Some v) e false i =
      let w : v.wanted ≡ false = r.wanted p v e ∙ i in
      ap (λ z. option_map (here {X = Mark}) (cond (not z && is_some (at m p)) (Some v) None)) w ∙ on (at m p)
    where
      on : (o : Option Entry) → option_map (here {X = Mark}) (cond (is_some o) (Some v) None) ≡ option_map (here {X = Entry}) o
      on None = refl
      on (Some x) = refl
  gone_here p None e true i = refl
  gone_here p None e false i = on (at m p) (r.elsewhere p e ∙ ap (λ z. cond z (Some (c p)) None) i)
    where
      on : (o : Option Entry) → option_map (λ x. x.complete) o ≡ None → option_map (here {X = Mark}) None ≡ option_map (here {X = Entry}) o
      on None h = refl
      on (Some x) h = absurd (none-some x.complete (sym h))

  places_here : {X : Type 0} (es : List (Place × X)) → keys_of (map (λ e. (e.0, here e.1)) es) ≡ keys_of es
  places_here es = change_keys here es

  pub gone_marked : marked_gone m ms ≡ gone ws m
  gone_marked =
      let e : map (λ e. (e.0, here e.1)) (filter none_here ms) ≡ map (λ e. (e.0, here e.1)) (filter (λ e. not (is_in ws e.0)) m) =
      same_entries _ _
      (subst (λ z. IsStrictlySortedBy place_cmp z) (sym (change_keys (here {X = Mark}) (filter none_here ms))) (keys_ascend none_here ms u))
      (subst (λ z. IsStrictlySortedBy place_cmp z) (sym (change_keys (here {X = Entry}) (filter (λ e. not (is_in ws e.0)) m))) (keys_ascend (λ e. not (is_in ws e.0)) m t))
      (λ p. change_at (here {X = Mark}) (filter none_here ms) p
      ∙ ap (λ z. option_map (here {X = Mark}) z) (filter_at none_here ms p u)
      ∙ gone_here p (lookup (same p) ms) refl (is_in ws p) refl
      ∙ sym (change_at (here {X = Entry}) (filter (λ e. not (is_in ws e.0)) m) p
      ∙ ap (λ z. option_map (here {X = Entry}) z) (lookup-filter-keys (same p) (λ q. not (is_in ws q)) (not (is_in ws p)) (λ k h. ap (λ z. not (is_in ws z)) (sym (same_is p k h))) m))) in
      sym (places_here (filter none_here ms)) ∙ ap keys_of e ∙ places_here (filter (λ e. not (is_in ws e.0)) m) ∙ keys_filter (λ p. not (is_in ws p)) m

-- ---- what is forgotten

pub every : {X : Type 0} (es : List X) → filter (λ e. true) es ≡ es
every [] = refl
every (e ∷ es) = ap (λ z. e ∷ z) (every es)

untouched : (p : Place) (es : ToldMap) → lookup (same p) es ≡ None → es ≡ filter (λ e. not (same p e.0)) es
untouched p [] n = refl
untouched p (e ∷ es) n = on (same p e.0) refl n (untouched p es)
  where
    on : (b : Bool) → same p e.0 ≡ b → cond b (Some e.1) (lookup (same p) es) ≡ None → (lookup (same p) es ≡ None → es ≡ filter (λ e. not (same p e.0)) es) →
        e ∷ es ≡ cond (not b) (e ∷ filter (λ e. not (same p e.0)) es) (filter (λ e. not (same p e.0)) es)
    on true q h ih = absurd (none-some e.1 (sym h))
    on false q h ih = ap (λ z. e ∷ z) (ih h)

removed : (p : Place) (es : ToldMap) → Ascends es → remove_entry (same p) es ≡ filter (λ e. not (same p e.0)) es
removed p [] s = refl
removed p (e ∷ es) s = on (same p e.0) refl (removed p es (sorted_tail place_cmp e.0 (keys_of es) s))
  where
    on : (b : Bool) → same p e.0 ≡ b → remove_entry (same p) es ≡ filter (λ e. not (same p e.0)) es →
        cond b es (e ∷ remove_entry (same p) es) ≡ cond (not b) (e ∷ filter (λ e. not (same p e.0)) es) (filter (λ e. not (same p e.0)) es)
    on true q ih = untouched p es (past e es p s q)
    on false q ih = ap (λ z. e ∷ z) ih

both : (p : Place) (ps : List Place) (es : ToldMap) → filter (λ e. not (list_any (λ p. same p e.0) ps)) (filter (λ e. not (same p e.0)) es) ≡ filter (λ e. not (same p e.0 || list_any (λ p. same p e.0) ps)) es
both p ps [] = refl
both p ps (e ∷ es) = on (same p e.0) (list_any (λ p. same p e.0) ps) refl (both p ps es)
  where
    on : (b a : Bool) → list_any (λ p. same p e.0) ps ≡ a → filter (λ e. not (list_any (λ p. same p e.0) ps)) (filter (λ e. not (same p e.0)) es) ≡ filter (λ e. not (same p e.0 || list_any (λ p. same p e.0) ps)) es →
        filter (λ e. not (list_any (λ p. same p e.0) ps)) (cond (not b) (e ∷ filter (λ e. not (same p e.0)) es) (filter (λ e. not (same p e.0)) es))
        ≡ cond (not (b || a)) (e ∷ filter (λ e. not (same p e.0 || list_any (λ p. same p e.0) ps)) es) (filter (λ e. not (same p e.0 || list_any (λ p. same p e.0) ps)) es)
    on true a q ih = ih
    on false true q ih = ap (λ z. cond (not z) (e ∷ filter (λ e. not (list_any (λ p. same p e.0) ps)) (filter (λ e. not (same p e.0)) es)) (filter (λ e. not (list_any (λ p. same p e.0) ps)) (filter (λ e. not (same p e.0)) es))) q ∙ ih
    on false false q ih = ap (λ z. cond (not z) (e ∷ filter (λ e. not (list_any (λ p. same p e.0) ps)) (filter (λ e. not (same p e.0)) es)) (filter (λ e. not (list_any (λ p. same p e.0) ps)) (filter (λ e. not (same p e.0)) es))) q ∙ ap (λ z. e ∷ z) ih

forgotten_all : (ps : List Place) (m : ToldMap) → Ascends m → forgotten m ps ≡ filter (λ e. not (list_any (λ p. same p e.0) ps)) m
forgotten_all [] m s = sym (every m)
forgotten_all (p ∷ ps) m s =
    ap (λ z. forgotten z ps) (removed p m s)
    ∙ forgotten_all ps (filter (λ e. not (same p e.0)) m) (keys_ascend (λ e. not (same p e.0)) m s)
    ∙ both p ps m

is_member : (f : Place → Bool) (ps : List Place) (q : Place) → list_any (λ p. same p q) (filter f ps) ≡ (f q && list_any (λ p. same p q) ps)
is_member f [] q = on (f q)
  where
    on : (b : Bool) → false ≡ (b && false)
    on true = refl
    on false = refl
is_member f (p ∷ ps) q = on (f p) refl (same p q) refl (is_member f ps q)
  where
    on : (a : Bool) → f p ≡ a → (b : Bool) → same p q ≡ b → list_any (λ p. same p q) (filter f ps) ≡ (f q && list_any (λ p. same p q) ps) →
        list_any (λ p. same p q) (cond a (p ∷ filter f ps) (filter f ps)) ≡ (f q && (b || list_any (λ p. same p q) ps))
    on true x true y ih = let k : f q ≡ true = ap f (sym (same_is p q y)) ∙ x in rw (y, k) refl
    on true x false y ih = rw y ih
    on false x true y ih = let k : f q ≡ false = ap f (sym (same_is p q y)) ∙ x in ih ∙ ap (λ z. z && list_any (λ p. same p q) ps) k ∙ ap (λ z. z && true) (sym k)
    on false x false y ih = ih

pub forgotten_gone : (ws : Wanted) (m : ToldMap) → Ascends m → forgotten m (gone ws m) ≡ kept ws m
forgotten_gone ws m s = forgotten_all (gone ws m) m s ∙ each m m (λ e h. h)
  where
    each : (es all : ToldMap) → ((e : Place × Entry) → list_any (λ p. same p e.0) (keys_of es) ≡ true → list_any (λ p. same p e.0) (keys_of all) ≡ true) →
        filter (λ e. not (list_any (λ p. same p e.0) (filter (λ p. not (is_in ws p)) (keys_of all)))) es ≡ filter (λ e. is_in ws e.0) es
    each [] all h = refl
    each (e ∷ es) all h =
        let k : list_any (λ p. same p e.0) (keys_of all) ≡ true = h e (rw (same_refl e.0) refl) in
        let t : not (list_any (λ p. same p e.0) (filter (λ p. not (is_in ws p)) (keys_of all))) ≡ is_in ws e.0 =
        ap not (is_member (λ p. not (is_in ws p)) (keys_of all) e.0 ∙ ap (λ z. not (is_in ws e.0) && z) k) ∙ twice (is_in ws e.0) in
        rw t (ap (λ z. cond (is_in ws e.0) (e ∷ z) z) (each es all (λ x l. h x (or_second (same e.0 x.0) _ l))))
      where
        twice : (b : Bool) → not (not b && true) ≡ b
        twice true = refl
        twice false = refl

        or_second : (a b : Bool) → b ≡ true → (a || b) ≡ true
        or_second true b h = refl
        or_second false b h = h
