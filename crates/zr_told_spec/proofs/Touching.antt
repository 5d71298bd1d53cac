-- What changed declarations may touch.
use Rattle.std.proofs.Common.{◌≡◌, ℕ, ◌&&◌, ◌||◌, not, Bool, true, false, cond, List, [], ◌∷◌, refl, sym, ap, ◌∙◌}
use Rattle.std.specs.declared.option.Option.{Option}
use Rattle.std.specs.declared.option.Option.TheVariants.{None, Some}
use Rattle.std.specs.List.{list_any, AllByRecursion}
use Rattle.std.specs.Option.{option_map_or, unwrap_or}
use Rattle.std.proofs.lemmas.Bool.{true≢false, false≢true, or_parts, and_parts, and_from, false_from_ne_true, or_from}
use Rattle.zr_key.specs.Key.{IsKeyText}
use Rattle.zr_match.specs.Table.{texts_meet}
use Rattle.zr_msg.specs.declared.decl.Decl.{Decl}
use Rattle.zr_node_spec.specs.Queries.{is_complete}
use Rattle.zr_told_spec.specs.Place.{same, place_of}
use Rattle.zr_told_spec.specs.Wanted.{asks, fits, told_as, asked, wants, is_complete_at, want}
use Rattle.zr_told_spec.specs.Rows.{touches, IsSameBut}
use Rattle.zr_told_spec.specs.Laws.{ChangesTouch}
use Rattle.zr_local.specs.declared.interest.Interest.{Interest}
use Rattle.zr_told_spec.specs.declared.place.Place.{Place}
use Rattle.zr_told_spec.proofs.Places.{same_is, same_refl}
use Rattle.zr_told_spec.proofs.Itself.{meets_itself}

-- ---- where no interest fits, nothing is wanted

key_fits : (o : Option (List ℕ)) (g : Bool) (x y : List ℕ) → texts_meet y y ≡ true → y ≡ cond g (unwrap_or o x) x →
    option_map_or (λ k. texts_meet x k) o true ≡ true → option_map_or (λ k. texts_meet y k) o true ≡ true
key_fits None g x y r e h = refl
key_fits (Some k) true x y r e h = ap (λ z. texts_meet y z) (sym e) ∙ r
key_fits (Some k) false x y r e h = ap (λ z. texts_meet z k) e ∙ h

-- where an interest is told a declaration at a place, it fits that place
fits_place : (i : Interest) (p q : Place) → texts_meet p.key p.key ≡ true → p ≡ told_as i q → fits i q ≡ true → fits i p ≡ true
fits_place i p q r t f =
    let k = and_parts (asks i.kinds q.class) (option_map_or (λ k. texts_meet q.key k) i.key true) f in
    and_from (asks i.kinds p.class) (option_map_or (λ k. texts_meet p.key k) i.key true)
    (ap (λ z. asks i.kinds z.class) t ∙ k.0)
    (key_fits i.key i.aggregate q.key p.key r (ap (λ z. z.key) t) k.1)

not_asked : (i : Interest) (p : Place) → texts_meet p.key p.key ≡ true → fits i p ≡ false → (ds : List Decl) → asked ds i p ≡ false
not_asked i p r h [] = refl
not_asked i p r h (d ∷ ds) = ap (λ z. z || asked ds i p) none ∙ not_asked i p r h ds
  where
    none : (fits i (place_of d) && same p (told_as i (place_of d))) ≡ false
    none = false_from_ne_true _ (λ t.
        let k = and_parts (fits i (place_of d)) (same p (told_as i (place_of d))) t in
        false≢true (sym h ∙ fits_place i p (place_of d) r (same_is p (told_as i (place_of d)) k.1) k.0))

-- ---- apart from what changed

abbrev pub hits : Interest → Place → Place → Bool
hits i q p = fits i q && (same p q || same p (told_as i q))

first_half : (f a b : Bool) → (f && (a || b)) ≡ false → a ≡ true → f ≡ false
first_half f a b h t = by f (sym (ap (λ z. f && (z || b)) t) ∙ h)
  where
    by : (f : Bool) → (f && true) ≡ false → f ≡ false
    by true h = h
    by false h = refl

second_half : (f a b : Bool) → (f && (a || b)) ≡ false → (f && b) ≡ false
second_half true true b h = absurd (true≢false h)
second_half true false b h = h
second_half false a b h = refl

-- what none of several interests touches, the first doesn't, and the others don't
apart : (i : Interest) (is : List Interest) (p : Place) (qs : List Place) → list_any (λ q. touches (i ∷ is) q p) qs ≡ false →
    (list_any (λ q. hits i q p) qs ≡ false) × (list_any (λ q. touches is q p) qs ≡ false)
apart i is p [] h = (refl, refl)
apart i is p (q ∷ qs) h =
    let k = or_parts (hits i q p || touches is q p) (list_any (λ q. touches (i ∷ is) q p) qs) h in
    let l = or_parts (hits i q p) (touches is q p) k.0 in
    let r = apart i is p qs k.1 in
    (or_from (hits i q p) _ l.0 r.0, or_from (touches is q p) _ l.1 r.1)

unhit : (i : Interest) (p : Place) (qs : List Place) → list_any (λ q. hits i q p) qs ≡ false → (x : Place) → list_any (same x) qs ≡ true → hits i x p ≡ false
unhit i p [] h x t = absurd (false≢true t)
unhit i p (q ∷ qs) h x t =
    let k = or_parts (hits i q p) (list_any (λ q. hits i q p) qs) h in
    by (same x q) refl k.0 t (λ u. unhit i p qs k.1 x u)
  where
    by : (s : Bool) → same x q ≡ s → hits i q p ≡ false → (s || list_any (same x) qs) ≡ true → (list_any (same x) qs ≡ true → hits i x p ≡ false) → hits i x p ≡ false
    by true e n t ih = ap (λ z. hits i z p) (same_is x q e) ∙ n
    by false e n t ih = ih t

any_but : (g : Decl → Bool) (qs : List Place) → ((d : Decl) → list_any (same (place_of d)) qs ≡ true → g d ≡ false) → (xs : List Decl) →
    list_any g xs ≡ list_any (λ d. not (list_any (same (place_of d)) qs) && g d) xs
any_but g qs n [] = refl
any_but g qs n (d ∷ xs) = ap (λ z. z || list_any g xs) (by (list_any (same (place_of d)) qs) refl) ∙ ap (λ z. (not (list_any (same (place_of d)) qs) && g d) || z) (any_but g qs n xs)
  where
    by : (b : Bool) → list_any (same (place_of d)) qs ≡ b → g d ≡ (not b && g d)
    by true e = n d e
    by false e = refl

any_same : (g : Decl → Bool) (qs : List Place) (xs ys : List Decl) → ((d : Decl) → list_any (same (place_of d)) qs ≡ true → g d ≡ false) → IsSameBut qs xs ys → list_any g xs ≡ list_any g ys
any_same g qs xs ys n h = any_but g qs n xs ∙ h g ∙ sym (any_but g qs n ys)

module _ (qs : List Place) (xs ys : List Decl) (meet : AllByRecursion (λ q. IsKeyText q.key) qs) (h : IsSameBut qs xs ys) where
  asked_same : (i : Interest) (p : Place) → list_any (λ q. hits i q p) qs ≡ false → asked xs i p ≡ asked ys i p
  asked_same i p n =
      any_same (λ d. fits i (place_of d) && same p (told_as i (place_of d))) qs xs ys
      (λ d t. second_half (fits i (place_of d)) (same p (place_of d)) (same p (told_as i (place_of d))) (unhit i p qs n (place_of d) t)) h

  wants_same : (is : List Interest) (p : Place) → list_any (λ q. touches is q p) qs ≡ false → wants xs is p ≡ wants ys is p
  wants_same [] p n = refl
  wants_same (i ∷ is) p n =
      let k = apart i is p qs n in
      ap (λ z. z || wants xs is p) (asked_same i p k.0) ∙ ap (λ z. asked ys i p || z) (wants_same is p k.1)

  complete_same : (p : Place) → list_any (same p) qs ≡ false → is_complete_at xs p ≡ is_complete_at ys p
  complete_same p n = any_same (λ d. same p (place_of d) && is_complete d.kind) qs xs ys (λ d t. by d t (same p (place_of d)) refl) h
    where
      by : (d : Decl) → list_any (same (place_of d)) qs ≡ true → (s : Bool) → same p (place_of d) ≡ s → (s && is_complete d.kind) ≡ false
      by d t true e = absurd (false≢true (sym n ∙ ap (λ z. list_any (same z) qs) (same_is p (place_of d) e) ∙ t))
      by d t false e = refl

  meets_own : (p : Place) (rs : List Place) → AllByRecursion (λ q. IsKeyText q.key) rs → list_any (same p) rs ≡ true → texts_meet p.key p.key ≡ true
  meets_own p [] a t = absurd (false≢true t)
  meets_own p (q ∷ rs) a t = by (same p q) refl t (λ u. meets_own p rs a.1 u)
    where
      by : (s : Bool) → same p q ≡ s → (s || list_any (same p) rs) ≡ true → (list_any (same p) rs ≡ true → texts_meet p.key p.key ≡ true) → texts_meet p.key p.key ≡ true
      by true e t ih = ap (λ z. texts_meet z.key z.key) (same_is p q e) ∙ meets_itself q.key a.0
      by false e t ih = ih t

  -- a changed place that touches nothing is wanted by nobody
  none_wants : (is : List Interest) (p : Place) → list_any (λ q. touches is q p) qs ≡ false → list_any (same p) qs ≡ true → wants xs is p ≡ false
  none_wants [] p n t = refl
  none_wants (i ∷ is) p n t =
      let k = apart i is p qs n in
      let f : fits i p ≡ false = first_half (fits i p) (same p p) (same p (told_as i p)) (unhit i p qs k.0 p t) (same_refl p) in
      or_from (asked xs i p) (wants xs is p) (not_asked i p (meets_own p qs meet t) f xs) (none_wants is p k.1 t)

  want_same : (is : List Interest) (p : Place) → list_any (λ q. touches is q p) qs ≡ false → want xs is p ≡ want ys is p
  want_same is p n = by (list_any (same p) qs) refl
    where
      by : (b : Bool) → list_any (same p) qs ≡ b → want xs is p ≡ want ys is p
      by true e =
          let x : wants xs is p ≡ false = none_wants is p n e in
          let y : wants ys is p ≡ false = sym (wants_same is p n) ∙ x in
          ap (λ z. cond z (Some (is_complete_at xs p)) None) x ∙ sym (ap (λ z. cond z (Some (is_complete_at ys p)) None) y)
      by false e =
          ap (λ z. cond z (Some (is_complete_at xs p)) None) (wants_same is p n) ∙ ap (λ z. cond (wants ys is p) (Some z) None) (complete_same p e)

pub changes_touch : ChangesTouch
changes_touch qs before ds is m meet h w = λ p n. w p ∙ want_same qs before ds meet h is p n

-- ---- who has no interests

pub none_touch : (qs : List Place) (p : Place) → list_any (λ q. touches [] q p) qs ≡ false
none_touch [] p = refl
none_touch (q ∷ qs) p = none_touch qs p
