-- How much may be wanted: no more than the declarations, and three places for each interest that is told of all as one.
use Rattle.std.proofs.Common.{◌≡◌, ℕ, ◌*◌, ◌≤◌, ◌&&◌, ◌||◌, Bool, true, false, cond, List, [], ◌∷◌, ◌++◌, length, map, refl, sym, ap, ◌∙◌, arith}
use Rattle.std.specs.declared.option.Option.{Option}
use Rattle.std.specs.declared.option.Option.TheVariants.{None, Some}
use Rattle.std.specs.List.{list_any, flat_map}
use Rattle.std.specs.Map.{keys_of}
use Rattle.std.specs.Option.{unwrap_or}
use Rattle.std.proofs.lemmas.Bool.{false≢true, or_left, or_right}
use Rattle.std.proofs.lemmas.List.{length-map, length-append}
use Rattle.std.proofs.lemmas.Map.Entries.{length-keys_of}
use Rattle.std.proofs.lemmas.Map.Keys.{IsDistinct-from_sorted}
use Rattle.std.proofs.lemmas.Map.Made.{length-le_from_is_member, is_some-lookup}
use Rattle.std.proofs.lemmas.List.Folds.{list_any-append}
use Rattle.zr_msg.specs.declared.decl.Decl.{Decl}
use Rattle.zr_local.specs.declared.interest.Interest.{Interest}
use Rattle.zr_lists.proofs.Parts.{and_right}
use Rattle.zr_told_spec.specs.Laws.{FewAreWanted}
use Rattle.zr_told_spec.specs.Place.{place_cmp, place_of, same}
use Rattle.zr_told_spec.specs.Wanted.{asked, fits, told_as, wanted, wants}
use Rattle.zr_told_spec.specs.declared.place.Class.{Class}
use Rattle.zr_told_spec.specs.declared.place.Class.TheVariants.{Subscriber, Queryable, Living}
use Rattle.zr_told_spec.specs.declared.place.Place.{Place}
use Rattle.std.proofs.lemmas.List.Folds.{list_any-append}
use Rattle.zr_told_spec.proofs.Places.{same_equiv}
use Rattle.zr_told_spec.proofs.Sorted.{wanted_ascends}
use Rattle.zr_told_spec.proofs.Wants.{wanted_in}

-- the places under an interest's own key
abbrev own : Interest → List Place
own i = record { class = Subscriber; key = unwrap_or i.key [] } ∷ record { class = Queryable; key = unwrap_or i.key [] } ∷ record { class = Living; key = unwrap_or i.key [] } ∷ []

abbrev places : List Decl → List Place
places ds = map (λ d. place_of d) ds

-- ---- where an interest is told of a place

there_or_own : (i : Interest) (p q : Place) → same q (told_as i p) ≡ true → (same q p || list_any (same q) (own i)) ≡ true
there_or_own i p q h = by i.aggregate i.key refl h
  where
    of_class : (k : List ℕ) (c : Class) → i.key ≡ Some k → same q (record { class = c; key = k }) ≡ true → list_any (same q) (own i) ≡ true
    of_class k Subscriber e g = or_left _ _ (ap (λ (o : Option (List ℕ)). same q (record { class = Subscriber; key = unwrap_or o [] })) e ∙ g)
    of_class k Queryable e g = or_right _ _ (or_left _ _ (ap (λ (o : Option (List ℕ)). same q (record { class = Queryable; key = unwrap_or o [] })) e ∙ g))
    of_class k Living e g = or_right _ _ (or_right _ _ (or_left _ _ (ap (λ (o : Option (List ℕ)). same q (record { class = Living; key = unwrap_or o [] })) e ∙ g)))

    by : (a : Bool) (o : Option (List ℕ)) → i.key ≡ o → same q (record { class = p.class; key = cond a (unwrap_or o p.key) p.key }) ≡ true → (same q p || list_any (same q) (own i)) ≡ true
    by true None e g = or_left (same q p) _ g
    by true (Some k) e g = or_right (same q p) _ (of_class k p.class e g)
    by false o e g = or_left (same q p) _ g

-- ---- where one interest wants to be told

asked_there : (i : Interest) (q : Place) (ds : List Decl) → asked ds i q ≡ true → (list_any (same q) (places ds) || list_any (same q) (own i)) ≡ true
asked_there i q [] h = absurd (false≢true h)
asked_there i q (d ∷ ds) h = by (asked_there i q ds) (fits i (place_of d) && same q (told_as i (place_of d))) refl h
  where
    skip : (a b c : Bool) → (b || c) ≡ true → ((a || b) || c) ≡ true
    skip true b c k = refl
    skip false b c k = k

    put : (a b c : Bool) → (a || c) ≡ true → ((a || b) || c) ≡ true
    put true b c k = refl
    put false true c k = refl
    put false false c k = k

    by : (asked ds i q ≡ true → (list_any (same q) (places ds) || list_any (same q) (own i)) ≡ true) → (s : Bool) → (fits i (place_of d) && same q (told_as i (place_of d))) ≡ s → (s || asked ds i q) ≡ true → ((same q (place_of d) || list_any (same q) (places ds)) || list_any (same q) (own i)) ≡ true
    by ih true e k = put (same q (place_of d)) (list_any (same q) (places ds)) _ (there_or_own i (place_of d) q (and_right (fits i (place_of d)) _ e))
    by ih false e k = skip (same q (place_of d)) _ _ (ih k)

-- ---- where several do

wants_there : (ds : List Decl) (q : Place) (is : List Interest) → wants ds is q ≡ true → (list_any (same q) (places ds) || list_any (same q) (flat_map own is)) ≡ true
wants_there ds q [] h = absurd (false≢true h)
wants_there ds q (i ∷ is) h = by (wants_there ds q is) (asked ds i q) refl h
  where
    more : (list_any (same q) (own i) || list_any (same q) (flat_map own is)) ≡ list_any (same q) (flat_map own (i ∷ is))
    more = sym (list_any-append (same q) (own i) (flat_map own is))

    widen : (a b c : Bool) → (a || b) ≡ true → (a || (b || c)) ≡ true
    widen true b c k = refl
    widen false true c k = refl
    widen false false c k = absurd (false≢true k)

    pass : (a b c : Bool) → (a || c) ≡ true → (a || (b || c)) ≡ true
    pass true b c k = refl
    pass false true c k = refl
    pass false false c k = k

    by : (wants ds is q ≡ true → (list_any (same q) (places ds) || list_any (same q) (flat_map own is)) ≡ true) → (s : Bool) → asked ds i q ≡ s → (s || wants ds is q) ≡ true → (list_any (same q) (places ds) || list_any (same q) (flat_map own (i ∷ is))) ≡ true
    by ih true e k = ap (λ z. list_any (same q) (places ds) || z) (sym more) ∙ widen (list_any (same q) (places ds)) _ _ (asked_there i q ds e)
    by ih false e k = ap (λ z. list_any (same q) (places ds) || z) (sym more) ∙ pass (list_any (same q) (places ds)) (list_any (same q) (own i)) _ (ih k)

-- ---- the law

thrice : (is : List Interest) → length (flat_map own is) ≡ 3 * length is
thrice [] = refl
thrice (i ∷ is) = let h = thrice is in omega (arith, h)

pub few_are_wanted : FewAreWanted
few_are_wanted ds is =
    let le : length (keys_of (wanted ds is)) ≤ length (places ds ++ flat_map own is) =
    length-le_from_is_member same_equiv (keys_of (wanted ds is)) (places ds ++ flat_map own is) (IsDistinct-from_sorted place_cmp _ (wanted_ascends ds is))
    (λ q k. list_any-append (same q) (places ds) (flat_map own is) ∙ wants_there ds q is (sym (wanted_in ds is q) ∙ is_some-lookup (same q) (wanted ds is) ∙ k)) in
    omega (arith, le, length-keys_of (wanted ds is), length-append (places ds) (flat_map own is), length-map ds (λ d. place_of d), thrice is)
