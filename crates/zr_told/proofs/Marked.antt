-- What the marks on all told and all wanted places come to.
use Rattle.std.proofs.Common.{◌≡◌, ◌&&◌, ◌||◌, Bool, true, false, cond, List, [], ◌∷◌, Result, Ok, Err, IfOk, refl, sym, ap, ◌∙◌, subst}
use Rattle.std.specs.declared.option.Option.{Option}
use Rattle.std.specs.declared.option.Option.TheVariants.{None, Some}
use Rattle.std.specs.List.{list_any, fold}
use Rattle.std.specs.Option.{option_map, option_map_or, is_some}
use Rattle.std.specs.Map.{lookup, keys_of}
use Rattle.std.specs.BTreeMap.{insert_entry}
use Rattle.std.proofs.lemmas.Bool.{true≢false}
use Rattle.std.proofs.lemmas.Option.{none-some, same_Some}
use Rattle.std.proofs.lemmas.Map.Made.{is_some-lookup}
use Rattle.zr_msg.specs.declared.decl.Decl.{Decl}
use Rattle.zr_node_spec.specs.Queries.{is_complete}
use Rattle.zr_told_spec.specs.Place.{Ascends, place_cmp, same, place_of}
use Rattle.zr_told_spec.specs.Wanted.{fits, told_as, asked, wants, is_complete_at, Wanted, wanted}
use Rattle.zr_told_spec.specs.Told.{ToldMap, at}
use Rattle.zr_told.specs.Plan.{Marks, AreRight, marked_fresh, updated, put_mark, unwanted, is_wanted, with_again, with_complete, mark_wanted, mark_again, mark_complete, mark_answered, is_answered, marks_of}
use Rattle.zr_told_spec.specs.declared.entry.Entry.{Entry}
use Rattle.zr_told.specs.declared.mark.Mark.{Mark}
use Rattle.zr_local.specs.declared.interest.Interest.{Interest}
use Rattle.zr_told_spec.specs.declared.place.Place.{Place}
use Rattle.zr_told_spec.proofs.Places.{same_is, at_put}
use Rattle.zr_told_spec.proofs.Wants.{wanted_by, wanted_in}
use Rattle.zr_told.proofs.Planned.{every, fresh_marked}
use Rattle.zr_told_spec.proofs.Sorted.{nothing_ascends, wanted_ascends}

updated_at : (f : Mark → Mark) (ms : Marks) (q p : Place) → lookup (same p) (updated f ms q) ≡ cond (same p q) (option_map f (lookup (same p) ms)) (lookup (same p) ms)
updated_at f ms q p = by (lookup (same q) ms) refl (same p q) refl
  where
    by : (o : Option Mark) → lookup (same q) ms ≡ o → (s : Bool) → same p q ≡ s →
        lookup (same p) (option_map_or (λ v. insert_entry place_cmp ms q (f v)) o ms) ≡ cond s (option_map f (lookup (same p) ms)) (lookup (same p) ms)
    by None e true t = let i : p ≡ q = same_is p q t in let n : lookup (same p) ms ≡ None = ap (λ z. lookup (same z) ms) i ∙ e in n ∙ ap (option_map f) (sym n)
    by None e false t = refl
    by (Some v) e true t =
        let i : p ≡ q = same_is p q t in
        let n : lookup (same p) ms ≡ Some v = ap (λ z. lookup (same z) ms) i ∙ e in
        at_put ms q (f v) p ∙ ap (λ z. cond z (Some (f v)) (lookup (same p) ms)) t ∙ ap (option_map f) (sym n)
    by (Some v) e false t = at_put ms q (f v) p ∙ ap (λ z. cond z (Some (f v)) (lookup (same p) ms)) t

-- ---- what is wanted

wanted_at : (i : Interest) (ds : List Decl) (ms : Marks) (p : Place) → lookup (same p) (mark_wanted ds ms i) ≡ cond (asked ds i p) (Some is_wanted) (lookup (same p) ms)
wanted_at i [] ms p = refl
wanted_at i (d ∷ ds) ms p = by (fits i (place_of d)) (wanted_at i ds (put_mark is_wanted ms (told_as i (place_of d))) p) (wanted_at i ds ms p)
  where
    rest : (a b : Bool) → cond a (Some is_wanted) (cond b (Some is_wanted) (lookup (same p) ms)) ≡ cond (b || a) (Some is_wanted) (lookup (same p) ms)
    rest true true = refl
    rest true false = refl
    rest false b = by_first b
      where
        by_first : (b : Bool) → cond b (Some is_wanted) (lookup (same p) ms) ≡ cond (b || false) (Some is_wanted) (lookup (same p) ms)
        by_first true = refl
        by_first false = refl

    by : (f : Bool) → lookup (same p) (mark_wanted ds (put_mark is_wanted ms (told_as i (place_of d))) i) ≡ cond (asked ds i p) (Some is_wanted) (lookup (same p) (put_mark is_wanted ms (told_as i (place_of d)))) →
        lookup (same p) (mark_wanted ds ms i) ≡ cond (asked ds i p) (Some is_wanted) (lookup (same p) ms) →
        lookup (same p) (mark_wanted ds (cond f (put_mark is_wanted ms (told_as i (place_of d))) ms) i) ≡ cond (f && same p (told_as i (place_of d)) || asked ds i p) (Some is_wanted) (lookup (same p) ms)
    by true g h = g ∙ ap (λ z. cond (asked ds i p) (Some is_wanted) z) (at_put ms (told_as i (place_of d)) is_wanted p) ∙ rest (asked ds i p) (same p (told_as i (place_of d)))
    by false g h = h

all_wanted_at : (ds : List Decl) (is : List Interest) (ms : Marks) (p : Place) → lookup (same p) (fold (mark_wanted ds) ms is) ≡ cond (wants ds is p) (Some is_wanted) (lookup (same p) ms)
all_wanted_at ds [] ms p = refl
all_wanted_at ds (i ∷ is) ms p =
    all_wanted_at ds is (mark_wanted ds ms i) p
    ∙ ap (λ z. cond (wants ds is p) (Some is_wanted) z) (wanted_at i ds ms p)
    ∙ by (wants ds is p) (asked ds i p)
  where
    by : (a b : Bool) → cond a (Some is_wanted) (cond b (Some is_wanted) (lookup (same p) ms)) ≡ cond (b || a) (Some is_wanted) (lookup (same p) ms)
    by true true = refl
    by true false = refl
    by false true = refl
    by false false = refl

-- ---- what is told again, and what is complete

again_at : (i : Interest) (ds : List Decl) (ms : Marks) (p : Place) → lookup (same p) (mark_again ds ms i) ≡ cond (asked ds i p) (option_map with_again (lookup (same p) ms)) (lookup (same p) ms)
again_at i [] ms p = refl
again_at i (d ∷ ds) ms p = by (fits i (place_of d)) (again_at i ds (updated with_again ms (told_as i (place_of d))) p) (again_at i ds ms p)
  where
    twice : (o : Option Mark) → option_map with_again (option_map with_again o) ≡ option_map with_again o
    twice None = refl
    twice (Some v) = refl

    rest : (a b : Bool) → cond a (option_map with_again (cond b (option_map with_again (lookup (same p) ms)) (lookup (same p) ms))) (cond b (option_map with_again (lookup (same p) ms)) (lookup (same p) ms))
        ≡ cond (b || a) (option_map with_again (lookup (same p) ms)) (lookup (same p) ms)
    rest true true = twice (lookup (same p) ms)
    rest true false = refl
    rest false true = refl
    rest false false = refl

    by : (f : Bool) →
        lookup (same p) (mark_again ds (updated with_again ms (told_as i (place_of d))) i) ≡ cond (asked ds i p) (option_map with_again (lookup (same p) (updated with_again ms (told_as i (place_of d))))) (lookup (same p) (updated with_again ms (told_as i (place_of d)))) →
        lookup (same p) (mark_again ds ms i) ≡ cond (asked ds i p) (option_map with_again (lookup (same p) ms)) (lookup (same p) ms) →
        lookup (same p) (mark_again ds (cond f (updated with_again ms (told_as i (place_of d))) ms) i) ≡ cond (f && same p (told_as i (place_of d)) || asked ds i p) (option_map with_again (lookup (same p) ms)) (lookup (same p) ms)
    by true g h = g ∙ ap (λ z. cond (asked ds i p) (option_map with_again z) z) (updated_at with_again ms (told_as i (place_of d)) p) ∙ rest (asked ds i p) (same p (told_as i (place_of d)))
    by false g h = h

complete_at : (ds : List Decl) (ms : Marks) (p : Place) → lookup (same p) (mark_complete ds ms) ≡ cond (is_complete_at ds p) (option_map with_complete (lookup (same p) ms)) (lookup (same p) ms)
complete_at [] ms p = refl
complete_at (d ∷ ds) ms p = by (is_complete d.kind) (complete_at ds (updated with_complete ms (place_of d)) p) (complete_at ds ms p)
  where
    twice : (o : Option Mark) → option_map with_complete (option_map with_complete o) ≡ option_map with_complete o
    twice None = refl
    twice (Some v) = refl

    rest : (a b : Bool) → cond a (option_map with_complete (cond b (option_map with_complete (lookup (same p) ms)) (lookup (same p) ms))) (cond b (option_map with_complete (lookup (same p) ms)) (lookup (same p) ms))
        ≡ cond ((b && true) || a) (option_map with_complete (lookup (same p) ms)) (lookup (same p) ms)
    rest true true = twice (lookup (same p) ms)
    rest true false = refl
    rest false true = refl
    rest false false = refl

    none : (b : Bool) → (b && false) ≡ false
    none true = refl
    none false = refl

    by : (f : Bool) →
        lookup (same p) (mark_complete ds (updated with_complete ms (place_of d))) ≡ cond (is_complete_at ds p) (option_map with_complete (lookup (same p) (updated with_complete ms (place_of d)))) (lookup (same p) (updated with_complete ms (place_of d))) →
        lookup (same p) (mark_complete ds ms) ≡ cond (is_complete_at ds p) (option_map with_complete (lookup (same p) ms)) (lookup (same p) ms) →
        lookup (same p) (mark_complete ds (cond f (updated with_complete ms (place_of d)) ms)) ≡ cond (same p (place_of d) && f || is_complete_at ds p) (option_map with_complete (lookup (same p) ms)) (lookup (same p) ms)
    by true g h = g ∙ ap (λ z. cond (is_complete_at ds p) (option_map with_complete z) z) (updated_at with_complete ms (place_of d) p) ∙ rest (is_complete_at ds p) (same p (place_of d))
    by false g h = h ∙ ap (λ z. cond (z || is_complete_at ds p) (option_map with_complete (lookup (same p) ms)) (lookup (same p) ms)) (sym (none (same p (place_of d))))

-- ---- what was told

told_at : (ps : List Place) (ms : Marks) (p : Place) → lookup (same p) (fold (put_mark unwanted) ms ps) ≡ cond (list_any (same p) ps) (Some unwanted) (lookup (same p) ms)
told_at [] ms p = refl
told_at (q ∷ qs) ms p = told_at qs (put_mark unwanted ms q) p ∙ ap (λ z. cond (list_any (same p) qs) (Some unwanted) z) (at_put ms q unwanted p) ∙ by (list_any (same p) qs) (same p q)
  where
    by : (a b : Bool) → cond a (Some unwanted) (cond b (Some unwanted) (lookup (same p) ms)) ≡ cond (b || a) (Some unwanted) (lookup (same p) ms)
    by true true = refl
    by true false = refl
    by false true = refl
    by false false = refl

-- ---- all marks

-- the mark of a place that is wanted, told again, complete, and was told, or not
abbrev mark_by : (wanted again complete told : Bool) → Option Mark
mark_by wanted again complete told =
    cond complete (option_map with_complete (cond again (option_map with_again (cond wanted (Some is_wanted) (cond told (Some unwanted) None))) (cond wanted (Some is_wanted) (cond told (Some unwanted) None))))
    (cond again (option_map with_again (cond wanted (Some is_wanted) (cond told (Some unwanted) None))) (cond wanted (Some is_wanted) (cond told (Some unwanted) None)))

pub mark_is : (m : ToldMap) (ds : List Decl) (is : List Interest) (a : Option Interest) (p : Place) →
    lookup (same p) (marks_of m ds is a) ≡ mark_by (wants ds is p) (is_answered ds a p) (is_complete_at ds p) (is_some (at m p))
mark_is m ds is a p =
    complete_at ds (mark_answered ds (fold (mark_wanted ds) (fold (put_mark unwanted) [] (keys_of m)) is) a) p
    ∙ ap (λ z. cond (is_complete_at ds p) (option_map with_complete z) z) (by a)
  where
    base : lookup (same p) (fold (mark_wanted ds) (fold (put_mark unwanted) [] (keys_of m)) is) ≡ cond (wants ds is p) (Some is_wanted) (cond (is_some (at m p)) (Some unwanted) None)
    base =
        all_wanted_at ds is (fold (put_mark unwanted) [] (keys_of m)) p
        ∙ ap (λ z. cond (wants ds is p) (Some is_wanted) z) (told_at (keys_of m) [] p ∙ ap (λ z. cond z (Some unwanted) None) (sym (is_some-lookup (same p) m)))

    by : (a : Option Interest) → lookup (same p) (mark_answered ds (fold (mark_wanted ds) (fold (put_mark unwanted) [] (keys_of m)) is) a)
        ≡ cond (is_answered ds a p) (option_map with_again (cond (wants ds is p) (Some is_wanted) (cond (is_some (at m p)) (Some unwanted) None))) (cond (wants ds is p) (Some is_wanted) (cond (is_some (at m p)) (Some unwanted) None))
    by None = base
    by (Some i) = again_at i ds (fold (mark_wanted ds) (fold (put_mark unwanted) [] (keys_of m)) is) p ∙ ap (λ z. cond (asked ds i p) (option_map with_again z) z) base

right_by : (w a c t : Bool) (v : Mark) → mark_by w a c t ≡ Some v → (v.wanted ≡ w) × (w ≡ true → (v.complete ≡ c) × (v.again ≡ a))
right_by true true true t v h = let e = same_Some _ v h in (ap (λ z. z.wanted) (sym e), λ q. (ap (λ z. z.complete) (sym e), ap (λ z. z.again) (sym e)))
right_by true true false t v h = let e = same_Some _ v h in (ap (λ z. z.wanted) (sym e), λ q. (ap (λ z. z.complete) (sym e), ap (λ z. z.again) (sym e)))
right_by true false true t v h = let e = same_Some _ v h in (ap (λ z. z.wanted) (sym e), λ q. (ap (λ z. z.complete) (sym e), ap (λ z. z.again) (sym e)))
right_by true false false t v h = let e = same_Some _ v h in (ap (λ z. z.wanted) (sym e), λ q. (ap (λ z. z.complete) (sym e), ap (λ z. z.again) (sym e)))
right_by false true true true v h = let e = same_Some _ v h in (ap (λ z. z.wanted) (sym e), λ q. absurd (true≢false (sym q)))
right_by false true false true v h = let e = same_Some _ v h in (ap (λ z. z.wanted) (sym e), λ q. absurd (true≢false (sym q)))
right_by false false true true v h = let e = same_Some _ v h in (ap (λ z. z.wanted) (sym e), λ q. absurd (true≢false (sym q)))
right_by false false false true v h = let e = same_Some _ v h in (ap (λ z. z.wanted) (sym e), λ q. absurd (true≢false (sym q)))
right_by false true true false v h = absurd (none-some v h)
right_by false true false false v h = absurd (none-some v h)
right_by false false true false v h = absurd (none-some v h)
right_by false false false false v h = absurd (none-some v h)

-- a place without a mark isn't wanted, and wasn't told
absent_by : (w a c t : Bool) → mark_by w a c t ≡ None → (w ≡ false) × (t ≡ false)
absent_by true true true t h = absurd (none-some _ (sym h))
absent_by true true false t h = absurd (none-some _ (sym h))
absent_by true false true t h = absurd (none-some _ (sym h))
absent_by true false false t h = absurd (none-some _ (sym h))
absent_by false true true true h = absurd (none-some _ (sym h))
absent_by false true false true h = absurd (none-some _ (sym h))
absent_by false false true true h = absurd (none-some _ (sym h))
absent_by false false false true h = absurd (none-some _ (sym h))
absent_by false a c false h = (refl, refl)

pub marks_right : (m : ToldMap) (ds : List Decl) (is : List Interest) (a : Option Interest) → AreRight (is_answered ds a) (is_complete_at ds) (wanted ds is) m (marks_of m ds is a)
marks_right m ds is a = record {
  wanted = λ p v h. (right p v h).0 ∙ sym (wanted_in ds is p);
  complete_is = λ p v h w. ((right p v h).1 (sym (right p v h).0 ∙ w)).0;
  again_is = λ p v h w. ((right p v h).1 (sym (right p v h).0 ∙ w)).1;
  elsewhere = λ p h.
      let o = absent p h in
      nothing (at m p) o.1 ∙ sym (ap (λ z. cond z (Some (is_complete_at ds p)) None) (wanted_in ds is p ∙ o.0));
  again_elsewhere = λ p h i. let o = absent p h in absurd (true≢false (sym i ∙ wanted_in ds is p ∙ o.0));
}
  where
    right : (p : Place) (v : Mark) → lookup (same p) (marks_of m ds is a) ≡ Some v →
        (v.wanted ≡ wants ds is p) × (wants ds is p ≡ true → (v.complete ≡ is_complete_at ds p) × (v.again ≡ is_answered ds a p))
    right p v h = right_by (wants ds is p) (is_answered ds a p) (is_complete_at ds p) (is_some (at m p)) v (sym (mark_is m ds is a p) ∙ h)

    absent : (p : Place) → lookup (same p) (marks_of m ds is a) ≡ None → (wants ds is p ≡ false) × (is_some (at m p) ≡ false)
    absent p h = absent_by (wants ds is p) (is_answered ds a p) (is_complete_at ds p) (is_some (at m p)) (sym (mark_is m ds is a p) ∙ h)

    nothing : (o : Option Rattle.zr_told_spec.specs.declared.entry.Entry.Entry) → is_some o ≡ false → option_map (λ e. e.complete) o ≡ None
    nothing None h = refl
    nothing (Some e) h = absurd (true≢false h)

-- an interest in what is declared now is told all that it wants
pub once_is : (ds : List Decl) (i : Interest) → Ascends (marks_of [] ds (i ∷ []) None) → marked_fresh [] (marks_of [] ds (i ∷ []) None) ≡ wanted ds (i ∷ [])
once_is ds i u =
    fresh_marked (λ p. false) (is_complete_at ds) (wanted ds (i ∷ [])) [] (marks_of [] ds (i ∷ []) None) (wanted_by ds (i ∷ [])) (marks_right [] ds (i ∷ []) None) (wanted_ascends ds (i ∷ [])) (nothing_ascends Entry) u
    ∙ every (wanted ds (i ∷ []))

pub once_if : (ds : List Decl) (i : Interest) (m : ToldMap) (ms : Marks) → m ≡ [] → ms ≡ marks_of [] ds (i ∷ []) None → Ascends ms →
    {X E : Type 0} (items : X → Wanted) (r : Result X E) → IfOk r (λ x. items x ≡ marked_fresh m ms) → IfOk r (λ x. items x ≡ wanted ds (i ∷ []))
once_if ds i m ms n e u items (Ok x) h = h ∙ (λ j. marked_fresh (n j) (e j)) ∙ once_is ds i (subst (λ z. Ascends z) e u)
once_if ds i m ms n e u items (Err y) h = tt
