-- What changed declarations may touch is marked right.
use Rattle.std.proofs.Common.{◌≡◌, ◌&&◌, ◌||◌, Bool, true, false, cond, List, [], ◌∷◌, refl, sym, ap, ◌∙◌}
use Rattle.std.specs.declared.option.Option.TheVariants.{None, Some}
use Rattle.std.specs.List.{list_any, fold}
use Rattle.std.specs.Option.{is_some}
use Rattle.std.specs.Map.{lookup}
use Rattle.std.proofs.lemmas.Bool.{false≢true}
use Rattle.std.proofs.lemmas.Option.{none-some, same_Some}
use Rattle.std.proofs.Math.Bool.{or-false, or_assoc}
use Rattle.zr_msg.specs.declared.decl.Decl.{Decl}
use Rattle.zr_told_spec.specs.Place.{same}
use Rattle.zr_told_spec.specs.Wanted.{fits, told_as, is_complete_at}
use Rattle.zr_told_spec.specs.Rows.{touches}
use Rattle.zr_told.specs.Plan.{Marks, put_mark, mark_at, mark_here, mark_fitting, marks_at}
use Rattle.zr_told.specs.Laws.{TouchedIsRight}
use Rattle.zr_told.specs.declared.mark.Mark.{Mark}
use Rattle.zr_local.specs.declared.interest.Interest.{Interest}
use Rattle.zr_told_spec.specs.declared.place.Place.{Place}
use Rattle.zr_told_spec.proofs.Places.{same_is, at_put}
use Rattle.zr_told_spec.proofs.Wants.{wanted_in}
use Rattle.zr_told_spec.proofs.Touching.{hits}

-- just these places have a mark, and it is right
abbrev AreMarked : List Decl → List Interest → (Place → Bool) → Marks → Type 0
AreMarked ds is t ms = (p : Place) → lookup (same p) ms ≡ cond (t p) (Some (mark_at ds is p)) None

marked_here : (ds : List Decl) (is : List Interest) (t : Place → Bool) (ms : Marks) (q : Place) → AreMarked ds is t ms → AreMarked ds is (λ p. t p || same p q) (mark_here ds is ms q)
marked_here ds is t ms q a = by (t q) refl
  where
    some_mark : (b : Bool) → is_some (cond b (Some (mark_at ds is q)) None) ≡ b
    some_mark true = refl
    some_mark false = refl

    both : (p : Place) (x s : Bool) → same p q ≡ s → t q ≡ true → t p ≡ x → cond x (Some (mark_at ds is p)) None ≡ cond (x || s) (Some (mark_at ds is p)) None
    both p true s e u f = refl
    both p false true e u f = absurd (false≢true (sym f ∙ ap t (same_is p q e) ∙ u))
    both p false false e u f = refl

    put : (p : Place) (s x : Bool) → same p q ≡ s → cond s (Some (mark_at ds is q)) (cond x (Some (mark_at ds is p)) None) ≡ cond (x || s) (Some (mark_at ds is p)) None
    put p true true e = ap (λ z. Some (mark_at ds is z)) (sym (same_is p q e))
    put p true false e = ap (λ z. Some (mark_at ds is z)) (sym (same_is p q e))
    put p false true e = refl
    put p false false e = refl

    by : (b : Bool) → t q ≡ b → AreMarked ds is (λ p. t p || same p q) (mark_here ds is ms q)
    by true u = λ p.
        let k : is_some (lookup (same q) ms) ≡ true = ap is_some (a q) ∙ some_mark (t q) ∙ u in
        ap (λ z. lookup (same p) (cond z ms (put_mark (mark_at ds is q) ms q))) k ∙ a p ∙ both p (t p) (same p q) refl u refl
    by false u = λ p.
        let k : is_some (lookup (same q) ms) ≡ false = ap is_some (a q) ∙ some_mark (t q) ∙ u in
        ap (λ z. lookup (same p) (cond z ms (put_mark (mark_at ds is q) ms q))) k
        ∙ at_put ms q (mark_at ds is q) p
        ∙ ap (λ z. cond (same p q) (Some (mark_at ds is q)) z) (a p)
        ∙ put p (same p q) (t p) refl

-- places may be named by another test that gives the same
renamed : (ds : List Decl) (is : List Interest) (t u : Place → Bool) (ms : Marks) → AreMarked ds is t ms → ((p : Place) → t p ≡ u p) → AreMarked ds is u ms
renamed ds is t u ms a e = λ p. a p ∙ ap (λ z. cond z (Some (mark_at ds is p)) None) (e p)

marked_fitting : (ds : List Decl) (is : List Interest) (t : Place → Bool) (q : Place) (ms : Marks) (i : Interest) → AreMarked ds is t ms → AreMarked ds is (λ p. t p || hits i q p) (mark_fitting ds is q ms i)
marked_fitting ds is t q ms i a = by (fits i q)
  where
    by : (f : Bool) → AreMarked ds is (λ p. t p || (f && (same p q || same p (told_as i q)))) (cond f (mark_here ds is (mark_here ds is ms q) (told_as i q)) ms)
    by true =
        renamed ds is (λ p. (t p || same p q) || same p (told_as i q)) (λ p. t p || (same p q || same p (told_as i q))) (mark_here ds is (mark_here ds is ms q) (told_as i q))
        (marked_here ds is (λ p. t p || same p q) (mark_here ds is ms q) (told_as i q) (marked_here ds is t ms q a)) (λ p. or_assoc (t p) (same p q) (same p (told_as i q)))
    by false = renamed ds is t (λ p. t p || false) ms a (λ p. sym (or-false (t p)))

marked_one : (ds : List Decl) (is js : List Interest) (t : Place → Bool) (q : Place) (ms : Marks) → AreMarked ds is t ms → AreMarked ds is (λ p. t p || touches js q p) (fold (mark_fitting ds is q) ms js)
marked_one ds is [] t q ms a = renamed ds is t (λ p. t p || false) ms a (λ p. sym (or-false (t p)))
marked_one ds is (i ∷ js) t q ms a =
    renamed ds is (λ p. (t p || hits i q p) || touches js q p) (λ p. t p || touches (i ∷ js) q p) (fold (mark_fitting ds is q) ms (i ∷ js))
    (marked_one ds is js (λ p. t p || hits i q p) q (mark_fitting ds is q ms i) (marked_fitting ds is t q ms i a))
    (λ p. or_assoc (t p) (hits i q p) (touches js q p))

marked_all : (ds : List Decl) (is : List Interest) (t : Place → Bool) (qs : List Place) (ms : Marks) → AreMarked ds is t ms →
    AreMarked ds is (λ p. t p || list_any (λ q. touches is q p) qs) (fold (λ n q. fold (mark_fitting ds is q) n is) ms qs)
marked_all ds is t [] ms a = renamed ds is t (λ p. t p || false) ms a (λ p. sym (or-false (t p)))
marked_all ds is t (q ∷ qs) ms a =
    renamed ds is (λ p. (t p || touches is q p) || list_any (λ q. touches is q p) qs) (λ p. t p || list_any (λ q. touches is q p) (q ∷ qs)) (fold (λ n q. fold (mark_fitting ds is q) n is) ms (q ∷ qs))
    (marked_all ds is (λ p. t p || touches is q p) qs (fold (mark_fitting ds is q) ms is) (marked_one ds is is t q ms a))
    (λ p. or_assoc (t p) (touches is q p) (list_any (λ q. touches is q p) qs))

pub touched_is_right : TouchedIsRight
touched_is_right qs ds is m w = record {
  wanted = λ p v h. ap (λ z. z.wanted) (sym (here p v h)) ∙ sym (wanted_in ds is p);
  complete_is = λ p v h t. ap (λ z. z.complete) (sym (here p v h));
  again_is = λ p v h t. ap (λ z. z.again) (sym (here p v h));
  elsewhere = λ p h. w p (there p h) ∙ ap (λ z. cond z (Some (is_complete_at ds p)) None) (sym (wanted_in ds is p));
  again_elsewhere = λ p h i. refl;
}
  where
    found : (p : Place) → lookup (same p) (marks_at ds is qs) ≡ cond (list_any (λ q. touches is q p) qs) (Some (mark_at ds is p)) None
    found = marked_all ds is (λ p. false) qs [] (λ p. refl)

    here_by : (b : Bool) (u v : Mark) → cond b (Some u) None ≡ Some v → u ≡ v
    here_by true u v h = same_Some u v h
    here_by false u v h = absurd (none-some v h)

    there_by : (b : Bool) (u : Mark) → cond b (Some u) None ≡ None → b ≡ false
    there_by true u h = absurd (none-some u (sym h))
    there_by false u h = refl

    here : (p : Place) (v : Mark) → lookup (same p) (marks_at ds is qs) ≡ Some v → mark_at ds is p ≡ v
    here p v h = here_by (list_any (λ q. touches is q p) qs) (mark_at ds is p) v (sym (found p) ∙ h)

    there : (p : Place) → lookup (same p) (marks_at ds is qs) ≡ None → list_any (λ q. touches is q p) qs ≡ false
    there p h = there_by (list_any (λ q. touches is q p) qs) (mark_at ds is p) (sym (found p) ∙ h)
