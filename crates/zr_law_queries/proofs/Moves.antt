-- Each move of a query keeps its stages sound.
use Rattle.std.proofs.Common.{◌≡◌, ◌&&◌, ◌||◌, Bool, true, false, cond, List, [], ◌∷◌, ◌++◌, refl, sym, ap, ◌∙◌, inl, inr}
use Rattle.std.specs.Prelude.{◌⊎◌}
use Rattle.std.specs.List.{list_all}
use Rattle.std.proofs.lemmas.Bool.{false≢true, and_parts}
use Rattle.zr_law_queries.specs.Query.{Tree, IsTree, Stage, NotYet, OnTheWay, Here, Over, has, is_child, at_first, is_not_yet, is_over, is_done, replies_at, fits, all_over, Sound, with_one, is_empty, goes_nowhere, passed_on, closes, MayBegin, Move, Begin, Say, End, Pass, Close, after}
use Rattle.zr_law_queries.specs.Courses.{MovesKeepSound}
use Rattle.zr_law_queries.proofs.Trees.{all_on, Goes, goes_sound}

-- where a request is kept doesn't matter to the node above, nor what waits of it to those below
fits_here : {R : Type 0} (u : Stage R) (rs os : List R) (b c : Bool) → fits u (Here rs b) ≡ fits u (Here os c)
fits_here NotYet rs os b c = refl
fits_here OnTheWay rs os b c = refl
fits_here (Here xs false) rs os b c = refl
fits_here (Here xs true) rs os b c = refl
fits_here Over rs os b c = refl

here_fits : {R : Type 0} (rs os : List R) (b : Bool) (u : Stage R) → fits (Here rs b) u ≡ fits (Here os b) u
here_fits rs os false u = refl
here_fits rs os true u = refl

pub open_above : {R : Type 0} (u : Stage R) (rs : List R) (b : Bool) → fits u (Here rs b) ≡ true → u ≡ Here (replies_at u) false
open_above NotYet rs b h = absurd (false≢true h)
open_above OnTheWay rs b h = absurd (false≢true h)
open_above (Here xs false) rs b h = refl
open_above (Here xs true) rs b h = absurd (false≢true h)
open_above Over rs b h = absurd (false≢true h)

-- who gets a request had it on the way, so the node above is open
on_way_above : {R : Type 0} (u : Stage R) (rs : List R) (b : Bool) → fits u OnTheWay ≡ true → fits u (Here rs b) ≡ true
on_way_above NotYet rs b h = absurd (false≢true h)
on_way_above OnTheWay rs b h = absurd (false≢true h)
on_way_above (Here xs false) rs b h = refl
on_way_above (Here xs true) rs b h = absurd (false≢true h)
on_way_above Over rs b h = absurd (false≢true h)

pub is_not_yet_is : {R : Type 0} (u : Stage R) → is_not_yet u ≡ true → u ≡ NotYet
is_not_yet_is NotYet h = refl
is_not_yet_is OnTheWay h = absurd (false≢true h)
is_not_yet_is (Here xs b) h = absurd (false≢true h)
is_not_yet_is Over h = absurd (false≢true h)

-- whoever has not sent the final may have children to which the request is on its way
opened : (R : Type 0) (b : Bool) → b ≡ false → fits {R = R} (Here [] b) OnTheWay ≡ true
opened R true e = sym e
opened R false e = refl

module _ {N R : Type 0} (t : Tree N) (is : IsTree t) (s : N → Stage R) where
  over_member : (ys : List N) (y : N) → all_over s ys ≡ true → has t ys y ≡ true → is_over (s y) ≡ true
  over_member [] y h k = absurd (false≢true k)
  over_member (z ∷ zs) y h k = by (t.same z y) refl (over_member zs y (and_parts (is_over (s z)) (all_over s zs) h).1) k
    where
      by : (b : Bool) → t.same z y ≡ b → (has t zs y ≡ true → is_over (s y) ≡ true) → (b || has t zs y) ≡ true → is_over (s y) ≡ true
      by true e ih k = ap (λ j. is_over (s j)) (sym (is.decides z y e)) ∙ (and_parts (is_over (s z)) (all_over s zs) h).0
      by false e ih k = ih k

-- who has a child has not none
none_below : {N : Type 0} (t : Tree N) (ys : List N) (y : N) → has t ys y ≡ true → is_empty ys ≡ false
none_below t [] y k = absurd (false≢true k)
none_below t (z ∷ zs) y k = refl

-- of none all are over
none_over : {N : Type 0} (ys : List N) → is_empty ys ≡ list_all (λ z. false) ys
none_over [] = refl
none_over (z ∷ zs) = refl

module _ {N R : Type 0} (t : Tree N) (is : IsTree t) (s : N → Stage R) (h : Sound t s) where
  pub passes_above : (x y : N) → is_child t x y ≡ true → t.passes x ≡ true
  passes_above x y k = by (t.passes x) refl
    where
      by : (b : Bool) → t.passes x ≡ b → b ≡ true
      by true e = refl
      by false e = absurd (false≢true (sym (ap (λ ys. has t ys y) (is.leaf x e)) ∙ k))

  -- a node changes and those below it stay
  alone : (x : N) (rs os : List R) (b : Bool) → t.passes x ≡ false → s x ≡ Here os false → Goes t s x (Here rs b) s
  alone x rs os b leaf was = record {
    above = λ a k. fits_here (s a) rs os b false ∙ ap (fits (s a)) (sym was) ∙ h.fit a x k;
    own = λ y k. absurd (false≢true (sym leaf ∙ passes_above x y k));
    below = λ y k. absurd (false≢true (sym leaf ∙ passes_above x y k));
    inside = h.inside x (ap is_not_yet was);
    level = ap is_over (sym was);
    row = λ p. absurd (false≢true (sym leaf ∙ p));
    rows = λ y k. absurd (false≢true (sym leaf ∙ passes_above x y k));
  }

  begin_goes : (x : N) → MayBegin t s x → Goes t s x (Here [] (goes_nowhere t x)) (λ y. OnTheWay)
  begin_goes x was = record {
    above = λ a k. by_above a k was;
    own = λ y k. opened R (goes_nowhere t x) (ap (λ b. t.passes x && b) (none_below t (t.children x) y k) ∙ and_false (t.passes x));
    below = λ y k z l. ap (λ u. fits u (s z)) (sym (is_not_yet_is (s y) (by_own y k was))) ∙ h.fit y z l;
    inside = by_inside was;
    level = by_level was;
    row = λ p rs b e. ap is_done (sym e) ∙ ap (λ c. c && is_empty (t.children x)) p ∙ none_over (t.children x);
    rows = λ y k rs b e. cc;
  }
    where
      and_false : (b : Bool) → (b && false) ≡ false
      and_false true = refl
      and_false false = refl

      by_above : (a : N) → is_child t a x ≡ true → MayBegin t s x → fits (s a) (Here [] (goes_nowhere t x)) ≡ true
      by_above a k (inl e) = on_way_above (s a) [] (goes_nowhere t x) (ap (fits (s a)) (sym e) ∙ h.fit a x k)
      by_above a k (inr (e, f)) = absurd (false≢true (sym (is.top a) ∙ ap (is_child t a) (sym e) ∙ k))

      by_own : (y : N) → is_child t x y ≡ true → MayBegin t s x → is_not_yet (s y) ≡ true
      by_own y k (inl e) = ap (λ u. fits u (s y)) (sym e) ∙ h.fit x y k
      by_own y k (inr (e, f)) = ap (λ u. fits u (s y)) (sym f) ∙ h.fit x y k

      by_inside : MayBegin t s x → (x ≡ t.root) ⊎ (is_child t (t.parent x) x ≡ true)
      by_inside (inl e) = h.inside x (ap is_not_yet e)
      by_inside (inr (e, f)) = inl e

      by_level : MayBegin t s x → false ≡ is_over (s x)
      by_level (inl e) = ap is_over (sym e)
      by_level (inr (e, f)) = ap is_over (sym f)

  pub open_is : (x y : N) (rs : List R) (b : Bool) → is_child t x y ≡ true → s y ≡ Here rs b → s x ≡ Here (replies_at (s x)) false
  open_is x y rs b k was = open_above (s x) rs b (ap (fits (s x)) (sym was) ∙ h.fit x y k)

  pass_goes : (x y : N) (line : R) (rs : List R) (done : Bool) → is_child t x y ≡ true → s y ≡ Here (line ∷ rs) done →
      Goes t s x (Here (replies_at (s x) ++ passed_on t x line) false) (with_one t s y (Here rs done))
  pass_goes x y line rs done kid was = record {
    above = λ a k. fits_here (s a) (replies_at (s x) ++ passed_on t x line) (replies_at (s x)) false false ∙ ap (fits (s a)) (sym up) ∙ h.fit a x k;
    own = λ z k. by_own z k (t.same y z) refl;
    below = λ z k j l. by_below z k j l (t.same y z) refl;
    inside = h.inside x (ap is_not_yet up);
    level = ap is_over (sym up);
    row = λ p os b e. ap is_done (sym e) ∙ h.row x p (replies_at (s x)) false up ∙ all_on t is (λ z. is_over (s z)) (λ z. is_over (with_one t s y (Here rs done) z)) (t.children x) (λ z k. by_over z (t.same y z) refl);
    rows = λ z k os b e. by_rows z os b (t.same y z) refl e;
  }
    where
      up : s x ≡ Here (replies_at (s x)) false
      up = open_is x y (line ∷ rs) done kid was

      by_own : (z : N) → is_child t x z ≡ true → (b : Bool) → t.same y z ≡ b → fits (Here (replies_at (s x) ++ passed_on t x line) false) (cond b (Here rs done) (s z)) ≡ true
      by_own z k true e = refl
      by_own z k false e = ap (λ u. fits u (s z)) (sym up) ∙ h.fit x z k

      by_below : (z : N) → is_child t x z ≡ true → (j : N) → is_child t z j ≡ true → (b : Bool) → t.same y z ≡ b → fits (cond b (Here rs done) (s z)) (s j) ≡ true
      by_below z k j l true e = here_fits rs (line ∷ rs) done (s j) ∙ ap (λ u. fits u (s j)) (sym was ∙ ap s (is.decides y z e)) ∙ h.fit z j l
      by_below z k j l false e = h.fit z j l

      by_over : (z : N) (b : Bool) → t.same y z ≡ b → is_over (s z) ≡ is_over (cond b (Here rs done) (s z))
      by_over z true e = ap is_over (ap s (sym (is.decides y z e)) ∙ was)
      by_over z false e = refl

      by_rows : (z : N) (os : List R) (c : Bool) (b : Bool) → t.same y z ≡ b → cond b (Here rs done) (s z) ≡ Here os c → (old : List R) × (s z ≡ Here old c)
      by_rows z os c true e f = (line ∷ rs, ap s (sym (is.decides y z e)) ∙ was ∙ ap (λ d. Here (line ∷ rs) d) (ap is_done f))
      by_rows z os c false e f = (os, f)

  close_goes : (x y : N) (out : List R) → is_child t x y ≡ true → s y ≡ Here [] true →
      Goes t s x (Here (replies_at (s x) ++ out) (all_over (with_one t s y Over) (t.children x))) (with_one t s y Over)
  close_goes x y out kid was = record {
    above = λ a k. fits_here (s a) (replies_at (s x) ++ out) (replies_at (s x)) (all_over f (t.children x)) false ∙ ap (fits (s a)) (sym up) ∙ h.fit a x k;
    own = λ z k. by_own z k (all_over f (t.children x)) refl (t.same y z) refl;
    below = λ z k j l. by_below z k j l (t.same y z) refl;
    inside = h.inside x (ap is_not_yet up);
    level = ap is_over (sym up);
    row = λ p os b e. ap is_done (sym e);
    rows = λ z k os b e. by_rows z os b (t.same y z) refl e;
  }
    where
      f : N → Stage R
      f = with_one t s y Over

      up : s x ≡ Here (replies_at (s x)) false
      up = open_is x y [] true kid was

      by_own : (z : N) → is_child t x z ≡ true → (d : Bool) → all_over f (t.children x) ≡ d → (b : Bool) → t.same y z ≡ b → fits (Here (replies_at (s x) ++ out) d) (cond b Over (s z)) ≡ true
      by_own z k true all b e = ap (λ c. is_over (cond c Over (s z))) (sym e) ∙ over_member t is f (t.children x) z all k
      by_own z k false all true e = refl
      by_own z k false all false e = ap (λ u. fits u (s z)) (sym up) ∙ h.fit x z k

      by_below : (z : N) → is_child t x z ≡ true → (j : N) → is_child t z j ≡ true → (b : Bool) → t.same y z ≡ b → fits (cond b Over (s z)) (s j) ≡ true
      by_below z k j l true e = ap (λ u. fits u (s j)) (sym was ∙ ap s (is.decides y z e)) ∙ h.fit z j l
      by_below z k j l false e = h.fit z j l

      by_rows : (z : N) (os : List R) (c : Bool) (b : Bool) → t.same y z ≡ b → cond b Over (s z) ≡ Here os c → (old : List R) × (s z ≡ Here old c)
      by_rows z os c true e i = cc
      by_rows z os c false e i = (os, i)

  pub move_sound : (m : Move t s) → Sound t (after t s m)
  move_sound (Begin x was) = goes_sound t is s x (Here [] (goes_nowhere t x)) (λ y. OnTheWay) h (begin_goes x was)
  move_sound (Say d line rs leaf was) = goes_sound t is s d (Here (rs ++ line ∷ []) false) s h (alone d (rs ++ line ∷ []) rs false leaf was)
  move_sound (End d rs leaf was) = goes_sound t is s d (Here rs true) s h (alone d rs rs true leaf was)
  move_sound (Pass x y line rs done kid was) = goes_sound t is s x (Here (replies_at (s x) ++ passed_on t x line) false) (with_one t s y (Here rs done)) h (pass_goes x y line rs done kid was)
  move_sound (Close x y out kid was) = goes_sound t is s x (Here (replies_at (s x) ++ out) (closes t s x y)) (with_one t s y Over) h (close_goes x y out kid was)

pub start_sound : {N R : Type 0} (t : Tree N) → Sound t (at_first {R = R})
start_sound t = record { fit = λ x y k. refl; row = λ x p rs done e. cc; inside = λ x n. cc }

pub law : (N R : Type 0) → MovesKeepSound N R
law N R = record { start = start_sound; moves = λ t s is h m. move_sound t is s h m }
