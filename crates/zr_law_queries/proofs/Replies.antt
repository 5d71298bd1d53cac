-- Replies: what a node has sent up is what it has taken from below, along the way of each client that is asked.
use Rattle.std.proofs.Common.{◌≡◌, Bool, true, false, cond, List, [], ◌∷◌, ◌++◌, refl, sym, ap, ◌∙◌, inl, inr, append-nil, append_assoc}
use Rattle.std.specs.Prelude.{◌&&◌, filter}
use Rattle.std.proofs.lemmas.Bool.{false≢true}
use Rattle.std.proofs.lemmas.List.Elements.{filter-append}
use Rattle.zr_law_queries.specs.Query.{Tree, IsTree, Stage, OnTheWay, Here, Over, is_child, at_first, is_not_yet, replies_at, fits, Sound, moved, with_one, goes_nowhere, passed_on, closes, MayBegin, Move, Begin, Say, End, Pass, Close, after, heard_after, got_after, sent_up, Way, IsWay, Brings, said_after, Release, ReleasesIf, Agrees}
use Rattle.zr_law_queries.specs.Courses.{MovesBring}
use Rattle.zr_law_queries.proofs.Trees.{same_of, no_loop, one_parent}
use Rattle.zr_law_queries.proofs.Moves.{passes_above, is_not_yet_is}

none_in : {R : Type 0} (xs : List R) (y : R) (ys : List R) → xs ++ y ∷ ys ≡ [] → ⊥
none_in [] y ys e = cc
none_in (x ∷ xs) y ys e = cc

module _ {N R : Type 0} (t : Tree N) (is : IsTree t) (s : N → Stage R) (h : Sound t s) (heard : N → List R) where
  -- what waits of replies changes at most at these nodes
  replies_moved : (x : N) (v : Stage R) (f : N → Stage R) → ((y : N) → is_child t x y ≡ true → replies_at (f y) ≡ replies_at (s y)) →
      (z : N) → replies_at (moved t s x v f z) ≡ cond (t.same x z) (replies_at v) (replies_at (s z))
  replies_moved x v f same z = by (t.same x z) (is_child t x z) refl
    where
      by : (b c : Bool) → is_child t x z ≡ c → replies_at (cond b v (cond c (f z) (s z))) ≡ cond b (replies_at v) (replies_at (s z))
      by true c e = refl
      by false true e = same z e
      by false false e = refl

  -- nothing is sent
  still : (x : N) (v : Stage R) (f : N → Stage R) → ((y : N) → is_child t x y ≡ true → replies_at (f y) ≡ replies_at (s y)) → replies_at v ≡ replies_at (s x) →
      (z : N) → sent_up (moved t s x v f) heard z ≡ sent_up s heard z
  still x v f same e z = ap (λ r. heard z ++ r) (replies_moved x v f same z ∙ by (t.same x z) refl)
    where
      by : (b : Bool) → t.same x z ≡ b → cond b (replies_at v) (replies_at (s z)) ≡ replies_at (s z)
      by true k = e ∙ ap (λ j. replies_at (s j)) (is.decides x z k)
      by false k = refl

  -- one node sends some more
  sends : (x : N) (more : List R) (b : Bool) (f : N → Stage R) → ((y : N) → is_child t x y ≡ true → replies_at (f y) ≡ replies_at (s y)) →
      (z : N) → sent_up (moved t s x (Here (replies_at (s x) ++ more) b) f) heard z ≡ sent_up s heard z ++ cond (t.same x z) more []
  sends x more b f same z = ap (λ r. heard z ++ r) (replies_moved x (Here (replies_at (s x) ++ more) b) f same z) ∙ by (t.same x z) refl
    where
      by : (c : Bool) → t.same x z ≡ c → heard z ++ cond c (replies_at (s x) ++ more) (replies_at (s z)) ≡ sent_up s heard z ++ cond c more []
      by true k = ap (λ j. heard z ++ (replies_at (s j) ++ more)) (is.decides x z k) ∙ sym (append_assoc (heard z) (replies_at (s z)) more)
      by false k = sym (append-nil (sent_up s heard z))

  -- a node that gathers is on the way, it passes on, and there is one
  module _ (w : Way N R) (on : IsWay t w) (got lines : List R) (g : Brings t w s heard got lines)
      (on_way : (x : N) → t.gathers x ≡ true → w.on x ≡ true) (passing : (x : N) → t.gathers x ≡ true → t.passes x ≡ true) (one : (x y : N) → t.gathers x ≡ true → t.gathers y ≡ true → x ≡ y) where
    -- no node's sent or taken changes
    kept : (s' : N → Stage R) → ((z : N) → sent_up s' heard z ≡ sent_up s heard z) → Brings t w s' heard got lines
    kept s' same = record {
      off = λ z o. ap (filter w.is_own) (same z) ∙ g.off z o;
      along = λ x o n plain. ap (filter w.is_own) (same x) ∙ g.along x o n plain;
      gathered = g.gathered;
      own = ap (filter w.is_own) (same w.replier) ∙ g.own;
    }

    said : (d : N) (line : R) (rs : List R) → t.passes d ≡ false → s d ≡ Here rs false → w.is_own line ≡ (t.same d w.replier) →
        Brings t w (moved t s d (Here (rs ++ line ∷ []) false) s) heard got (lines ++ filter w.is_own (line ∷ []))
    said d line rs leaf was agrees = record {
      off = λ z o. sent z ∙ off_at z o (t.same d z) refl;
      along = λ x o n plain. sent x ∙ way_at x o n plain (t.same d x) refl;
      gathered = g.gathered;
      own = sent w.replier ∙ own_at (t.same d w.replier) refl;
    }
      where
        s' : N → Stage R
        s' = moved t s d (Here (rs ++ line ∷ []) false) s

        sent : (z : N) → filter w.is_own (sent_up s' heard z) ≡ filter w.is_own (sent_up s heard z) ++ filter w.is_own (cond (t.same d z) (line ∷ []) [])
        sent z = ap (filter w.is_own) (ap (λ r. sent_up (moved t s d (Here (r ++ line ∷ []) false) s) heard z) (sym (ap replies_at was)) ∙ sends d (line ∷ []) false s (λ y k. refl) z)
            ∙ filter-append w.is_own (sent_up s heard z) (cond (t.same d z) (line ∷ []) [])

        off_at : (z : N) → w.on z ≡ false → (b : Bool) → t.same d z ≡ b → filter w.is_own (sent_up s heard z) ++ filter w.is_own (cond b (line ∷ []) []) ≡ []
        off_at z o false e = append-nil (filter w.is_own (sent_up s heard z)) ∙ g.off z o
        off_at z o true e = ap (λ c. filter w.is_own (sent_up s heard z) ++ cond c (line ∷ []) []) (agrees ∙ by (t.same d w.replier) refl) ∙ append-nil (filter w.is_own (sent_up s heard z)) ∙ g.off z o
          where
            by : (c : Bool) → t.same d w.replier ≡ c → c ≡ false
            by false i = refl
            by true i = absurd (false≢true (sym o ∙ ap w.on (sym (is.decides d z e) ∙ is.decides d w.replier i) ∙ on.ends))

        way_at : (x : N) → w.on x ≡ true → t.same x w.replier ≡ false → t.gathers x ≡ false → (b : Bool) → t.same d x ≡ b → filter w.is_own (sent_up s heard x) ++ filter w.is_own (cond b (line ∷ []) []) ≡ filter w.is_own (heard (w.next x))
        way_at x o n plain false e = append-nil (filter w.is_own (sent_up s heard x)) ∙ g.along x o n plain
        way_at x o n plain true e = ap (λ c. filter w.is_own (sent_up s heard x) ++ cond c (line ∷ []) []) (agrees ∙ ap (λ z. t.same z w.replier) (is.decides d x e) ∙ n) ∙ append-nil (filter w.is_own (sent_up s heard x)) ∙ g.along x o n plain

        own_at : (b : Bool) → t.same d w.replier ≡ b → filter w.is_own (sent_up s heard w.replier) ++ filter w.is_own (cond b (line ∷ []) []) ≡ lines ++ filter w.is_own (line ∷ [])
        own_at true e = ap (λ z. z ++ filter w.is_own (line ∷ [])) g.own
        own_at false e = ap (λ z. z ++ []) g.own ∙ ap (λ c. lines ++ cond c (line ∷ []) []) (sym (agrees ∙ e))

    passed : (x y : N) (line : R) (rs : List R) (done : Bool) (kid : is_child t x y ≡ true) (was : s y ≡ Here (line ∷ rs) done) →
        Brings t w (moved t s x (Here (replies_at (s x) ++ passed_on t x line) false) (with_one t s y (Here rs done))) (λ z. cond (t.same y z) (heard z ++ line ∷ []) (heard z))
        (cond (t.gathers x) (got ++ line ∷ []) got) lines
    passed x y line rs done kid was = record {
      off = λ z o. ap (filter w.is_own) (gone z) ∙ filter-append w.is_own (sent_up s heard z) (cond (t.same x z) more []) ∙ off_at z o (t.same x z) refl (t.gathers x) refl;
      along = λ a o n plain. ap (filter w.is_own) (gone a) ∙ filter-append w.is_own (sent_up s heard a) (cond (t.same x a) more []) ∙ way_at a o n plain (t.same x a) refl (t.same y (w.next a)) refl;
      gathered = λ a o n held. got_at a o n held (t.gathers x) refl (t.same y (w.next a)) refl;
      own = ap (filter w.is_own) (gone w.replier) ∙ filter-append w.is_own (sent_up s heard w.replier) (cond (t.same x w.replier) more []) ∙ own_at (t.same x w.replier) refl;
    }
      where
        more : List R
        more = passed_on t x line

        heard' : N → List R
        heard' z = cond (t.same y z) (heard z ++ line ∷ []) (heard z)

        s' : N → Stage R
        s' = moved t s x (Here (replies_at (s x) ++ more) false) (with_one t s y (Here rs done))

        -- what sent_up is as before, and at x what is passed on more
        gone : (z : N) → sent_up s' heard' z ≡ sent_up s heard z ++ cond (t.same x z) more []
        gone z = by (t.same x z) refl (is_child t x z) refl (t.same y z) refl
          where
            by : (b : Bool) → t.same x z ≡ b → (c : Bool) → is_child t x z ≡ c → (d : Bool) → t.same y z ≡ d →
                cond d (heard z ++ line ∷ []) (heard z) ++ replies_at (cond b (Here (replies_at (s x) ++ more) false) (cond c (cond d (Here rs done) (s z)) (s z))) ≡ sent_up s heard z ++ cond b more []
            by true eb c ec true ed = absurd (no_loop t is x (ap (is_child t x) (is.decides x z eb ∙ sym (is.decides y z ed)) ∙ kid))
            by true eb c ec false ed = ap (λ j. heard z ++ (replies_at (s j) ++ more)) (is.decides x z eb) ∙ sym (append_assoc (heard z) (replies_at (s z)) more)
            by false eb true ec true ed = append_assoc (heard z) (line ∷ []) rs ∙ ap (λ u. heard z ++ replies_at u) (sym was ∙ ap s (is.decides y z ed)) ∙ sym (append-nil (sent_up s heard z))
            by false eb true ec false ed = sym (append-nil (sent_up s heard z))
            by false eb false ec true ed = absurd (false≢true (sym ec ∙ ap (is_child t x) (sym (is.decides y z ed)) ∙ kid))
            by false eb false ec false ed = sym (append-nil (sent_up s heard z))

        foreign : w.on y ≡ false → w.is_own line ≡ false
        foreign o = by (w.is_own line) refl
          where
            by : (b : Bool) → w.is_own line ≡ b → b ≡ false
            by false e = refl
            by true e = absurd (none_in (filter w.is_own (heard y)) line (filter w.is_own rs)
                (ap (λ b. filter w.is_own (heard y) ++ cond b (line ∷ filter w.is_own rs) (filter w.is_own rs)) (sym e)
                ∙ sym (filter-append w.is_own (heard y) (line ∷ rs)) ∙ ap (λ u. filter w.is_own (heard y ++ replies_at u)) (sym was) ∙ g.off y o))

        off_at : (z : N) → w.on z ≡ false → (b : Bool) → t.same x z ≡ b → (h : Bool) → t.gathers x ≡ h → filter w.is_own (sent_up s heard z) ++ filter w.is_own (cond b (cond h [] (line ∷ [])) []) ≡ []
        off_at z o false e h eh = append-nil (filter w.is_own (sent_up s heard z)) ∙ g.off z o
        off_at z o true e true eh = append-nil (filter w.is_own (sent_up s heard z)) ∙ g.off z o
        off_at z o true e false eh = ap (λ c. filter w.is_own (sent_up s heard z) ++ cond c (line ∷ []) []) (foreign (on.apart x y kid (ap w.on (is.decides x z e) ∙ o))) ∙ append-nil (filter w.is_own (sent_up s heard z)) ∙ g.off z o

        -- who is not the next one of x is off the way
        aside : (a : N) → x ≡ a → t.same y (w.next a) ≡ false → w.is_own line ≡ false
        aside a xa i = foreign (by (w.on y) refl)
          where
            by : (b : Bool) → w.on y ≡ b → w.on y ≡ false
            by false j = j
            by true j = absurd (false≢true (sym i ∙ same_of t is y (w.next a) (sym (on.only a y (ap (λ z. is_child t z y) (sym xa) ∙ kid) j))))

        way_at : (a : N) → w.on a ≡ true → t.same a w.replier ≡ false → t.gathers a ≡ false → (b : Bool) → t.same x a ≡ b → (c : Bool) → (t.same y (w.next a)) ≡ c →
            filter w.is_own (sent_up s heard a) ++ filter w.is_own (cond b more []) ≡ filter w.is_own (cond c (heard (w.next a) ++ line ∷ []) (heard (w.next a)))
        way_at a o n plain true e true i =
            ap (λ b. filter w.is_own (sent_up s heard a) ++ filter w.is_own (cond b [] (line ∷ []))) (ap t.gathers (is.decides x a e) ∙ plain)
            ∙ ap (λ z. z ++ filter w.is_own (line ∷ [])) (g.along a o n plain) ∙ sym (filter-append w.is_own (heard (w.next a)) (line ∷ []))
        way_at a o n plain true e false i =
            ap (λ b. filter w.is_own (sent_up s heard a) ++ filter w.is_own (cond b [] (line ∷ []))) (ap t.gathers (is.decides x a e) ∙ plain)
            ∙ ap (λ c. filter w.is_own (sent_up s heard a) ++ cond c (line ∷ []) []) (aside a (is.decides x a e) i) ∙ append-nil (filter w.is_own (sent_up s heard a)) ∙ g.along a o n plain
        way_at a o n plain false e true i = absurd (false≢true (sym e ∙ same_of t is x a (one_parent t is x a y kid (ap (is_child t a) (is.decides y (w.next a) i) ∙ on.goes a o n))))
        way_at a o n plain false e false i = append-nil (filter w.is_own (sent_up s heard a)) ∙ g.along a o n plain

        got_at : (a : N) → w.on a ≡ true → t.same a w.replier ≡ false → t.gathers a ≡ true → (b : Bool) → t.gathers x ≡ b → (c : Bool) → t.same y (w.next a) ≡ c →
            filter w.is_own (cond b (got ++ line ∷ []) got) ≡ filter w.is_own (cond c (heard (w.next a) ++ line ∷ []) (heard (w.next a)))
        got_at a o n held true e true i =
            filter-append w.is_own got (line ∷ []) ∙ ap (λ z. z ++ filter w.is_own (line ∷ [])) (g.gathered a o n held) ∙ sym (filter-append w.is_own (heard (w.next a)) (line ∷ []))
        got_at a o n held true e false i =
            filter-append w.is_own got (line ∷ []) ∙ ap (λ c. filter w.is_own got ++ cond c (line ∷ []) []) (aside a (one x a e held) i) ∙ append-nil (filter w.is_own got) ∙ g.gathered a o n held
        got_at a o n held false e true i = absurd (false≢true (sym e ∙ ap t.gathers (one_parent t is x a y kid (ap (is_child t a) (is.decides y (w.next a) i) ∙ on.goes a o n)) ∙ held))
        got_at a o n held false e false i = g.gathered a o n held

        own_at : (b : Bool) → t.same x w.replier ≡ b → filter w.is_own (sent_up s heard w.replier) ++ filter w.is_own (cond b more []) ≡ lines
        own_at true e = absurd (false≢true (sym on.leaf ∙ ap t.passes (sym (is.decides x w.replier e)) ∙ passes_above t is s h x y kid))
        own_at false e = append-nil (filter w.is_own (sent_up s heard w.replier)) ∙ g.own

    -- a node that gathers releases some
    released : (x : N) (out : List R) (b : Bool) (f : N → Stage R) → ((y : N) → is_child t x y ≡ true → replies_at (f y) ≡ replies_at (s y)) → t.gathers x ≡ true →
        Brings t w (moved t s x (Here (replies_at (s x) ++ out) b) f) heard got lines
    released x out b f same held = record {
      off = λ z o. elsewhere z (by_off z o (t.same x z) refl) ∙ g.off z o;
      along = λ a o n plain. elsewhere a (by_along a plain (t.same x a) refl) ∙ g.along a o n plain;
      gathered = g.gathered;
      own = elsewhere w.replier (by_own (t.same x w.replier) refl) ∙ g.own;
    }
      where
        elsewhere : (z : N) → t.same x z ≡ false → filter w.is_own (sent_up (moved t s x (Here (replies_at (s x) ++ out) b) f) heard z) ≡ filter w.is_own (sent_up s heard z)
        elsewhere z e = ap (filter w.is_own) (sends x out b f same z ∙ ap (λ c. sent_up s heard z ++ cond c out []) e ∙ append-nil (sent_up s heard z))

        by_off : (z : N) → w.on z ≡ false → (c : Bool) → t.same x z ≡ c → c ≡ false
        by_off z o false e = refl
        by_off z o true e = absurd (false≢true (sym o ∙ ap w.on (sym (is.decides x z e)) ∙ on_way x held))

        by_along : (a : N) → t.gathers a ≡ false → (c : Bool) → t.same x a ≡ c → c ≡ false
        by_along a plain false e = refl
        by_along a plain true e = absurd (false≢true (sym plain ∙ ap t.gathers (sym (is.decides x a e)) ∙ held))

        by_own : (c : Bool) → t.same x w.replier ≡ c → c ≡ false
        by_own false e = refl
        by_own true e = absurd (false≢true (sym on.leaf ∙ ap t.passes (sym (is.decides x w.replier e)) ∙ passing x held))

    pub move_brings : {C : Type 0} (release : Release R C) (m : Move t s) → Agrees release t s m w got → Brings t w (after t s m) (heard_after t s m heard) (got_after t s m got) (said_after t s m w.is_own lines)
    move_brings release (Begin x was) a =
        kept (moved t s x (Here [] (goes_nowhere t x)) (λ y. OnTheWay)) (still x (Here [] (goes_nowhere t x)) (λ y. OnTheWay) (λ y k. ap replies_at (sym (is_not_yet_is (s y) (below y k was)))) (none was))
      where
        below : (y : N) → is_child t x y ≡ true → MayBegin t s x → is_not_yet (s y) ≡ true
        below y k (inl e) = ap (λ u. fits u (s y)) (sym e) ∙ h.fit x y k
        below y k (inr (e, f)) = ap (λ u. fits u (s y)) (sym f) ∙ h.fit x y k

        none : MayBegin t s x → [] ≡ replies_at (s x)
        none (inl e) = sym (ap replies_at e)
        none (inr (e, f)) = sym (ap replies_at f)
    move_brings release (Say d line rs leaf was) a = said d line rs leaf was a
    move_brings release (End d rs leaf was) a = kept (moved t s d (Here rs true) s) (still d (Here rs true) s (λ y k. refl) (sym (ap replies_at was)))
    move_brings release (Pass x y line rs done kid was) a = passed x y line rs done kid was
    move_brings release (Close x y out kid was) a = by (t.gathers x) refl (closes t s x y) refl a
      where
        f : N → Stage R
        f = with_one t s y Over

        same : (z : N) → is_child t x z ≡ true → replies_at (f z) ≡ replies_at (s z)
        same z k = by_same z (t.same y z) refl
          where
            by_same : (z : N) (b : Bool) → t.same y z ≡ b → replies_at (cond b Over (s z)) ≡ replies_at (s z)
            by_same z true e = sym (ap replies_at (ap s (sym (is.decides y z e)) ∙ was))
            by_same z false e = refl

        nothing : out ≡ [] → Brings t w (moved t s x (Here (replies_at (s x) ++ out) (closes t s x y)) f) heard got lines
        nothing e = kept (moved t s x (Here (replies_at (s x) ++ out) (closes t s x y)) f) (still x (Here (replies_at (s x) ++ out) (closes t s x y)) f same (ap (λ z. replies_at (s x) ++ z) e ∙ append-nil (replies_at (s x))))

        by : (b : Bool) → t.gathers x ≡ b → (c : Bool) → closes t s x y ≡ c → ReleasesIf (b && c) release got out → Brings t w (moved t s x (Here (replies_at (s x) ++ out) (closes t s x y)) f) heard got lines
        by true e true d r = released x out (closes t s x y) f same e
        by true e false d r = nothing r
        by false e c d r = nothing r

pub start_brings : {N R : Type 0} (t : Tree N) (w : Way N R) → Brings t w at_first (λ x. []) [] []
start_brings t w = record { off = λ z o. refl; along = λ x o n plain. refl; gathered = λ x o n held. refl; own = refl }

pub law : (N R C : Type 0) → MovesBring N R C
law N R C = record { start = start_brings; moves = λ release t s heard w got said is h on once g m a. move_brings t is s h heard w on got said g once.on once.passes once.one release m a }
