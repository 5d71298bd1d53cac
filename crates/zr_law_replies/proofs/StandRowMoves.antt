-- The rows of routers behind the moves by which a node hears of a child, and by which a request begins at a node (`pass_rows`, `close_rows`, `begin_rows`).
use Rattle.std.proofs.Common.{◌≡◌, ℕ, Bool, true, false, cond, List, [], ◌∷◌, ◌++◌, inl, inr, refl, sym, ap, ◌∙◌}
use Rattle.std.specs.Prelude.{not, map, filter}
use Rattle.std.proofs.lemmas.Bool.{false≢true}
use Rattle.zr_law_queries.specs.Query.{Tree, IsTree, Stage, OnTheWay, Here, Over, has, is_child, is_over, replies_at, goes_nowhere, passed_on, closes, Sound, moved, with_one, MayBegin, Begin, Pass, Close, after}
use Rattle.zr_law_queries.proofs.Trees.{has_head, has_tail, same_of, no_loop, one_parent}
use Rattle.zr_law_queries.proofs.Moves.{open_is}
use Rattle.zr_law_numbers.specs.Waiting.{Place, Said}
use Rattle.zr_law_replies.specs.Stands.{is_open, place, asked_at, open_below, numbered}
use Rattle.zr_law_replies.proofs.StandRows.{without, open_on, open_numbers, without_open}
use Rattle.zr_law_replies.proofs.StandOwn.{RowsShow, rows_still, one_over, one_open}

module _ (t : Tree (List ℕ)) (is : IsTree t) (num : List ℕ → ℕ) (stage : List ℕ → Stage Said) (sound : Sound t stage) where
  -- who is no child of itself
  kid_apart : (x y : List ℕ) → is_child t x y ≡ true → t.same x y ≡ false
  kid_apart x y kid = by (t.same x y) refl
    where
      by : (c : Bool) → t.same x y ≡ c → c ≡ false
      by false e = refl
      by true e = absurd (no_loop t is x (ap (is_child t x) (is.decides x y e) ∙ kid))

  -- what is read of a node's stage, and of its children's, once they changed
  module _ (x : List ℕ) (v : Stage Said) (f : List ℕ → Stage Said) where
    moved_over : is_over (stage x) ≡ is_over v → ((z : List ℕ) → is_over (stage z) ≡ is_over (f z)) → (z : List ℕ) → is_over (stage z) ≡ is_over (moved t stage x v f z)
    moved_over o below z = by (t.same x z) refl (is_child t x z)
      where
        by : (a : Bool) → t.same x z ≡ a → (b : Bool) → is_over (stage z) ≡ is_over (cond a v (cond b (f z) (stage z)))
        by true e b = ap (λ j. is_over (stage j)) (sym (is.decides x z e)) ∙ o
        by false e true = below z
        by false e false = refl

    moved_open : (is_open v ≡ true → is_open (stage x) ≡ true) → ((z : List ℕ) → is_child t x z ≡ true → is_open (f z) ≡ true → is_open (stage z) ≡ true) → (z : List ℕ) → is_open (moved t stage x v f z) ≡ true →
        is_open (stage z) ≡ true
    moved_open o below z = by (t.same x z) refl (is_child t x z) refl
      where
        by : (a : Bool) → t.same x z ≡ a → (b : Bool) → is_child t x z ≡ b → is_open (cond a v (cond b (f z) (stage z))) ≡ true → is_open (stage z) ≡ true
        by true e b eb k = ap (λ j. is_open (stage j)) (sym (is.decides x z e)) ∙ o k
        by false e true eb k = below z eb k
        by false e false eb k = k

  module _ (x y : List ℕ) (child : is_child t x y ≡ true) (routes : List ℕ → Bool) (row row' : List ℕ → Place → List Place) (rows : RowsShow t num stage routes row) where
    pub pass_rows : (reply : Said) (replies : List Said) (done : Bool) (here : stage y ≡ Here (reply ∷ replies) done) →
        ((z : List ℕ) → routes z ≡ true → is_open (stage z) ≡ true → row' z (asked_at t num z) ≡ row z (asked_at t num z)) →
        RowsShow t num (after t stage (Pass x y reply replies done child here)) routes row'
    pass_rows reply replies done here same =
        rows_still t is num stage sound (after t stage (Pass x y reply replies done child here)) routes row row' (λ z there o. opens z o)
        (moved_over x (Here (replies_at (stage x) ++ passed_on t x reply) false) (with_one t stage y (Here replies done)) (ap is_over at_x) (one_over t is num stage sound y (Here replies done) (ap is_over here)))
        (λ z there o. same z there (opens z o)) rows
      where
        at_x : stage x ≡ Here (replies_at (stage x)) false
        at_x = open_is t is stage sound x y (reply ∷ replies) done child here

        opens : (z : List ℕ) → is_open (after t stage (Pass x y reply replies done child here) z) ≡ true → is_open (stage z) ≡ true
        opens z o = moved_open x (Here (replies_at (stage x) ++ passed_on t x reply) false) (with_one t stage y (Here replies done)) (λ k. ap is_open at_x)
            (λ z kid k. one_open t is num stage sound y (Here replies done) (λ l. ap is_open here ∙ l) z k) z o

    pub close_rows : (released : List Said) (here : stage y ≡ Here [] true) → (routes x ≡ true → row' x (asked_at t num x) ≡ without (place y (num y)) (row x (asked_at t num x))) →
        ((z : List ℕ) → routes z ≡ true → is_open (stage z) ≡ true → t.same x z ≡ false → row' z (asked_at t num z) ≡ row z (asked_at t num z)) →
        RowsShow t num (after t stage (Close x y released child here)) routes row'
    close_rows released here own same z there o = by (t.same x z) refl
      where
        v : Stage Said
        v = Here (replies_at (stage x) ++ released) (closes t stage x y)

        at_x : stage x ≡ Here (replies_at (stage x)) false
        at_x = open_is t is stage sound x y [] true child here

        was_open : is_open (stage z) ≡ true
        was_open = moved_open x v (with_one t stage y Over) (λ k. ap is_open at_x) (λ z kid k. one_open t is num stage sound y Over (λ l. absurd (false≢true l)) z k) z o

        below_x : (w : List ℕ) → is_child t x w ≡ true → is_over (with_one t stage y Over w) ≡ is_over (after t stage (Close x y released child here) w)
        below_x w kid = sym (ap (λ c. is_over (cond c v (cond (is_child t x w) (with_one t stage y Over w) (stage w)))) (kid_apart x w kid) ∙ ap (λ c. is_over (cond c (with_one t stage y Over w) (stage w))) kid)

        below_other : (w : List ℕ) → t.same x z ≡ false → is_child t z w ≡ true → is_over (stage w) ≡ is_over (after t stage (Close x y released child here) w)
        below_other w other kid = at (t.same x w) refl (is_child t x w) refl
          where
            at : (a : Bool) → t.same x w ≡ a → (b : Bool) → is_child t x w ≡ b → is_over (stage w) ≡ is_over (cond a v (cond b (with_one t stage y Over w) (stage w)))
            at true e b eb = ap (λ j. is_over (stage j)) (sym (is.decides x w e)) ∙ ap is_over at_x
            at false e true eb = absurd (false≢true (sym other ∙ same_of t is x z (one_parent t is x z w eb kid)))
            at false e false eb = refl

        by : (c : Bool) → t.same x z ≡ c → row' z (asked_at t num z) ≡ open_below t num (after t stage (Close x y released child here)) z
        by true e = rw (← is.decides x z e) (at_own (ap routes (is.decides x z e) ∙ there))
          where
            at_own : routes x ≡ true → row' x (asked_at t num x) ≡ open_below t num (after t stage (Close x y released child here)) x
            at_own r = own r ∙ ap (without (place y (num y))) (rows x r (ap is_open at_x)) ∙ without_open t is num stage x y
                ∙ open_on t is num (with_one t stage y Over) (after t stage (Close x y released child here)) x below_x
        by false e = same z there was_open e ∙ rows z there was_open ∙ open_on t is num stage (after t stage (Close x y released child here)) z (λ w kid. below_other w e kid)

  -- ---- a request begins

  all_open : (num' : List ℕ → ℕ) (stage' : List ℕ → Stage Said) (more : List ℕ → ℕ) (ys : List (List ℕ)) → ((y : List ℕ) → has t ys y ≡ true → (is_over (stage' y) ≡ false) × (num' y ≡ more y)) →
      map (λ y. place y (more y)) ys ≡ map (λ y. place y (num' y)) (filter (λ y. not (is_over (stage' y))) ys)
  all_open num' stage' more [] f = refl
  all_open num' stage' more (y ∷ ys) f =
      ap (λ z. place y (more y) ∷ z) (all_open num' stage' more ys (λ z h. f z (has_tail t is y z ys h)))
      ∙ ap (λ n. place y n ∷ map (λ y. place y (num' y)) (filter (λ y. not (is_over (stage' y))) ys)) (sym (f y (has_head t is y ys)).1)
      ∙ ap (λ b. map (λ y. place y (num' y)) (cond (not b) (y ∷ filter (λ y. not (is_over (stage' y))) ys) (filter (λ y. not (is_over (stage' y))) ys))) (sym (f y (has_head t is y ys)).0)

  pub begin_rows : (x : List ℕ) (may : MayBegin t stage x) (more : List ℕ → ℕ) (routes : List ℕ → Bool) (row row' : List ℕ → Place → List Place) → RowsShow t num stage routes row →
      (routes x ≡ true → goes_nowhere t x ≡ false → row' x (asked_at t num x) ≡ map (λ y. place y (more y)) (t.children x)) →
      ((z : List ℕ) → routes z ≡ true → is_open (stage z) ≡ true → t.same x z ≡ false → row' z (asked_at t num z) ≡ row z (asked_at t num z)) →
      RowsShow t (numbered t num (t.children x) more) (after t stage (Begin x may)) routes row'
  begin_rows x may more routes row row' rows own same z there o = by (t.same x z) refl
    where
      v : Stage Said
      v = Here [] (goes_nowhere t x)

      num' : List ℕ → ℕ
      num' = numbered t num (t.children x) more

      stage' : List ℕ → Stage Said
      stage' = after t stage (Begin x may)

      x_not_over : is_over (stage x) ≡ false
      x_not_over = at may
        where
          at : MayBegin t stage x → is_over (stage x) ≡ false
          at (inl e) = ap is_over e
          at (inr e) = ap is_over e.1

      no_kid : (a : List ℕ) → is_child t x a ≡ false → num' a ≡ num a
      no_kid a e = ap (λ c. cond c (more a) (num a)) e

      x_no_kid : is_child t x x ≡ false
      x_no_kid = at (is_child t x x) refl
        where
          at : (c : Bool) → is_child t x x ≡ c → c ≡ false
          at false e = refl
          at true e = absurd (no_loop t is x e)

      kid_stage : (y : List ℕ) → is_child t x y ≡ true → stage' y ≡ OnTheWay
      kid_stage y kid = ap (λ c. cond c v (cond (is_child t x y) OnTheWay (stage y))) (kid_apart x y kid) ∙ ap (λ c. cond c OnTheWay (stage y)) kid

      by : (c : Bool) → t.same x z ≡ c → row' z (asked_at t num' z) ≡ open_below t num' stage' z
      by true e = rw (← is.decides x z e) (at_own (ap routes (is.decides x z e) ∙ there) (ap (λ j. is_open (stage' j)) (is.decides x z e) ∙ o))
        where
          nowhere : (b : Bool) → not b ≡ true → b ≡ false
          nowhere true k = absurd (false≢true k)
          nowhere false k = refl

          at_own : routes x ≡ true → is_open (stage' x) ≡ true → row' x (asked_at t num' x) ≡ open_below t num' stage' x
          at_own r k =
              ap (λ n. row' x (place (t.parent x) n)) (no_kid x x_no_kid)
              ∙ own r (nowhere (goes_nowhere t x) (sym (ap (λ c. is_open (cond c v (cond (is_child t x x) OnTheWay (stage x)))) (is.itself x)) ∙ k))
              ∙ all_open num' stage' more (t.children x) (λ y kid. (ap is_over (kid_stage y kid), ap (λ c. cond c (more y) (num y)) kid))
      by false e = apart (is_child t x z) refl
        where
          apart : (b : Bool) → is_child t x z ≡ b → row' z (asked_at t num' z) ≡ open_below t num' stage' z
          apart true k = absurd (false≢true (sym (ap is_open (kid_stage z k)) ∙ o))
          apart false k =
              ap (λ n. row' z (place (t.parent z) n)) (no_kid z k) ∙ same z there was_open e ∙ rows z there was_open
              ∙ open_on t is num stage stage' z below ∙ open_numbers t is num num' stage' z (λ w kid. sym (no_kid w (other_kid w kid)))
            where
              was_open : is_open (stage z) ≡ true
              was_open = sym (ap (λ c. is_open (cond c v (cond (is_child t x z) OnTheWay (stage z)))) e ∙ ap (λ c. is_open (cond c OnTheWay (stage z))) k) ∙ o

              other_kid : (w : List ℕ) → is_child t z w ≡ true → is_child t x w ≡ false
              other_kid w kid = at (is_child t x w) refl
                where
                  at : (c : Bool) → is_child t x w ≡ c → c ≡ false
                  at false f = refl
                  at true f = absurd (false≢true (sym e ∙ same_of t is x z (one_parent t is x z w f kid)))

              below : (w : List ℕ) → is_child t z w ≡ true → is_over (stage w) ≡ is_over (stage' w)
              below w kid = at (t.same x w) refl
                where
                  at : (c : Bool) → t.same x w ≡ c → is_over (stage w) ≡ is_over (cond c v (cond (is_child t x w) OnTheWay (stage w)))
                  at true f = ap (λ j. is_over (stage j)) (sym (is.decides x w f)) ∙ x_not_over
                  at false f = ap (λ c. is_over (cond c OnTheWay (stage w))) (sym (other_kid w kid))
