-- What a hop and a row say of a query: a hop that is the query's is that of a node under its number, and shows the node's stage; a branch in the row of
-- a node that is open is that of a child. And what the rows of routers are behind each move (`own_asked`, `own_open`).
use Rattle.std.proofs.Common.{◌≡◌, ℕ, ◌==◌, Bool, true, false, cond, List, [], ◌∷◌, ◌++◌, Option, Some, refl, sym, ap, ◌∙◌}
use Rattle.std.specs.List.{list_any}
use Rattle.std.proofs.lemmas.Bool.{false≢true, true≢false}
use Rattle.zr_law_queries.specs.Link.{Asked as AskedHop, Open}
use Rattle.zr_law_queries.specs.Query.{Tree, IsTree, Stage, NotYet, OnTheWay, Here, Over, has, is_child, is_not_yet, is_over, fits, Sound, with_one, Say, End, after}
use Rattle.zr_law_numbers.specs.Waiting as waiting
use Rattle.zr_law_numbers.specs.Waiting.{Place, Said}
use Rattle.zr_law_replies.specs.Answers.{HopState}
use Rattle.zr_law_replies.specs.Stands.{is_of, is_live, is_open, place, asked_at, Shown, Marks, open_below}
use Rattle.zr_law_replies.proofs.StandRows.{is_place, open_on, in_open}

-- ---- hops of the query

module _ (t : Tree (List ℕ)) (request : List ℕ → waiting.Asked) (line : ℕ) (whole : List ℕ → List ℕ → Bool) (num : List ℕ → ℕ) (stage : List ℕ → Stage Said)
    (hop : List ℕ → List ℕ → ℕ → HopState) (m : Marks t request line whole num stage hop) (x y : List ℕ) (n : ℕ) (there : whole x y ≡ true) where
  -- a request on its way
  pub record IsOnTheWay (r : waiting.Asked) (by : Option Place) : Type 0 where
    pub child : is_child t x y ≡ true
    pub number : n ≡ num y
    pub stage_is : stage y ≡ OnTheWay
    pub request_is : r ≡ request y
    pub by_is : by ≡ Some (asked_at t num x)

  pub own_asked : (r : waiting.Asked) (by : Option Place) → hop x y n ≡ AskedHop r by → (r.line == line) ≡ true → IsOnTheWay r by
  own_asked r by e own = at (stage y) refl (m.shown x y was.0)
    where
      was : (is_child t x y ≡ true) × (n ≡ num y) × (is_live (stage y) ≡ true)
      was = m.mine x y n there (ap (is_of line) e ∙ own)

      same : hop x y (num y) ≡ AskedHop r by
      same = ap (hop x y) (sym was.1) ∙ e

      at : (u : Stage Said) → stage y ≡ u → Shown (request y) (asked_at t num x) u (hop x y (num y)) → IsOnTheWay r by
      at NotYet s shows = absurd (true≢false (sym was.2 ∙ ap is_live s))
      at OnTheWay s shows =
          let both : AskedHop r by ≡ AskedHop (request y) (Some (asked_at t num x)) = sym same ∙ shows in
          record { child = was.0; number = was.1; stage_is = s; request_is = cc; by_is = cc }
      at (Here replies done) s shows = absurd (let both : AskedHop r by ≡ Open (request y) (Some (asked_at t num x)) replies done = sym same ∙ shows in cc)
      at Over s shows = absurd (true≢false (sym was.2 ∙ ap is_live s))

  -- a request that was taken
  pub record IsHere (r : waiting.Asked) (by : Option Place) (replies : List Said) (done : Bool) : Type 0 where
    pub child : is_child t x y ≡ true
    pub number : n ≡ num y
    pub stage_is : stage y ≡ Here replies done
    pub request_is : r ≡ request y
    pub by_is : by ≡ Some (asked_at t num x)

  pub own_open : (r : waiting.Asked) (by : Option Place) (replies : List Said) (done : Bool) → hop x y n ≡ Open r by replies done → (r.line == line) ≡ true → IsHere r by replies done
  own_open r by replies done e own = at (stage y) refl (m.shown x y was.0)
    where
      was : (is_child t x y ≡ true) × (n ≡ num y) × (is_live (stage y) ≡ true)
      was = m.mine x y n there (ap (is_of line) e ∙ own)

      same : hop x y (num y) ≡ Open r by replies done
      same = ap (hop x y) (sym was.1) ∙ e

      at : (u : Stage Said) → stage y ≡ u → Shown (request y) (asked_at t num x) u (hop x y (num y)) → IsHere r by replies done
      at NotYet s shows = absurd (true≢false (sym was.2 ∙ ap is_live s))
      at OnTheWay s shows = absurd (let both : Open r by replies done ≡ AskedHop (request y) (Some (asked_at t num x)) = sym same ∙ shows in cc)
      at (Here rs d) s shows =
          let both : Open r by replies done ≡ Open (request y) (Some (asked_at t num x)) rs d = sym same ∙ shows in
          let replies_are : rs ≡ replies = cc in
          let done_is : d ≡ done = cc in
          record { child = was.0; number = was.1; stage_is = s ∙ (λ i. Here (replies_are i) (done_is i)); request_is = cc; by_is = cc }
      at Over s shows = absurd (true≢false (sym was.2 ∙ ap is_live s))

-- ---- rows

-- the row of each router that is open, by name
abbrev pub RowsShow : Tree (List ℕ) → (List ℕ → ℕ) → (List ℕ → Stage Said) → (List ℕ → Bool) → (List ℕ → Place → List Place) → Type 0
RowsShow t num stage routes row = (x : List ℕ) → routes x ≡ true → is_open (stage x) ≡ true → row x (asked_at t num x) ≡ open_below t num stage x

module _ (t : Tree (List ℕ)) (is : IsTree t) (num : List ℕ → ℕ) (stage : List ℕ → Stage Said) (sound : Sound t stage) where
  open_fits : (u v : Stage Said) → is_open u ≡ true → fits u v ≡ true → is_not_yet v ≡ false
  open_fits NotYet v o f = absurd (false≢true o)
  open_fits OnTheWay v o f = absurd (false≢true o)
  open_fits (Here rs true) v o f = absurd (false≢true o)
  open_fits (Here rs false) NotYet o f = absurd (false≢true f)
  open_fits (Here rs false) OnTheWay o f = refl
  open_fits (Here rs false) (Here os d) o f = refl
  open_fits (Here rs false) Over o f = refl
  open_fits Over v o f = absurd (false≢true o)

  pub live_of : (v : Stage Said) → is_not_yet v ≡ false → is_over v ≡ false → is_live v ≡ true
  live_of NotYet n o = absurd (true≢false n)
  live_of OnTheWay n o = refl
  live_of (Here rs done) n o = refl
  live_of Over n o = absurd (true≢false o)

  -- a branch in the row of a node that is open is the query's
  pub in_own_row : (routes : List ℕ → Bool) (row : List ℕ → Place → List Place) → RowsShow t num stage routes row → (x y : List ℕ) (n : ℕ) → routes x ≡ true → is_open (stage x) ≡ true →
      list_any (λ b. is_place (place y n) b) (row x (asked_at t num x)) ≡ true → (is_child t x y ≡ true) × (n ≡ num y) × (is_live (stage y) ≡ true)
  in_own_row routes row rows x y n there o among =
      let got = in_open t is num stage x y n (ap (list_any (λ b. is_place (place y n) b)) (sym (rows x there o)) ∙ among) in
      (got.0, got.2, live_of (stage y) (open_fits (stage x) (stage y) o (sound.fit x y got.0)) got.1)

  -- where no node opens and none is over then that wasn't
  pub rows_still : (stage' : List ℕ → Stage Said) (routes : List ℕ → Bool) (row row' : List ℕ → Place → List Place) →
      ((x : List ℕ) → routes x ≡ true → is_open (stage' x) ≡ true → is_open (stage x) ≡ true) → ((x : List ℕ) → is_over (stage x) ≡ is_over (stage' x)) →
      ((x : List ℕ) → routes x ≡ true → is_open (stage' x) ≡ true → row' x (asked_at t num x) ≡ row x (asked_at t num x)) → RowsShow t num stage routes row → RowsShow t num stage' routes row'
  rows_still stage' routes row row' opens overs same rows x there o = same x there o ∙ rows x there (opens x there o) ∙ open_on t is num stage stage' x (λ y k. overs y)

  -- one node's stage changes, of those that have the request
  pub one_over : (x : List ℕ) (v : Stage Said) → is_over (stage x) ≡ is_over v → (z : List ℕ) → is_over (stage z) ≡ is_over (with_one t stage x v z)
  one_over x v o z = by (t.same x z) refl
    where
      by : (c : Bool) → t.same x z ≡ c → is_over (stage z) ≡ is_over (cond c v (stage z))
      by true e = ap (λ j. is_over (stage j)) (sym (is.decides x z e)) ∙ o
      by false e = refl

  pub one_open : (x : List ℕ) (v : Stage Said) → (is_open v ≡ true → is_open (stage x) ≡ true) → (z : List ℕ) → is_open (with_one t stage x v z) ≡ true → is_open (stage z) ≡ true
  one_open x v o z = by (t.same x z) refl
    where
      by : (c : Bool) → t.same x z ≡ c → is_open (cond c v (stage z)) ≡ true → is_open (stage z) ≡ true
      by true e k = ap (λ j. is_open (stage j)) (sym (is.decides x z e)) ∙ o k
      by false e k = k

  -- rows stay where a client says something, and where a reply is passed on
  pub say_rows : (routes : List ℕ → Bool) (row : List ℕ → Place → List Place) (x : List ℕ) (reply : Said) (replies : List Said) (leaf : t.passes x ≡ false) (here : stage x ≡ Here replies false) →
      RowsShow t num stage routes row → RowsShow t num (after t stage (Say x reply replies leaf here)) routes row
  say_rows routes row x reply replies leaf here rows =
      rows_still (after t stage (Say x reply replies leaf here)) routes row row (λ z there o. opens z (ap (λ u. is_open u) (same z) ∙ o)) (λ z. overs z ∙ ap is_over (same z)) (λ z there o. refl) rows
    where
      v : Stage Said
      v = Here (replies ++ reply ∷ []) false

      same : (z : List ℕ) → with_one t stage x v z ≡ after t stage (Say x reply replies leaf here) z
      same z = ap (λ ys. cond (t.same x z) v (cond (has t ys z) (stage z) (stage z))) (sym (is.leaf x leaf))

      opens : (z : List ℕ) → is_open (with_one t stage x v z) ≡ true → is_open (stage z) ≡ true
      opens z o = one_open x v (λ k. ap is_open here) z o

      overs : (z : List ℕ) → is_over (stage z) ≡ is_over (with_one t stage x v z)
      overs z = one_over x v (ap is_over here) z

  pub end_rows : (routes : List ℕ → Bool) (row : List ℕ → Place → List Place) (x : List ℕ) (replies : List Said) (leaf : t.passes x ≡ false) (here : stage x ≡ Here replies false) →
      RowsShow t num stage routes row → RowsShow t num (after t stage (End x replies leaf here)) routes row
  end_rows routes row x replies leaf here rows =
      rows_still (after t stage (End x replies leaf here)) routes row row (λ z there o. opens z (ap (λ u. is_open u) (same z) ∙ o)) (λ z. overs z ∙ ap is_over (same z)) (λ z there o. refl) rows
    where
      same : (z : List ℕ) → with_one t stage x (Here replies true) z ≡ after t stage (End x replies leaf here) z
      same z = ap (λ ys. cond (t.same x z) (Here replies true) (cond (has t ys z) (stage z) (stage z))) (sym (is.leaf x leaf))

      opens : (z : List ℕ) → is_open (with_one t stage x (Here replies true) z) ≡ true → is_open (stage z) ≡ true
      opens z o = one_open x (Here replies true) (λ k. absurd (false≢true k)) z o

      overs : (z : List ℕ) → is_over (stage z) ≡ is_over (with_one t stage x (Here replies true) z)
      overs z = one_over x (Here replies true) (ap is_over here) z
