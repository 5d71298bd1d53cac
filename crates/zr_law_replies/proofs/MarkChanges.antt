-- What changes of single hops keep: that each node's stage is that of the hop above it, and that no other hop is the query's (`foreign_marks`).
use Rattle.std.proofs.Common.{◌≡◌, ℕ, ◌==◌, ◌&&◌, Bool, true, false, cond, List, Some, refl, sym, ap, ◌∙◌}
use Rattle.std.proofs.lemmas.Bool.{eqb-true, eq-eqb, false≢true, true≢false, and_parts, and_from}
use Rattle.zr_id.specs.Zid.{is_named}
use Rattle.zr_world_spec.proofs.Names.{names, same_name}
use Rattle.zr_law_queries.specs.Link.{Asked as AskedHop}
use Rattle.zr_law_queries.specs.Query.{Tree, IsTree, Stage, NotYet, OnTheWay, Here, Over, is_child, with_one}
use Rattle.zr_law_queries.proofs.Trees.{same_of, no_loop}
use Rattle.zr_law_numbers.specs.Waiting as waiting
use Rattle.zr_law_numbers.specs.Waiting.{Place, Said}
use Rattle.zr_law_replies.specs.Answers.{HopState}
use Rattle.zr_law_replies.specs.Stands.{is_of, is_live, place, asked_at, Shown, Marks, numbered, with_all}

-- one link, and one number of it
abbrev pub is_hop : List ℕ → List ℕ → ℕ → List ℕ → List ℕ → ℕ → Bool
is_hop x y n a b k = is_named x a && (is_named y b && n == k)

pub hop_is : (x y : List ℕ) (n : ℕ) (a b : List ℕ) (k : ℕ) → is_hop x y n a b k ≡ true → (x ≡ a) × (y ≡ b) × (n ≡ k)
hop_is x y n a b k e =
    let all = and_parts (is_named x a) (is_named y b && n == k) e in
    let parts = and_parts (is_named y b) (n == k) all.1 in
    (same_name x a all.0, same_name y b parts.0, eqb-true n k parts.1)

pub is_hop_of : (x y : List ℕ) (n : ℕ) (a b : List ℕ) (k : ℕ) → x ≡ a → y ≡ b → n ≡ k → is_hop x y n a b k ≡ true
is_hop_of x y n a b k ea eb en =
    and_from (is_named x a) (is_named y b && n == k) (ap (is_named x) (sym ea) ∙ names.refl x)
    (and_from (is_named y b) (n == k) (ap (is_named y) (sym eb) ∙ names.refl y) (eq-eqb n k en))

module _ (t : Tree (List ℕ)) (is : IsTree t) (request : List ℕ → waiting.Asked) (line : ℕ) (line_is : (y : List ℕ) → (request y).line ≡ line) (whole : List ℕ → List ℕ → Bool)
    (kids_whole : (x y : List ℕ) → is_child t x y ≡ true → whole x y ≡ true) (num : List ℕ → ℕ) (stage : List ℕ → Stage Said) (hop : List ℕ → List ℕ → ℕ → HopState) where
  -- a request of the query
  own_line : (y : List ℕ) → ((request y).line == line) ≡ true
  own_line y = eq-eqb (request y).line line (line_is y)

  -- a hop that shows a stage that is live is the query's
  pub live_is : (y : List ℕ) (from : Place) (u : Stage Said) (h : HopState) → is_live u ≡ true → Shown (request y) from u h → is_of line h ≡ true
  live_is y from NotYet h live sh = absurd (false≢true live)
  live_is y from OnTheWay h live sh = ap (is_of line) sh ∙ own_line y
  live_is y from (Here rs done) h live sh = ap (is_of line) sh ∙ own_line y
  live_is y from Over h live sh = absurd (false≢true live)

  -- a stage that isn't live is shown by any hop
  pub dead_shown : (request : waiting.Asked) (from : Place) (u : Stage Said) (h : HopState) → is_live u ≡ false → Shown request from u h
  dead_shown request from NotYet h dead = tt
  dead_shown request from OnTheWay h dead = absurd (true≢false dead)
  dead_shown request from (Here rs done) h dead = absurd (true≢false dead)
  dead_shown request from Over h dead = tt

  module _ (hop' : List ℕ → List ℕ → ℕ → HopState) (m : Marks t request line whole num stage hop) where
    -- a hop of the query is shown alike where it stays
    still_shown : (x y : List ℕ) → is_child t x y ≡ true → (is_live (stage y) ≡ true → hop' x y (num y) ≡ hop x y (num y)) → Shown (request y) (asked_at t num x) (stage y) (hop' x y (num y))
    still_shown x y kid same = by (is_live (stage y)) refl
      where
        by : (b : Bool) → is_live (stage y) ≡ b → Shown (request y) (asked_at t num x) (stage y) (hop' x y (num y))
        by true e = rw (same e) (m.shown x y kid)
        by false e = dead_shown (request y) (asked_at t num x) (stage y) (hop' x y (num y)) e

    -- hops of other queries change
    pub foreign_marks : ((a b : List ℕ) (k : ℕ) → whole a b ≡ true → is_of line (hop a b k) ≡ true → hop' a b k ≡ hop a b k) →
        ((a b : List ℕ) (k : ℕ) → whole a b ≡ true → is_of line (hop a b k) ≡ false → is_of line (hop' a b k) ≡ false) → Marks t request line whole num stage hop'
    foreign_marks own other = record {
      shown = λ x y kid. still_shown x y kid (λ live. own x y (num y) (kids_whole x y kid) (live_is y (asked_at t num x) (stage y) (hop x y (num y)) live (m.shown x y kid)));
      mine = λ a b k there o. mine_at a b k there (is_of line (hop a b k)) refl o;
    }
      where
        mine_at : (a b : List ℕ) (k : ℕ) → whole a b ≡ true → (c : Bool) → is_of line (hop a b k) ≡ c → is_of line (hop' a b k) ≡ true → (is_child t a b ≡ true) × (k ≡ num b) × (is_live (stage b) ≡ true)
        mine_at a b k there true e o = m.mine a b k there e
        mine_at a b k there false e o = absurd (false≢true (sym (other a b k there e) ∙ o))

    module _ (x y : List ℕ) (kid : is_child t x y ≡ true)
        (elsewhere : (a b : List ℕ) (k : ℕ) → whole a b ≡ true → is_hop x y (num y) a b k ≡ false → hop' a b k ≡ hop a b k) where
      -- the hop above another node stays
      apart : (a b : List ℕ) → t.same y b ≡ false → is_child t a b ≡ true → hop' a b (num b) ≡ hop a b (num b)
      apart a b other k = elsewhere a b (num b) (kids_whole a b k) (by (is_hop x y (num y) a b (num b)) refl)
        where
          by : (c : Bool) → is_hop x y (num y) a b (num b) ≡ c → c ≡ false
          by false e = refl
          by true e = absurd (false≢true (sym other ∙ same_of t is y b (hop_is x y (num y) a b (num b) e).1))

      above : (a b : List ℕ) → t.same y b ≡ true → is_child t a b ≡ true → (x ≡ a) × (y ≡ b)
      above a b same k = let yb = is.decides y b same in (sym (is.parent x y kid) ∙ ap t.parent yb ∙ is.parent a b k, yb)

      marks_by : (v : Stage Said) → Shown (request y) (asked_at t num x) v (hop' x y (num y)) → (is_of line (hop' x y (num y)) ≡ true → is_live v ≡ true) → Marks t request line whole num (with_one t stage y v) hop'
      marks_by v shows live = record {
        shown = λ a b k. shown_at a b k (t.same y b) refl;
        mine = λ a b n there o. mine_at a b n there o (is_hop x y (num y) a b n) refl (t.same y b) refl;
      }
        where
          shown_at : (a b : List ℕ) → is_child t a b ≡ true → (c : Bool) → t.same y b ≡ c → Shown (request b) (asked_at t num a) (cond c v (stage b)) (hop' a b (num b))
          shown_at a b k false e = rw (apart a b e k) (m.shown a b k)
          shown_at a b k true e = let one = above a b e k in rw (← one.0, ← one.1) shows

          mine_at : (a b : List ℕ) (n : ℕ) → whole a b ≡ true → is_of line (hop' a b n) ≡ true → (c : Bool) → is_hop x y (num y) a b n ≡ c → (d : Bool) → t.same y b ≡ d →
              (is_child t a b ≡ true) × (n ≡ num b) × (is_live (cond d v (stage b)) ≡ true)
          mine_at a b n there o true e true f =
              let one = hop_is x y (num y) a b n e in (
                ap (λ z. is_child t z b) (sym one.0) ∙ ap (is_child t x) (sym one.1) ∙ kid,
                sym one.2 ∙ ap num one.1,
                live (ap (λ z. is_of line (hop' z y (num y))) one.0 ∙ ap (λ z. is_of line (hop' a z (num y))) one.1 ∙ ap (λ z. is_of line (hop' a b z)) one.2 ∙ o),
              )
          mine_at a b n there o true e false f = absurd (false≢true (sym f ∙ same_of t is y b (hop_is x y (num y) a b n e).1))
          mine_at a b n there o false e false f = m.mine a b n there (ap (is_of line) (sym (elsewhere a b n there e)) ∙ o)
          mine_at a b n there o false e true f =
              let was = m.mine a b n there (ap (is_of line) (sym (elsewhere a b n there e)) ∙ o) in
              let one = above a b f was.0 in
              absurd (false≢true (sym e ∙ is_hop_of x y (num y) a b n one.0 one.1 (ap num one.1 ∙ sym was.1)))

      -- the query's hop to y goes on
      pub own_goes : (v : Stage Said) → is_live v ≡ true → Shown (request y) (asked_at t num x) v (hop' x y (num y)) → Marks t request line whole num (with_one t stage y v) hop'
      own_goes v live shows = marks_by v shows (λ o. live)

      -- the query's hop to y is over
      pub own_closes : is_of line (hop' x y (num y)) ≡ false → Marks t request line whole num (with_one t stage y Over) hop'
      own_closes gone = marks_by Over tt (λ o. absurd (false≢true (sym gone ∙ o)))

    -- the query's requests go to all children of x
    pub own_asks : (x : List ℕ) (more : List ℕ → ℕ) → ((y : List ℕ) → is_child t x y ≡ true → stage y ≡ NotYet) → ((y z : List ℕ) → is_child t x y ≡ true → is_child t y z ≡ true → stage z ≡ NotYet) →
        ((y : List ℕ) → is_child t x y ≡ true → hop' x y (more y) ≡ AskedHop (request y) (Some (asked_at t num x))) →
        ((a b : List ℕ) (k : ℕ) → whole a b ≡ true → (is_named x a && (is_child t x b && more b == k)) ≡ false → hop' a b k ≡ hop a b k) →
        Marks t request line whole (numbered t num (t.children x) more) (with_all t stage (t.children x) OnTheWay) hop'
    own_asks x more below under asks elsewhere = record {
      shown = λ a b kid. shown_at a b kid (is_child t x b) refl;
      mine = λ a b n there o. mine_at a b n there o (is_named x a) refl (is_child t x b) refl (more b == n) refl;
    }
      where
        num' : List ℕ → ℕ
        num' = numbered t num (t.children x) more

        x_apart : is_child t x x ≡ false
        x_apart = by (is_child t x x) refl
          where
            by : (c : Bool) → is_child t x x ≡ c → c ≡ false
            by false e = refl
            by true e = absurd (no_loop t is x e)

        same_x : (a b : List ℕ) → is_child t x b ≡ true → is_child t a b ≡ true → x ≡ a
        same_x a b k l = sym (is.parent x b k) ∙ is.parent a b l

        -- where the node above is another one
        no_hop : (a b : List ℕ) (n : ℕ) → is_child t x b ≡ false → (is_named x a && (is_child t x b && more b == n)) ≡ false
        no_hop a b n e = ap (λ c. is_named x a && (c && more b == n)) e ∙ none (is_named x a)
          where
            none : (c : Bool) → (c && false) ≡ false
            none true = refl
            none false = refl

        shown_apart : (a b : List ℕ) → is_child t a b ≡ true → hop' a b (num b) ≡ hop a b (num b) → (c : Bool) → is_child t x a ≡ c →
            Shown (request b) (place (t.parent a) (cond c (more a) (num a))) (stage b) (hop' a b (num b))
        shown_apart a b kid same false e = rw same (m.shown a b kid)
        shown_apart a b kid same true e = dead_shown (request b) (place (t.parent a) (more a)) (stage b) (hop' a b (num b)) (ap is_live (under a b e kid))

        shown_at : (a b : List ℕ) → is_child t a b ≡ true → (c : Bool) → is_child t x b ≡ c →
            Shown (request b) (asked_at t num' a) (cond c OnTheWay (stage b)) (hop' a b (cond c (more b) (num b)))
        shown_at a b kid true e =
            let one = same_x a b e kid in
            ap (λ z. hop' z b (more b)) (sym one) ∙ asks b e ∙ ap (λ c. AskedHop (request b) (Some (place (t.parent x) (cond c (more x) (num x))))) (sym x_apart)
            ∙ ap (λ z. AskedHop (request b) (Some (asked_at t num' z))) one
        shown_at a b kid false e = shown_apart a b kid (elsewhere a b (num b) (kids_whole a b kid) (no_hop a b (num b) e)) (is_child t x a) refl

        not_live : (a b : List ℕ) (n : ℕ) → whole a b ≡ true → is_of line (hop' a b n) ≡ true → is_child t x b ≡ true → (is_named x a && (is_child t x b && more b == n)) ≡ false → ⊥
        not_live a b n there o kid e =
            let was = m.mine a b n there (ap (is_of line) (sym (elsewhere a b n there e)) ∙ o) in
            false≢true (sym (ap is_live (below b kid)) ∙ was.2)

        mine_at : (a b : List ℕ) (n : ℕ) → whole a b ≡ true → is_of line (hop' a b n) ≡ true → (c : Bool) → is_named x a ≡ c → (d : Bool) → is_child t x b ≡ d → (f : Bool) → (more b == n) ≡ f →
            (is_child t a b ≡ true) × (n ≡ cond d (more b) (num b)) × (is_live (cond d OnTheWay (stage b)) ≡ true)
        mine_at a b n there o true ec true ed true ef = (ap (λ z. is_child t z b) (sym (same_name x a ec)) ∙ ed, sym (eqb-true (more b) n ef), refl)
        mine_at a b n there o c ec false ed f ef = m.mine a b n there (ap (is_of line) (sym (elsewhere a b n there (no_hop a b n ed))) ∙ o)
        mine_at a b n there o true ec true ed false ef = absurd (not_live a b n there o ed (ap (λ z. is_named x a && (is_child t x b && z)) ef ∙ ap (λ z. z && (is_child t x b && false)) ec ∙ ap (λ z. z && false) ed))
        mine_at a b n there o false ec true ed f ef = absurd (not_live a b n there o ed (ap (λ z. z && (is_child t x b && more b == n)) ec))
