-- Whose an answer is that a router handles: a branch in a row of the query's is the query's, and so is one that is pending for a hop of the query's. So an
-- answer of another query is told to who asked another query, and changes no hop of this one (`answer_apart`).
use Rattle.std.proofs.Common.{◌≡◌, ℕ, Bool, true, false, cond, List, [], Option, Some, None, ◌⊎◌, inl, inr, is_some, refl, sym, ap, ◌∙◌, subst}
use Rattle.std.specs.List.{list_any}
use Rattle.std.specs.Option.{option_map_or}
use Rattle.std.proofs.lemmas.Bool.{false≢true, true≢false, false_from_ne_true, eq-eqb}
use Rattle.std.proofs.lemmas.Option.{none-some}
use Rattle.zr_id.specs.Zid.{is_named}
use Rattle.zr_world_spec.specs.World.{RouterState, WorldState, router_of}
use Rattle.zr_world_spec.specs.Moments.{Numbered, Moment}
use Rattle.zr_law_settled.proofs.Goes.{Goes}
use Rattle.zr_guarantee.specs.Queries.{Asked}
use Rattle.zr_law_queries.specs.Link.{Free, Asked as AskedHop, Open}
use Rattle.zr_law_queries.specs.Query.{Tree, IsTree, Stage, Here as AtNode, is_child, is_not_yet, moved, NotYet, OnTheWay, Over}
use Rattle.zr_law_queries.proofs.Hops.{kept_is}
use Rattle.zr_law_numbers.specs.Waiting.{Place, Said, is_kept_by, back_at, link_of, is_whole}
use Rattle.zr_law_numbers.proofs.Waits.{router_back}
use Rattle.zr_law_numbers.proofs.Whole.{router_alone, whole_apart}
use Rattle.zr_law_replies.specs.Answers.{HopState}
use Rattle.zr_law_replies.specs.Trees.{has_router, tree_at}
use Rattle.zr_law_replies.specs.Stands.{is_of, is_open, place, asked_at, Shown, Marks, request_to, row_places}
use Rattle.zr_law_replies.proofs.Keeps.{asker_keeps}
use Rattle.zr_law_replies.proofs.ShownHops.{plain}
use Rattle.zr_law_replies.proofs.MarkChanges.{is_hop, hop_is, live_is, foreign_marks}
use Rattle.zr_law_replies.proofs.StandRows.{is_place}
use Rattle.zr_law_replies.proofs.StandOwn.{own_open, RowsShow, in_own_row}
use Rattle.zr_law_replies.proofs.StandBranches.{branch_in_row}
use Rattle.zr_law_replies.proofs.StandSteps.{Hops}
use Rattle.zr_law_replies.proofs.StandStep.{request_of, Begins, Here}
use Rattle.zr_law_replies.proofs.StandHere.{still_whole, still_router, row_at, kids, asker_apart}
use Rattle.zr_law_replies.proofs.HandleHeard.{rows_show}
use Rattle.zr_law_replies.proofs.AnswerHops.{AnswerGoes}

-- a plain hop is of the same query
pub plain_is_of : (w : WorldState) (q : Asked) (y : List ℕ) (line : ℕ) (h : HopState) → is_of line (plain (request_of w q y) h) ≡ is_of line h
plain_is_of w q y line Free = refl
plain_is_of w q y line (AskedHop r by) = refl
plain_is_of w q y line (Open r by rs done) = refl

module _ (before : List Numbered) (mark : ℕ) (start : Moment) (q : Asked) (b : Begins before mark start q) (phase acts : List Numbered) (m : Moment) (here : Here start.world phase q acts m) where
  abbrev w : WorldState
  w = start.world

  abbrev t : Tree (List ℕ)
  t = tree_at w q

  is : IsTree t
  is = b.tree.is_tree

  abbrev num : List ℕ → ℕ
  num = here.stands.num

  abbrev stage : List ℕ → Stage Said
  stage = here.stands.stage

  abbrev g : Goes m.world
  g = here.holds.go.0

  -- the rows of the routers that have the request
  pub rows : RowsShow t num stage (has_router w) (row_at m.world)
  rows = rows_show w m.world here.stands.still q num stage here.stands.rows

  module _ (a : List ℕ) (r : RouterState) (found : router_of m.world.routers a ≡ Some r) where
    routes : has_router w a ≡ true
    routes = sym (still_router w m.world here.stands.still a) ∙ ap is_some found

    no_root : is_named a q.client ≡ false
    no_root = by (is_named a q.client) refl
      where
        by : (c : Bool) → is_named a q.client ≡ c → c ≡ false
        by false e = refl
        by true e = absurd (false≢true (sym (asker_apart before mark start q b phase acts m here) ∙ ap (has_router w) (sym (is.decides a q.client e)) ∙ routes))

    -- a router is not the root, so it has the request from its parent
    pub below_parent : is_not_yet (stage a) ≡ false → is_child t (t.parent a) a ≡ true
    below_parent e = by (here.stands.sound.inside a e)
      where
        by : (a ≡ t.root) ⊎ (is_child t (t.parent a) a ≡ true) → is_child t (t.parent a) a ≡ true
        by (inl root) = absurd (true≢false (sym (is.itself a) ∙ ap (is_named a) root ∙ no_root))
        by (inr kid) = kid

    -- by a hop that shows its stage
    pub parent_hop : (replies : List Said) → stage a ≡ AtNode replies false → here.hop (t.parent a) a (num a) ≡ Open (request_to w q a) (Some (asked_at t num (t.parent a))) replies false
    parent_hop replies e = subst (λ u. Shown (request_to w q a) (asked_at t num (t.parent a)) u (here.hop (t.parent a) a (num a))) e
        (here.stands.marks.shown (t.parent a) a (below_parent (ap is_not_yet e)))

    -- that hop is another one than those of other places
    pub parent_apart : (x y : List ℕ) (n : ℕ) (p : Place) → Some p ≡ Some (asked_at t num a) → (a ≡ t.root) ⊎ (is_hop (t.parent a) a (num a) x y n ≡ false) → is_hop p.name a p.number x y n ≡ false
    parent_apart x y n p e (inl root) = absurd (true≢false (sym (is.itself a) ∙ ap (is_named a) root ∙ no_root))
    parent_apart x y n p e (inr other) = let one : p ≡ asked_at t num a = cc in ap (λ (z : Place). is_hop z.name a z.number x y n) one ∙ other

    -- what happens below a router leaves the stage of the client that asks
    pub root_stays : (v : Stage Said) (f : List ℕ → Stage Said) → moved t stage a v f q.client ≡ stage q.client
    root_stays v f = ap (λ c. cond c v (cond (is_child t a q.client) (f q.client) (stage q.client))) no_root ∙ ap (λ c. cond c (f q.client) (stage q.client)) (is.top a)

    -- a branch in the row of who asked it the query is the query's
    pub row_own : (y : List ℕ) (n : ℕ) → is_open (stage a) ≡ true → list_any (λ c. is_place (place y n) c) (row_at m.world a (asked_at t num a)) ≡ true → is_of q.line (here.hop a y n) ≡ true
    row_own y n o among =
        let got = in_own_row t is num stage here.stands.sound (has_router w) (row_at m.world) rows a y n routes o among in
        ap (λ i. is_of q.line (here.hop a y i)) got.1
        ∙ live_is t is (request_to w q) q.line (λ z. refl) (is_whole w) (kids before mark start q b) num stage here.hop y (asked_at t num a) (stage y) (here.hop a y (num y)) got.2 (here.stands.marks.shown a y got.0)

    -- and so is one that is pending for a hop of the query's
    pub branch_own : (y : List ℕ) (n : ℕ) (p : Place) → back_at m.world a y n ≡ Some (Some p) → is_whole w p.name a ≡ true → is_of q.line (here.hop p.name a p.number) ≡ true → is_of q.line (here.hop a y n) ≡ true
    branch_own y n p back whole own =
        let there : is_whole m.world p.name a ≡ true = still_whole w m.world here.stands.still p.name a ∙ whole in
        let kept : is_kept_by m.world p.name a p.number ≡ true = asker_keeps m.world g.sound g.orderly a y n p (whole_apart m.world g.sound p.name a there) back in
        let kept_hop = kept_is (link_of m.world p.name a) (here.hop p.name a) (here.plain.shows p.name a there) p.number kept in
        let asks = own_open t (request_to w q) q.line (is_whole w) num stage here.hop here.stands.marks p.name a p.number whole kept_hop.0 kept_hop.1 kept_hop.2 false kept_hop.3
        (sym (ap (is_of q.line) kept_hop.3) ∙ own) in
        let place_is : asked_at t num a ≡ p = (λ i. place (is.parent p.name a asks.child i) (sym asks.number i)) in
        row_own y n (ap is_open asks.stage_is)
        (ap (λ o. list_any (λ c. is_place (place y n) c) (option_map_or (λ (z : RouterState). row_places z (asked_at t num a)) o [])) found
        ∙ ap (λ z. list_any (λ c. is_place (place y n) c) (row_places r z)) place_is
        ∙ branch_in_row r (g.sound.unique a r found) (here.holds.go.1.1.tables a r found).sound.askers y n p
        (sym (router_back m.world a y r found (router_alone m.world g.orderly a r found) n) ∙ back))

    -- whoever asked for the query here, what it asked is the query's
    pub place_own : (y : List ℕ) (n : ℕ) (by : Option Place) → back_at m.world a y n ≡ Some by → is_open (stage a) ≡ true → by ≡ Some (asked_at t num a) → is_of q.line (here.hop a y n) ≡ true
    place_own y n by back o its = at (stage a) refl o
      where
        at : (u : Stage Said) → stage a ≡ u → is_open u ≡ true → is_of q.line (here.hop a y n) ≡ true
        at NotYet e k = absurd (false≢true k)
        at OnTheWay e k = absurd (false≢true k)
        at (AtNode rs true) e k = absurd (false≢true k)
        at (AtNode rs false) e k =
            let below : is_child t (t.parent a) a ≡ true = below_parent (ap is_not_yet e) in
            branch_own y n (asked_at t num a) (back ∙ ap (λ z. Some z) its) (kids before mark start q b (t.parent a) a below) (ap (is_of q.line) (parent_hop rs e) ∙ eq-eqb q.line q.line refl)
        at Over e k = absurd (false≢true k)

    -- ---- an answer of another query

    module _ (from : List ℕ) (id : ℕ) (by : Option Place) (pending : back_at m.world a from id ≡ Some by) (to : Option Place) (its : (p : Place) → to ≡ Some p → by ≡ Some p) (heard told : HopState → HopState)
        (heard_apart : (h : HopState) → is_of q.line h ≡ false → is_of q.line (heard h) ≡ false) (told_apart : (h : HopState) → is_of q.line h ≡ false → is_of q.line (told h) ≡ false)
        (hop' : Hops) (goes : AnswerGoes w q here.hop hop' a from id to heard told) (other : is_of q.line (here.hop a from id) ≡ false) where
      above_apart : (p : Place) → to ≡ Some p → is_whole w p.name a ≡ true → is_of q.line (here.hop p.name a p.number) ≡ false
      above_apart p e whole = false_from_ne_true (is_of q.line (here.hop p.name a p.number)) (λ own.
          false≢true (sym other ∙ branch_own from id p (pending ∙ ap (λ z. Some z) (its p e)) whole own))

      -- the query's hops are others than those that change
      stays : (x y : List ℕ) (n : ℕ) → is_whole w x y ≡ true → is_of q.line (here.hop x y n) ≡ true → hop' x y n ≡ here.hop x y n
      stays x y n whole o = goes.elsewhere x y n whole
          (false_from_ne_true (is_hop a from id x y n) (λ e.
          let i = hop_is a from id x y n e in
          false≢true (sym other ∙ (λ j. is_of q.line (here.hop (i.0 j) (i.1 j) (i.2 j))) ∙ o)))
          (λ p f. false_from_ne_true (is_hop p.name a p.number x y n) (λ e.
          let i = hop_is p.name a p.number x y n e in
          false≢true (sym (above_apart p f ((λ j. is_whole w (i.0 j) (i.1 j)) ∙ whole)) ∙ (λ j. is_of q.line (here.hop (i.0 j) (i.1 j) (i.2 j))) ∙ o)))

      -- and those that change are of others still
      others : (x y : List ℕ) (n : ℕ) → is_whole w x y ≡ true → is_of q.line (here.hop x y n) ≡ false → is_of q.line (hop' x y n) ≡ false
      others x y n whole o = at (is_hop a from id x y n) refl
        where
          asked : (p : Place) → to ≡ Some p → is_hop a from id x y n ≡ false → (c : Bool) → is_hop p.name a p.number x y n ≡ c → is_of q.line (hop' x y n) ≡ false
          asked p f e true c =
              let i = hop_is p.name a p.number x y n c in
              let there : is_whole w p.name a ≡ true = (λ j. is_whole w (i.0 j) (i.1 j)) ∙ whole in
              sym (λ j. is_of q.line (hop' (i.0 j) (i.1 j) (i.2 j))) ∙ ap (is_of q.line) (goes.there p f there) ∙ plain_is_of w q a q.line (told (here.hop p.name a p.number))
              ∙ told_apart (here.hop p.name a p.number) (above_apart p f there)
          asked p f e false c = ap (is_of q.line) (goes.elsewhere x y n whole e (λ z d.
              let both : Some p ≡ Some z = sym f ∙ d in
              let one : p ≡ z = cc in
              ap (λ (v : Place). is_hop v.name a v.number x y n) (sym one) ∙ c)) ∙ o

          by_place : is_hop a from id x y n ≡ false → (p : Option Place) → to ≡ p → is_of q.line (hop' x y n) ≡ false
          by_place e None f = ap (is_of q.line) (goes.elsewhere x y n whole e (λ z d. absurd (none-some z (sym f ∙ d)))) ∙ o
          by_place e (Some p) f = asked p f e (is_hop p.name a p.number x y n) refl

          at : (c : Bool) → is_hop a from id x y n ≡ c → is_of q.line (hop' x y n) ≡ false
          at true e =
              let i = hop_is a from id x y n e in
              sym (λ j. is_of q.line (hop' (i.0 j) (i.1 j) (i.2 j))) ∙ ap (is_of q.line) (goes.here ((λ j. is_whole w (i.0 j) (i.1 j)) ∙ whole)) ∙ plain_is_of w q from q.line (heard (here.hop a from id))
              ∙ heard_apart (here.hop a from id) other
          at false e = by_place e to refl

      pub answer_apart : Marks t (request_to w q) q.line (is_whole w) num stage hop'
      answer_apart = foreign_marks t is (request_to w q) q.line (λ z. refl) (is_whole w) (kids before mark start q b) num stage here.hop hop' here.stands.marks stays others
