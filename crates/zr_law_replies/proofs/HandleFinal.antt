-- A router handles a final (`final_stands`): its branch ends, and where it was the last one of its row the final goes on to who asked. Where it is the
-- query's that is the move by which the router closes the branch.
use Rattle.std.proofs.Common.{◌≡◌, ℕ, ◌==◌, Bool, true, false, cond, List, [], ◌∷◌, ◌++◌, length, Option, Some, None, inr, refl, sym, ap, ◌∙◌, map, append-nil, subst, ◌&&◌}
use Rattle.std.specs.Prelude.{◌&&◌}
use Rattle.std.specs.List.{list_any}
use Rattle.std.specs.Option.{option_map_or, option_and_then}
use Rattle.std.proofs.lemmas.Bool.{false≢true, false_from_ne_true, not-true}
use Rattle.std.proofs.lemmas.Option.{none-some}
use Rattle.zr_id.specs.Zid.{is_named}
use Rattle.zr_msg.specs.declared.extras.Extras.{Extras}
use Rattle.zr_msg.specs.declared.event.Event.TheVariants.{From}
use Rattle.zr_msg.specs.declared.msg.Msg.TheVariants.{Final}
use Rattle.zr_script_spec.specs.declared.command.Act.TheVariants as c
use Rattle.zr_pend_spec.specs.declared.branch.Asker.{Asker}
use Rattle.zr_pend_spec.specs.Pending.{branch, final_to}
use Rattle.zr_pend_spec.specs.Readings.{back, final_if_none}
use Rattle.zr_world_spec.specs.World.{RouterState, WorldState, router_of}
use Rattle.zr_world_spec.specs.Acts.{having_told}
use Rattle.zr_world_spec.specs.Sound.{AreUnique}
use Rattle.zr_world_spec.specs.Moments.{Numbered, Moment}
use Rattle.zr_world_spec.proofs.Names.{names}
use Rattle.zr_law_settled.proofs.Goes.{Goes}
use Rattle.zr_guarantee.specs.Queries.{Asked}
use Rattle.zr_law_queries.specs.Link.{Free, Asked as AskedHop, Open, hop_ended, hop_replied}
use Rattle.zr_law_queries.specs.Numbers.{IsLastFinal}
use Rattle.zr_law_queries.specs.Query.{Tree, IsTree, Stage, Here as AtNode, Over, is_child, is_not_yet, replies_at, is_empty, with_one, Move, Close, after, closes, ReleasesIf}
use Rattle.zr_law_queries.proofs.Hops.{front_final}
use Rattle.zr_law_queries.proofs.Moves.{open_is}
use Rattle.zr_law_numbers.specs.Rows.{AreOfLinks}
use Rattle.zr_law_numbers.specs.Waiting.{Place, Said, answers, link_of, is_whole}
use Rattle.zr_law_numbers.specs.Deeds.{Ends}
use Rattle.zr_law_numbers.proofs.Whole.{whole_apart, whole_turned}
use Rattle.zr_law_replies.specs.Answers.{HopState}
use Rattle.zr_law_replies.specs.Trees.{has_router, tree_at}
use Rattle.zr_law_replies.specs.Stands.{IsStill, is_of, is_open, place, asked_at, Marks, request_to, row_places, open_below, Stands, held_by, held_if, latest_release}
use Rattle.zr_law_replies.proofs.Links.{lines_on}
use Rattle.zr_law_replies.proofs.ShownHops.{plain}
use Rattle.zr_law_replies.proofs.MarkChanges.{is_hop}
use Rattle.zr_law_replies.proofs.MarkMoves.{close_marks}
use Rattle.zr_law_replies.proofs.StandRows.{is_place, without, without_open, none_open}
use Rattle.zr_law_replies.proofs.StandOwn.{IsHere, own_open, RowsShow}
use Rattle.zr_law_replies.proofs.StandRowMoves.{close_rows}
use Rattle.zr_law_replies.proofs.StandBranches.{without_none, ended_places}
use Rattle.zr_law_replies.proofs.StandSteps.{Hops}
use Rattle.zr_law_replies.proofs.StandStep.{request_of, PlainHops, Begins, Here, Then}
use Rattle.zr_law_replies.proofs.HandleLinks.{answers_from, back_was, from_apart}
use Rattle.zr_law_replies.proofs.StandHere.{still_whole, row_at, kids, asker_apart}
use Rattle.zr_law_replies.proofs.HandleHeard.{Heard, after_heard, heard_whole, heard_router, heard_other, heard_same, heard_moved}
use Rattle.zr_law_replies.proofs.AnswerAskers.{placed, pending_by}
use Rattle.zr_law_replies.proofs.AnswerHops.{AnswerGoes, answer_goes}
use Rattle.zr_law_replies.proofs.AnswerOwner.{rows, below_parent, parent_hop, parent_apart, root_stays, row_own, answer_apart, place_own}
use Rattle.zr_law_replies.proofs.FinalRow.{left, final_said, final_by, row_left}
use Rattle.zr_law_replies.proofs.FinalSends.{final_answering, hop_says, says_open}
use Rattle.zr_msg.specs.declared.content.Parts.{Parts}
use Rattle.zr_pend_spec.specs.Held.{held_for}
use Rattle.zr_law_numbers.proofs.DeedsDone.{released}
use Rattle.zr_law_numbers.proofs.DeedLists.{says}
use Rattle.zr_law_replies.proofs.Gathers.{held_list, list_held}
use Rattle.zr_law_replies.proofs.HeldAt.{without_apart, its_asker, at_link}
use Rattle.zr_law_replies.proofs.StandHolds.{opens}
use Rattle.zr_law_replies.proofs.HandleReply.{replied_apart}

-- ---- a hop of another query

ended_apart : (line : ℕ) (h : HopState) → is_of line h ≡ false → is_of line (hop_ended h) ≡ false
ended_apart line Free e = e
ended_apart line (AskedHop r by) e = e
ended_apart line (Open r by rs done) e = e

says_apart : (line : ℕ) (rs : List Said) (h : HopState) → is_of line h ≡ false → is_of line (hop_says rs h) ≡ false
says_apart line [] h e = e
says_apart line (s ∷ rs) h e = says_apart line rs (hop_replied s h) (replied_apart line s h e)

-- ---- how the query stands on

module _ (before : List Numbered) (mark : ℕ) (start : Moment) (q : Asked) (b : Begins before mark start q) (phase acts : List Numbered) (m : Moment) (here : Here start.world phase q acts m)
    (n : ℕ) (a from : List ℕ) (id : ℕ) (extras : Extras) (tag : ℕ) (h : Heard m.world a from (Final id extras) tag) where
  abbrev w : WorldState
  w = start.world

  abbrev t : Tree (List ℕ)
  t = tree_at w q

  is : IsTree t
  is = b.tree.is_tree

  abbrev num : List ℕ → ℕ
  num = here.stands.num

  abbrev stage : List ℕ → Stage Said
  stage = here.stands.stage

  abbrev g : Goes m.world
  g = here.holds.go.0

  abbrev r : RouterState
  r = h.router

  abbrev next : Moment
  next = after_heard m a from (Final id extras) tag h

  unique : AreUnique r.node.links
  unique = g.sound.unique a r h.found

  tables : AreOfLinks r.node
  tables = here.holds.go.1.1.tables a r h.found

  no_client : has_router w q.client ≡ false
  no_client = asker_apart before mark start q b phase acts m here

  there : is_whole m.world a from ≡ true
  there = whole_turned m.world a from ∙ heard_whole m.world g.orderly a from (Final id extras) tag h

  whole : is_whole w a from ≡ true
  whole = sym (still_whole w m.world here.stands.still a from) ∙ there

  apart : is_named a from ≡ false
  apart = from_apart m.world g.sound g.orderly a r h.found from h.state h.at (Final id extras) tag h.behind h.first h.link h.linked

  -- the final is the last answer of its hop
  front : IsLastFinal (link_of m.world a from) (here.hop a from) id (answers next.world a from)
  front = front_final (link_of m.world a from) (here.hop a from) (here.plain.shows a from there) id (answers next.world a from)
      (answers_from m.world g.sound g.orderly a r h.found from h.state h.at (Final id extras) tag h.behind h.first h.link h.linked from apart (names.refl from))

  -- who asked, and who gets the final
  asker : (o : Option Asker) × (back r.node.pending (branch h.link.link id) ≡ Some o) × (placed r o ≡ front.by)
  asker = pending_by r unique from h.link h.linked id front.by
      (sym (back_was m.world g.sound g.orderly a r h.found from h.state h.at (Final id extras) tag h.behind h.first h.link h.linked from apart id) ∙ front.pending)

  abbrev last : Option Asker
  last = final_to r.node.pending (branch h.link.link id)

  abbrev to : Option Place
  to = placed r last

  -- what was held for that one
  abbrev rs : List Said
  rs = option_map_or (λ z. released r.node tag z) last []

  abbrev lets_go : HopState → HopState
  lets_go z = hop_ended (hop_says rs z)

  -- the rows of the router, by name
  ended : (p : Place) → row_places (having_told r (From h.link.link (Final id extras))) p ≡ without (place from id) (row_places r p)
  ended p = ended_places r unique (having_told r (From h.link.link (Final id extras))) refl tables.sound.askers from h.link h.linked id refl p

  module _ (hop' : Hops) (still' : IsStill w next.world) (p' : PlainHops w q next.world (lines_on next.world here.holds.lines) hop') where
    goes : AnswerGoes w q here.hop hop' a from id to (λ z. Free) lets_go
    goes = answer_goes w q m g.sound g.orderly here.stands.still a from (Final id extras) tag h here.holds.lines here.hop here.plain id to (λ z. Free) lets_go (λ i. says i rs ++ Ends i ∷ [])
        (final_answering r unique tables from h.link h.linked id extras tag asker.0 asker.1 front.by asker.2 a) hop' still' p'

    -- another query's
    other_stands : is_of q.line (here.hop a from id) ≡ false → Stands w phase q (acts ++ (n, c.Handle a from) ∷ []) next hop'
    other_stands other = heard_same w phase q no_client acts m here.hop here.stands n a from (Final id extras) tag h hop' still'
        (answer_apart before mark start q b phase acts m here a r h.found from id front.by front.pending to (final_by r unique tables from h.link h.linked id asker.0 asker.1 front.by asker.2)
        (λ z. Free) lets_go (λ z e. refl) (λ z e. ended_apart q.line (hop_says rs z) (says_apart q.line rs z e)) hop' goes other)
        (λ o. (
          ended (asked_at t num a) ∙ without_none (place from id) (row_places r (asked_at t num a))
              (false_from_ne_true (list_any (λ z. is_place (place from id) z) (row_places r (asked_at t num a))) (λ among.
              false≢true (sym other ∙ row_own before mark start q b phase acts m here a r h.found from id o
              (ap (λ v. list_any (λ z. is_place (place from id) z) (option_map_or (λ (z : RouterState). row_places z (asked_at t num a)) v [])) h.found ∙ among)))),
          without_apart r unique (asked_at t num a) r.node.held last (λ e. false≢true (sym other ∙ place_own before mark start q b phase acts m here a r h.found from id front.by front.pending o
              (final_by r unique tables from h.link h.linked id asker.0 asker.1 front.by asker.2 (asked_at t num a) e))),
        ))

    -- the query's
    module _ (own : is_of q.line (here.hop a from id) ≡ true) where
      at : IsHere t (request_to w q) q.line (is_whole w) num stage here.hop here.stands.marks a from id whole front.request front.by [] true
      at = own_open t (request_to w q) q.line (is_whole w) num stage here.hop here.stands.marks a from id whole front.request front.by [] true front.hop (sym (ap (is_of q.line) front.hop) ∙ own)

      -- whether it was the last one
      abbrev done : Bool
      done = closes t stage a from

      -- what is released with it
      abbrev gone : List Said
      gone = cond done rs []

      abbrev move : Move t stage
      move = Close a from gone at.child at.stage_is

      open_ : stage a ≡ AtNode (replies_at (stage a)) false
      open_ = open_is t is stage here.stands.sound a from [] true at.child at.stage_is

      below : is_child t (t.parent a) a ≡ true
      below = below_parent before mark start q b phase acts m here a r h.found (ap is_not_yet open_)

      parent_whole : is_whole w (t.parent a) a ≡ true
      parent_whole = kids before mark start q b (t.parent a) a below

      done_is : (z : Asker) → asker.0 ≡ Some z → (length (left r unique tables from h.link h.linked id asker.0 asker.1 front.by asker.2 z) == 0) ≡ done
      done_is z e =
          sym (row_left r unique tables from h.link h.linked id asker.0 asker.1 front.by asker.2 z e (asked_at t num a) at.by_is)
          ∙ ap (λ v. is_empty (without (place from id) v)) (here.stands.rows a r h.found (ap is_open open_))
          ∙ ap (λ j. is_empty (without (place from j) (open_below t num stage a))) at.number ∙ ap is_empty (without_open t is num stage a from) ∙ none_open t is num (with_one t stage from Over) a

      to_is : to ≡ cond done (Some (asked_at t num a)) None
      to_is = by_asker asker.0 refl
        where
          by_asker : (p : Option Asker) → asker.0 ≡ p → to ≡ cond done (Some (asked_at t num a)) None
          by_asker None e = absurd (none-some (asked_at t num a) (ap (placed r) (sym e) ∙ asker.2 ∙ at.by_is))
          by_asker (Some z) e =
              ap (placed r) (final_said r unique tables from h.link h.linked id asker.0 asker.1 front.by asker.2
              ∙ ap (λ v. option_and_then (λ y. final_if_none (left r unique tables from h.link h.linked id asker.0 asker.1 front.by asker.2 y) y) v) e
              ∙ ap (λ d. cond d (Some z) None) (done_is z e))
              ∙ each done
            where
              each : (d : Bool) → placed r (cond d (Some z) None) ≡ cond d (Some (asked_at t num a)) None
              each true = ap (placed r) (sym e) ∙ asker.2 ∙ at.by_is
              each false = refl

      -- the hop of who asked
      above : hop' (t.parent a) a (num a) ≡ Open (request_to w q a) (Some (asked_at t num (t.parent a))) (replies_at (stage a) ++ gone) done
      above = by_done done refl
        where
          was : here.hop (t.parent a) a (num a) ≡ Open (request_to w q a) (Some (asked_at t num (t.parent a))) (replies_at (stage a)) false
          was = parent_hop before mark start q b phase acts m here a r h.found (replies_at (stage a)) open_

          not_here : is_hop a from id (t.parent a) a (num a) ≡ false
          not_here = ap (λ z. z && (is_named from a && id == num a))
              (names.symm a (t.parent a) ∙ whole_apart m.world g.sound (t.parent a) a (still_whole w m.world here.stands.still (t.parent a) a ∙ parent_whole))

          by_done : (d : Bool) → done ≡ d → hop' (t.parent a) a (num a) ≡ Open (request_to w q a) (Some (asked_at t num (t.parent a))) (replies_at (stage a) ++ gone) done
          by_done true e = goes.there (asked_at t num a) (to_is ∙ ap (λ d. cond d (Some (asked_at t num a)) None) e) parent_whole ∙ ap (λ z. plain (request_of w q a) (lets_go z)) was
              ∙ ap (λ z. plain (request_of w q a) (hop_ended z)) (says_open rs (request_to w q a) (Some (asked_at t num (t.parent a))) (replies_at (stage a)) false)
              ∙ ap (λ d. Open (request_to w q a) (Some (asked_at t num (t.parent a))) (replies_at (stage a) ++ cond d rs []) d) (sym e)
          by_done false e = goes.elsewhere (t.parent a) a (num a) parent_whole not_here (λ p f. absurd (none-some p (sym (to_is ∙ ap (λ d. cond d (Some (asked_at t num a)) None) e) ∙ f))) ∙ was
              ∙ ap (λ z. Open (request_to w q a) (Some (asked_at t num (t.parent a))) z false) (sym (append-nil (replies_at (stage a))))
              ∙ ap (λ d. Open (request_to w q a) (Some (asked_at t num (t.parent a))) (replies_at (stage a) ++ cond d rs []) d) (sym e)

      marks : Marks t (request_to w q) q.line (is_whole w) num (after t stage move) hop'
      marks = close_marks t is (request_to w q) q.line (λ y. refl) (is_whole w) (kids before mark start q b) num stage here.hop hop' here.stands.marks a from at.child (inr below)
          (λ x y i e f o. goes.elsewhere x y i e (ap (λ j. is_hop a from j x y i) at.number ∙ f)
          (λ p d. parent_apart before mark start q b phase acts m here a r h.found x y i p
          (sym (final_by r unique tables from h.link h.linked id asker.0 asker.1 front.by asker.2 p d) ∙ at.by_is) o))
          gone at.stage_is (ap (λ j. is_of q.line (hop' a from j)) (sym at.number) ∙ ap (is_of q.line) (goes.here whole)) (λ kid. above)

      abbrev read_at : Place → Option RouterState → List Place
      read_at p v = option_map_or (λ z. row_places z p) v []

      own_rows : RowsShow t num (after t stage move) (has_router w) (row_at next.world)
      own_rows = close_rows t is num stage here.stands.sound a from at.child (has_router w) (row_at m.world) (row_at next.world) (rows before mark start q b phase acts m here) gone at.stage_is
          (λ routes. ap (read_at (asked_at t num a)) (heard_router w phase q no_client acts m here.hop here.stands n a from (Final id extras) tag h hop') ∙ ended (asked_at t num a)
          ∙ ap (λ j. without (place from j) (row_places r (asked_at t num a))) at.number ∙ ap (λ v. without (place from (num from)) (read_at (asked_at t num a) v)) (sym h.found))
          (λ z routes o other. ap (read_at (asked_at t num z)) (heard_other w phase q no_client acts m here.hop here.stands n a from (Final id extras) tag h hop' z other))

      -- ---- what was held

      now_held : held_by r (asked_at t num a) ≡ held_if (t.gathers a) here.stands.got
      now_held = here.stands.holds a r h.found (ap is_open open_)

      holding : (z : Asker) → placed r (Some z) ≡ Some (asked_at t num a) → held_list r.node.held z ≡ held_if (t.gathers a) here.stands.got
      holding z e =
          let l = its_asker r unique (asked_at t num a) z e in
          ap (held_list r.node.held) l.2 ∙ sym (at_link r unique (asked_at t num a) r.node.held l.0 l.1) ∙ now_held

      rs_are : done ≡ true → latest_release.shown rs ≡ option_map_or (λ (hs : List Parts). hs) (held_if (t.gathers a) here.stands.got) []
      rs_are d = by last refl
        where
          contents : (cs : List Parts) → map (λ (s : Said). s.content) (map (λ c. record { line = tag; content = c }) cs) ≡ cs
          contents [] = refl
          contents (c ∷ cs) = ap (λ z. c ∷ z) (contents cs)

          by : (o : Option Asker) → last ≡ o → latest_release.shown (option_map_or (λ z. released r.node tag z) o []) ≡ option_map_or (λ (hs : List Parts). hs) (held_if (t.gathers a) here.stands.got) []
          by None e = absurd (none-some (asked_at t num a) (ap (placed r) (sym e) ∙ to_is ∙ ap (λ v. cond v (Some (asked_at t num a)) None) d))
          by (Some z) e = contents (held_for r.node.held z) ∙ list_held r.node.held z
              ∙ ap (λ o. option_map_or (λ (hs : List Parts). hs) o []) (holding z (ap (placed r) (sym e) ∙ to_is ∙ ap (λ v. cond v (Some (asked_at t num a)) None) d))

      releases : ReleasesIf (t.gathers a && closes t stage a from) latest_release here.stands.got gone
      releases = by (t.gathers a) refl done refl
        where
          empty : (xs : List Said) → map (λ (s : Said). s.content) xs ≡ [] → xs ≡ []
          empty [] e = refl
          empty (x ∷ xs) e = absurd (cc)

          by : (g : Bool) → t.gathers a ≡ g → (d : Bool) → done ≡ d → ReleasesIf (g && d) latest_release here.stands.got (cond d rs [])
          by true f true e = rs_are e ∙ ap (λ v. option_map_or (λ (hs : List Parts). hs) (held_if v here.stands.got) []) f
          by true f false e = refl
          by false f true e = empty rs (rs_are e ∙ ap (λ v. option_map_or (λ (hs : List Parts). hs) (held_if v here.stands.got) []) f)
          by false f false e = refl

      own_holds : (z : List ℕ) (v : RouterState) → router_of next.world.routers z ≡ Some v → is_open (after t stage move z) ≡ true → held_by v (asked_at t num z) ≡ held_if (t.gathers z) here.stands.got
      own_holds z v found o = by (is_named a z) refl
        where
          not_done : is_named a z ≡ true → done ≡ false
          not_done e = not-true done (ap is_open (sym (ap (λ k. cond k (AtNode (replies_at (stage a) ++ gone) done) (cond (is_child t a z) (with_one t stage from Over z) (stage z))) e)) ∙ o)

          by : (c : Bool) → is_named a z ≡ c → held_by v (asked_at t num z) ≡ held_if (t.gathers z) here.stands.got
          by false e = here.stands.holds z v (sym (heard_other w phase q no_client acts m here.hop here.stands n a from (Final id extras) tag h hop' z e) ∙ found)
              (opens t is stage here.stands.sound move tt z o)
          by true e =
              let one : a ≡ z = is.decides a z e in
              let both : Some (having_told r (From h.link.link (Final id extras))) ≡ Some v =
              sym (heard_router w phase q no_client acts m here.hop here.stands n a from (Final id extras) tag h hop') ∙ ap (router_of next.world.routers) one ∙ found in
              let is_then : having_told r (From h.link.link (Final id extras)) ≡ v = cc in
              subst (λ y. held_by v (asked_at t num y) ≡ held_if (t.gathers y) here.stands.got) one
              (ap (λ y. held_by y (asked_at t num a)) (sym is_then)
              ∙ without_apart r unique (asked_at t num a) r.node.held last (λ k. none-some (asked_at t num a) (sym (to_is ∙ ap (λ d. cond d (Some (asked_at t num a)) None) (not_done e)) ∙ k)) ∙ now_held)

      own_stands : Stands w phase q (acts ++ (n, c.Handle a from) ∷ []) next hop'
      own_stands = heard_moved w phase q no_client acts m here.hop here.stands n a from (Final id extras) tag h hop' still' is move num refl
          (root_stays before mark start q b phase acts m here a r h.found (AtNode (replies_at (stage a) ++ gone) done) (with_one t stage from Over)) marks own_rows own_holds (λ d ys. releases) (λ is_own said. refl) (λ d ended. refl)

    final_there_is : Stands w phase q (acts ++ (n, c.Handle a from) ∷ []) next hop'
    final_there_is = by (is_of q.line (here.hop a from id)) refl
      where
        by : (e : Bool) → is_of q.line (here.hop a from id) ≡ e → Stands w phase q (acts ++ (n, c.Handle a from) ∷ []) next hop'
        by true own = own_stands own
        by false other = other_stands other

  pub final_stands : Then w phase q acts m here (n, c.Handle a from) next
  final_stands go still' hop' p' = final_there_is hop' still' p'
