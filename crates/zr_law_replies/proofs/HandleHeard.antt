-- A router handles a message: what is known where that is accepted (`Heard`), and how a query stands on. No client asks or says anything by it, and none is
-- told anything: so the standing depends on hops, and on the rows of that router.
use Rattle.std.proofs.Common.{◌≡◌, ℕ, ◌-◌, ◌==◌, Bool, true, false, not, List, [], ◌∷◌, ◌++◌, Some, None, refl, sym, ap, ◌∙◌, subst}
use Rattle.std.specs.Prelude.{IfSome}
use Rattle.std.specs.List.{list_any}
use Rattle.std.proofs.lemmas.Bool.{false≢true, or_right}
use Rattle.zr_id.specs.Zid.{is_named}
use Rattle.zr_graph.proofs.Names.{same_is}
use Rattle.zr_msg.specs.declared.msg.Msg.{Msg}
use Rattle.zr_msg.specs.declared.event.Event.TheVariants.{From}
use Rattle.zr_msg.specs.declared.peer.LinkPeer.{LinkPeer}
use Rattle.zr_script_spec.specs.declared.command.Act.TheVariants as c
use Rattle.zr_script_spec.specs.declared.report.ReportLine.TheVariants as line
use Rattle.zr_node_spec.specs.Tables.{link_to}
use Rattle.zr_node_spec.specs.Table.{refuses}
use Rattle.zr_world_spec.specs.World.{Tagged, EndState, RouterState, WorldState, router_of, end_of, is_unbroken, is_empty}
use Rattle.zr_world_spec.specs.Acts.{having_told, handle_step}
use Rattle.zr_world_spec.specs.Moments.{Numbered, Moment, went}
use Rattle.zr_world_spec.proofs.Cases.{on_handle, number_found, for_handle}
use Rattle.zr_law_settled.proofs.Orderly.{Orderly, has_wire}
use Rattle.zr_guarantee.specs.Queries.{Asked, queries, turn, replies, has_ended}
use Rattle.zr_guarantee.specs.Sent.{told_to, requests_to}
use Rattle.zr_law_queries.specs.Query.{IsTree, Stage, is_not_yet, Move, after, said_after, Agrees, got_after}
use Rattle.zr_law_queries.specs.Courses.{way_of}
use Rattle.zr_law_numbers.specs.Waiting.{Said, is_whole}
use Rattle.zr_law_replies.specs.Answers.{told_in_turn}
use Rattle.zr_law_replies.specs.Trees.{has_router, tree_at}
use Rattle.zr_law_replies.specs.Stands.{IsStill, is_open, asked_at, Marks, request_to, row_places, open_below, answers_told, answers_at, said_in, is_said_by, Stands, held_by, held_if, latest_release}
use Rattle.zr_law_replies.proofs.ToldRouters.{router_then, router_apart}
use Rattle.zr_law_replies.proofs.StandOwn.{RowsShow}
use Rattle.zr_law_replies.proofs.StandSteps.{Hops, ended_after, Has, stands_same, stands_moved, has_same, SameFor}
use Rattle.zr_law_replies.proofs.StandHere.{still_router, row_at, rows_named, rows_read}
use Rattle.zr_law_replies.proofs.Grown.{queries_same, sayings_same, told_same, requests_same, turn_told_same}
use Rattle.zr_law_replies.proofs.Replies.{replies_kept, ended_kept}

-- ---- what is known where it is accepted

-- a router has a message at the front of the wire from a neighbour, and does not refuse it
pub record Heard (w : WorldState) (x from : List ℕ) (msg : Msg) (tag : ℕ) : Type 0 where
  pub router : RouterState
  pub found : router_of w.routers x ≡ Some router
  pub state : EndState
  pub at : end_of w.ends (x, from) ≡ Some state
  pub behind : List Tagged
  pub first : state.wire ≡ record { msg = msg; tag = tag } ∷ behind
  pub link : LinkPeer
  pub linked : link_to router.node.links from ≡ Some link
  pub taken : refuses router.node (From link.link msg) ≡ None

abbrev pub after_heard : (now : Moment) (x from : List ℕ) (msg : Msg) (tag : ℕ) → Heard now.world x from msg tag → Moment
after_heard now x from msg tag h = on_handle now x from h.router h.state h.link.link msg tag h.behind

pub for_heard : (now : Moment) (Q : Moment → Type 0) (x from : List ℕ) → ((msg : Msg) (tag : ℕ) (h : Heard now.world x from msg tag) → Q (after_heard now x from msg tag h)) →
    IfSome (went now (handle_step now.world x from)) Q
for_heard now Q x from each = for_handle now Q x from (λ r er there s es up msg tag xs first l el taken.
    let k = number_found r from l el in
    subst (λ z. refuses r.node (From z msg) ≡ None → Q (on_handle now x from r s z msg tag xs)) k.2
    (λ t. each msg tag (record { router = r; found = er; state = s; at = es; behind = xs; first = first; link = k.0; linked = k.1; taken = t })) taken)

-- its link is whole, since a broken one has nothing on its wires
pub heard_whole : (w : WorldState) → Orderly w → (x from : List ℕ) (msg : Msg) (tag : ℕ) → Heard w x from msg tag → is_whole w from x ≡ true
heard_whole w orderly x from msg tag h = or_right (is_unbroken w.ends (from, x)) (is_unbroken w.ends (x, from)) (by (is_unbroken w.ends (x, from)) refl)
  where
    by : (b : Bool) → is_unbroken w.ends (x, from) ≡ b → b ≡ true
    by true e = refl
    by false e = absurd (false≢true (sym (orderly.broken_links (x, from) e) ∙ ap has_wire h.at ∙ ap (λ z. not (is_empty z)) h.first))

-- ---- rows

-- the rows of routers show a query's stages, of the routers that were there at the mark
module _ (w v : WorldState) (still : IsStill w v) (q : Asked) (num : List ℕ → ℕ) (stage : List ℕ → Stage Said) where
  abbrev RowsAre : Type 0
  RowsAre = (x : List ℕ) (r : RouterState) → router_of v.routers x ≡ Some r → is_open (stage x) ≡ true → row_places r (asked_at (tree_at w q) num x) ≡ open_below (tree_at w q) num stage x

  pub rows_show : RowsAre → RowsShow (tree_at w q) num stage (has_router w) (row_at v)
  rows_show rows x there o = rows_named v (tree_at w q) num stage rows x (still_router w v still x ∙ there) o

  pub rows_are : RowsShow (tree_at w q) num stage (has_router w) (row_at v) → RowsAre
  rows_are rows x r e o = rows_read v (tree_at w q) num stage (λ z there k. rows z (sym (still_router w v still z) ∙ there) k) x r e o

-- ---- how a query stands on

module _ (w : WorldState) (phase : List Numbered) (q : Asked) (apart : has_router w q.client ≡ false) (acts : List Numbered) (m : Moment) (hop : Hops) (s : Stands w phase q acts m hop) (n : ℕ)
    (x from : List ℕ) (msg : Msg) (tag : ℕ) (h : Heard m.world x from msg tag) (hop' : Hops) where
  abbrev next : Moment
  next = after_heard m x from msg tag h

  abbrev acts' : List Numbered
  acts' = acts ++ (n, c.Handle x from) ∷ []

  abbrev then : RouterState
  then = having_told h.router (From h.link.link msg)

  pub heard_router : router_of next.world.routers x ≡ Some then
  heard_router = router_then m.world.routers x h.router h.found (From h.link.link msg)

  pub heard_other : (z : List ℕ) → is_named x z ≡ false → router_of next.world.routers z ≡ router_of m.world.routers z
  heard_other z other = router_apart m.world.routers x h.router h.found (From h.link.link msg) z other

  same_queries : queries acts' ≡ queries acts
  same_queries = queries_same acts (n, c.Handle x from) refl

  same_requests : (d : List ℕ) (k : ℕ) → requests_to next.report d k ≡ requests_to m.report d k
  same_requests d k = requests_same m.report next.report d k (told_same m.report (line.Handled x from msg tag ∷ []) d refl)

  same_replies : (d : List ℕ) → replies acts' next.report q d ≡ replies acts m.report q d
  same_replies d = replies_kept acts acts' m.report next.report q d (sayings_same acts (n, c.Handle x from) refl) (same_requests d)

  same_ended : (d : List ℕ) → has_ended acts' next.report q d ≡ has_ended acts m.report q d
  same_ended d = ended_kept acts acts' m.report next.report q d (sayings_same acts (n, c.Handle x from) refl) (same_requests d)

  same_told : answers_told q.number (told_in_turn q.number (turn acts' q - 1) (told_to next.report q.client)) ≡ answers_told q.number (told_in_turn q.number (turn acts q - 1) (told_to m.report q.client))
  same_told = turn_told_same acts acts' q (told_to m.report q.client) (told_to next.report q.client) same_queries (told_same m.report (line.Handled x from msg tag ∷ []) q.client refl)

  -- where the message is of no concern to the query: its hops stay, and so does its row at the router
  pub heard_same : IsStill w next.world → Marks (tree_at w q) (request_to w q) q.line (is_whole w) s.num s.stage hop' →
      (is_open (s.stage x) ≡ true → SameFor (asked_at (tree_at w q) s.num x) then h.router) → Stands w phase q acts' next hop'
  heard_same still marks row = stands_same w phase q acts acts' m next hop hop' s still marks
      (has_same w phase q acts acts' m next hop hop' s still routers (λ c' ec. (c', ec, λ k. k)) (ap (list_any (λ p. p.line == q.line)) same_queries) (λ k. same_told)) (λ d ends. same_replies d) (λ d ends. same_ended d)
    where
      routers : (z : List ℕ) (r' : RouterState) → router_of next.world.routers z ≡ Some r' →
          (r : RouterState) × (router_of m.world.routers z ≡ Some r) × (is_open (s.stage z) ≡ true → SameFor (asked_at (tree_at w q) s.num z) r' r)
      routers z r' e = by (is_named x z) refl
        where
          by : (b : Bool) → is_named x z ≡ b →
              (r : RouterState) × (router_of m.world.routers z ≡ Some r) × (is_open (s.stage z) ≡ true → SameFor (asked_at (tree_at w q) s.num z) r' r)
          by false f = (r', sym (heard_other z f) ∙ e, λ o. (refl, refl))
          by true f =
              let one : x ≡ z = same_is x z f in
              let both : Some then ≡ Some r' = sym heard_router ∙ ap (router_of next.world.routers) one ∙ e in
              let is : then ≡ r' = cc in (
                h.router,
                ap (router_of m.world.routers) (sym one) ∙ h.found,
                λ o. subst (λ y. SameFor (asked_at (tree_at w q) s.num y) r' h.router) one (subst (λ y. SameFor (asked_at (tree_at w q) s.num x) y h.router) is (row (ap (λ y. is_open (s.stage y)) one ∙ o))),
              )

  -- where it is a move of the query, but not of its client
  pub heard_moved : IsStill w next.world → IsTree (tree_at w q) → (move : Move (tree_at w q) s.stage) (num : List ℕ → ℕ) → num q.client ≡ s.num q.client →
      after (tree_at w q) s.stage move q.client ≡ s.stage q.client → Marks (tree_at w q) (request_to w q) q.line (is_whole w) num (after (tree_at w q) s.stage move) hop' →
      RowsShow (tree_at w q) num (after (tree_at w q) s.stage move) (has_router w) (row_at next.world) →
      ((z : List ℕ) (r : RouterState) → router_of next.world.routers z ≡ Some r → is_open (after (tree_at w q) s.stage move z) ≡ true →
      held_by r (asked_at (tree_at w q) num z) ≡ held_if ((tree_at w q).gathers z) (got_after (tree_at w q) s.stage move s.got)) →
      ((d : List ℕ) (ys : List (List ℕ)) → Agrees latest_release (tree_at w q) s.stage move (way_of (tree_at w q) ys d (is_said_by phase d)) s.got) →
      ((is_own : Said → Bool) (said : List Said) → said_after (tree_at w q) s.stage move is_own said ≡ said) → ((d : List ℕ) (ended : Bool) → ended_after (tree_at w q) s.stage move d ended ≡ ended) →
      Stands w phase q acts' next hop'
  heard_moved still is move num number client marks rows holds agrees said ends_after = stands_moved w phase q acts acts' m next hop hop' s still is move num marks has (λ d ys ends. agrees d ys)
      (λ d ends. ap said_in (same_replies d) ∙ sym (said (is_said_by phase d) (said_in (replies acts m.report q d))))
      (λ d ends. same_ended d ∙ sym (ends_after d (has_ended acts m.report q d)))
    where
      has : Has w phase q acts' next num (after (tree_at w q) s.stage move) (got_after (tree_at w q) s.stage move s.got)
      has = record {
        rows = rows_are w next.world still q num (after (tree_at w q) s.stage move) rows;
        holds = holds;
        number = number ∙ s.number;
        asked = ap is_not_yet client ∙ s.asked ∙ ap (λ z. not (list_any (λ p. p.line == q.line) z)) (sym same_queries);
        waits = λ d ed o. s.waits d ed (ap is_open (sym client) ∙ o);
        told = λ k. same_told ∙ s.told (ap is_not_yet (sym client) ∙ k) ∙ ap (λ u. answers_at q.number u) (sym client);
      }
