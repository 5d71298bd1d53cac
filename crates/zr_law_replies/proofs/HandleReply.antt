-- A router handles a reply (`response_stands`): it goes on to who asked. Where it is the query's that is the move by which the router passes it on.
use Rattle.std.proofs.Common.{◌≡◌, ℕ, ◌==◌, Bool, true, false, cond, List, [], ◌∷◌, ◌++◌, Option, Some, None, inr, refl, sym, ap, ◌∙◌, is_some, map, append-nil, subst, ◌&&◌}
use Rattle.std.specs.List.{flat_map, list_all, AllByRecursion}
use Rattle.std.specs.Option.{option_map_or, option_and_then}
use Rattle.std.proofs.lemmas.Bool.{eqb-true, false≢true, and_parts, and_from}
use Rattle.zr_id.specs.Zid.{is_named}
use Rattle.zr_id.specs.declared.link.LinkNo.{LinkNo}
use Rattle.zr_msg.specs.declared.content.Parts.{Parts}
use Rattle.zr_msg.specs.declared.event.Event.TheVariants.{From}
use Rattle.zr_msg.specs.declared.msg.Msg.{Msg}
use Rattle.zr_msg.specs.declared.msg.Msg.TheVariants.{Response}
use Rattle.zr_msg.specs.declared.peer.LinkPeer.{LinkPeer}
use Rattle.zr_script_spec.specs.declared.command.Act.TheVariants as c
use Rattle.zr_pend_spec.specs.declared.branch.Asker.{Asker}
use Rattle.zr_pend_spec.specs.Pending.{branch, asker_of}
use Rattle.zr_pend_spec.specs.Readings.{back}
use Rattle.zr_node_spec.specs.Tables.{link_to}
use Rattle.zr_node_spec.specs.Queries.{link_no, reply_to, held_at, passes_reply}
use Rattle.zr_node_spec.specs.Table.{sends}
use Rattle.zr_world_spec.specs.World.{RouterState, WorldState, router_of}
use Rattle.zr_world_spec.specs.Acts.{sends_to, having_told}
use Rattle.zr_world_spec.specs.Sound.{AreUnique}
use Rattle.zr_world_spec.specs.Moments.{Numbered, Moment}
use Rattle.zr_world_spec.proofs.Names.{names, same_name}
use Rattle.zr_law_settled.proofs.Goes.{Goes}
use Rattle.zr_guarantee.specs.Queries.{Asked, sayings}
use Rattle.zr_law_queries.specs.Link.{Free, Asked as AskedHop, Open, hop_heard, hop_replied, Answer, answers_of}
use Rattle.zr_law_queries.specs.Numbers.{IsFirstReply}
use Rattle.zr_law_queries.specs.Query.{Tree, IsTree, Stage, Here as AtNode, is_child, is_not_yet, replies_at, with_one, Move, Pass, after, passed_on}
use Rattle.zr_law_queries.proofs.Hops.{front_reply}
use Rattle.zr_law_queries.proofs.Moves.{open_is}
use Rattle.zr_law_numbers.specs.Waiting.{Place, Said, asks_in, answers_in, answers, row_kept, branch_back, link_of, is_whole}
use Rattle.zr_law_numbers.specs.Deeds.{Deed, Replies, with_deeds, MayDoAll, answered_by_deed, is_own}
use Rattle.zr_law_numbers.proofs.DeedsDone.{asks_are, answers_are}
use Rattle.zr_law_numbers.proofs.SentOfQueries.{first_tells}
use Rattle.zr_law_numbers.proofs.Whole.{whole_turned, whole_apart}
use Rattle.zr_law_replies.specs.Answers.{HopState, IsSaidTo}
use Rattle.zr_law_replies.specs.Trees.{has_router, tree_at, home_of}
use Rattle.zr_law_replies.specs.Stands.{IsStill, is_of, asked_at, Marks, request_to, row_places, Stands, held_by, held_if, latest_release, is_open}
use Rattle.zr_law_replies.proofs.Keeps.{row_keeps}
use Rattle.zr_law_replies.proofs.Links.{lines_on, SaysTo}
use Rattle.zr_law_replies.proofs.ShownHops.{plain}
use Rattle.zr_law_replies.proofs.MarkChanges.{is_hop}
use Rattle.zr_law_replies.proofs.MarkMoves.{pass_marks}
use Rattle.zr_law_replies.proofs.StandOwn.{IsHere, own_open}
use Rattle.zr_law_replies.proofs.StandRowMoves.{pass_rows}
use Rattle.zr_law_replies.proofs.StandSteps.{Hops, one_gathers}
use Rattle.zr_law_replies.proofs.StandStep.{request_of, PlainHops, Begins, Here, Then}
use Rattle.zr_law_replies.proofs.HandleLinks.{answers_from, back_was, from_apart}
use Rattle.zr_law_replies.proofs.StandHere.{still_whole, row_at, kids, asker_apart}
use Rattle.zr_law_replies.proofs.HandleHeard.{Heard, after_heard, heard_whole, heard_router, heard_other, heard_same, heard_moved}
use Rattle.zr_law_replies.proofs.AnswerAskers.{IsThere, placed, deeds_for, deeds_to, asker_back, deeds_placed, none_placed, back_there, pending_by}
use Rattle.zr_law_replies.proofs.AnswerHops.{AnswerGoes, half_to, IsAnswering, answer_goes}
use Rattle.zr_law_replies.proofs.AnswerOwner.{rows, below_parent, parent_hop, parent_apart, root_stays, answer_apart, place_own}
use Rattle.std.proofs.lemmas.Option.{none-some}
use Rattle.std.proofs.lemmas.List.{map-append}
use Rattle.std.proofs.lemmas.List.Sums.{fold-append}
use Rattle.zr_lists.proofs.Elements.{passes_each}
use Rattle.zr_body.specs.Latest.{is_reply}
use Rattle.zr_pend_spec.specs.Held.{gathered, gathers_for, gathers_at, has_room, held_with, gatherings_with}
use Rattle.zr_guarantee.specs.Latest.{asks_latest, reply_bodies, RepliesFit}
use Rattle.zr_law_held.proofs.Acts.{replies_have_room}
use Rattle.zr_law_replies.proofs.Lists.{get_in}
use Rattle.zr_law_replies.proofs.Gathers.{held_list, gathers_list, held_at_asked}
use Rattle.zr_law_replies.proofs.Gathered.{asker_of_link}
use Rattle.zr_law_replies.proofs.HeldAt as heldat
use Rattle.zr_law_replies.proofs.HeldAt.{with_apart, its_asker, at_link, with_own}
use Rattle.zr_law_replies.proofs.StandHolds.{opens}

-- ---- what a reply has of queries

module _ (r : RouterState) (unique : AreUnique r.node.links) (from : List ℕ) (k : LinkPeer) (linked : link_to r.node.links from ≡ Some k) (id : ℕ) (content : Parts) (tag : ℕ) (o : Option Asker)
    (pending : back r.node.pending (branch k.link id) ≡ Some o) (by : Option Place) (place_is : placed r o ≡ by) (there : branch_back r from id ≡ Some by) (up : IsThere r o) where
  abbrev msg : Msg
  msg = Response id content

  abbrev said : Said
  said = record { line = tag; content = content }

  abbrev replies : ℕ → List Deed
  replies n = Replies n said ∷ []

  -- whether it is held, and to whom it is sent on if it isn't
  abbrev gathers_it : Bool
  gathers_it = is_some (held_at r.node.pending r.node.held k.link.0 id content)

  abbrev pub sent_to : Option Place
  sent_to = cond gathers_it None by

  -- it is sent on to who asked, and to nobody else
  reply_asks : (p : Option Asker) (to : LinkNo) → flat_map (λ m. asks_in tag m) (option_map_or (λ z. reply_to content to.0 z) p []) ≡ []
  reply_asks None to = refl
  reply_asks (Some z) to = at (to.0 == z.link.0)
    where
      at : (t : Bool) → flat_map (λ m. asks_in tag m) (cond t (Response z.number content ∷ []) []) ≡ []
      at true = refl
      at false = refl

  reply_told : (p : Option Asker) (to : LinkNo) → flat_map (λ m. answers_in tag m) (option_map_or (λ z. reply_to content to.0 z) p []) ≡ flat_map answered_by_deed (deeds_for replies to p)
  reply_told None to = refl
  reply_told (Some z) to = at (to.0 == z.link.0)
    where
      at : (t : Bool) → flat_map (λ m. answers_in tag m) (cond t (Response z.number content ∷ []) []) ≡ flat_map answered_by_deed (cond t (replies z.number) [])
      at true = refl
      at false = refl

  unless_asks : (t : Bool) (to : LinkNo) → flat_map (λ m. asks_in tag m) (cond t [] (passes_reply r.node.pending k.link.0 id content to.0)) ≡ []
  unless_asks true to = refl
  unless_asks false to = reply_asks (asker_of (branch (link_no k.link.0) id) r.node.pending) to

  silent : (y : List ℕ) → flat_map (λ m. asks_in tag m) (sends_to r.node (From k.link msg) y) ≡ []
  silent y = at (link_to r.node.links y)
    where
      at : (p : Option LinkPeer) → flat_map (λ m. asks_in tag m) (option_map_or (λ l. sends r.node (From k.link msg) l.link) p []) ≡ []
      at None = refl
      at (Some l) = first_tells (λ m. asks_in tag m) (asks_are tag) r.node (From k.link msg) l.link ∙ unless_asks gathers_it l.link

  passed_told : (t : Bool) (y : List ℕ) (l : LinkPeer) → link_to r.node.links y ≡ Some l →
      flat_map (λ m. answers_in tag m) (cond t [] (passes_reply r.node.pending k.link.0 id content l.link.0)) ≡ flat_map answered_by_deed (deeds_to replies y (cond t None by))
  passed_told true y l e = refl
  passed_told false y l e =
      ap (λ z. flat_map (λ m. answers_in tag m) (option_map_or (λ v. reply_to content l.link.0 v) z [])) (asker_back r.node.pending (branch k.link id) o pending)
      ∙ reply_told o l.link ∙ ap (flat_map answered_by_deed) (deeds_placed r unique replies o up y l e) ∙ ap (λ z. flat_map answered_by_deed (deeds_to replies y z)) place_is

  nobody_there : (t : Bool) (y : List ℕ) → link_to r.node.links y ≡ None → deeds_to replies y (cond t None by) ≡ []
  nobody_there true y e = refl
  nobody_there false y e = ap (deeds_to replies y) (sym place_is) ∙ none_placed r unique replies o y e

  sent : (y : List ℕ) → flat_map (λ m. answers_in tag m) (sends_to r.node (From k.link msg) y) ≡ flat_map answered_by_deed (deeds_to replies y sent_to)
  sent y = at (link_to r.node.links y) refl
    where
      at : (p : Option LinkPeer) → link_to r.node.links y ≡ p →
          flat_map (λ m. answers_in tag m) (option_map_or (λ l. sends r.node (From k.link msg) l.link) p []) ≡ flat_map answered_by_deed (deeds_to replies y sent_to)
      at None e = ap (flat_map answered_by_deed) (sym (nobody_there gathers_it y e))
      at (Some l) e = first_tells (λ m. answers_in tag m) (answers_are tag) r.node (From k.link msg) l.link ∙ passed_told gathers_it y l e

  -- ---- who asked keeps the request

  owns : (p : Option Place) (y : List ℕ) → list_all is_own (deeds_to replies y p) ≡ true
  owns None y = refl
  owns (Some z) y = at (is_named z.name y)
    where
      at : (t : Bool) → list_all is_own (cond t (replies z.number) []) ≡ true
      at true = refl
      at false = refl

  may : (p : Option Place) → by ≡ p → (y : List ℕ) → MayDoAll (half_to r y) (deeds_to replies y p)
  may None e y = tt
  may (Some z) e y = at (is_named z.name y) refl
    where
      at : (t : Bool) → is_named z.name y ≡ t → MayDoAll (half_to r y) (cond t (replies z.number) [])
      at true f = (ap (λ v. row_kept r v z.number) (sym (same_name z.name y f)) ∙ row_keeps r unique from id z (there ∙ ap (λ v. Some v) e), tt)
      at false f = tt

  kept : (p : Option Place) (y : List ℕ) (n : ℕ) → row_kept r y n ≡ (with_deeds (half_to r y) (deeds_to replies y p)).keeps n
  kept None y n = refl
  kept (Some z) y n = at (is_named z.name y)
    where
      at : (t : Bool) → row_kept r y n ≡ (with_deeds (half_to r y) (cond t (replies z.number) [])).keeps n
      at true = refl
      at false = refl

  may_unless : (t : Bool) (y : List ℕ) → MayDoAll (half_to r y) (deeds_to replies y (cond t None by))
  may_unless true y = tt
  may_unless false y = may by refl y

  pub reply_answering : (a : List ℕ) → IsAnswering r k.link msg tag a from id sent_to hop_heard (hop_replied said) replies
  reply_answering a = record {
    quiet = refl;
    silent = silent;
    heard_is = λ n h. refl;
    told_is = λ n i h. refl;
    back_here = λ n. refl;
    back_apart = λ y n e. refl;
    tells = λ y other. record { half = half_to r y; owns = owns sent_to y; may = may_unless gathers_it y; answers = sent y; before = λ n. refl; leaves = λ n. kept sent_to y n };
  }

-- ---- hops of other queries

heard_apart : (line : ℕ) (h : HopState) → is_of line h ≡ false → is_of line (hop_heard h) ≡ false
heard_apart line Free e = e
heard_apart line (AskedHop r by) e = e
heard_apart line (Open r by [] done) e = e
heard_apart line (Open r by (z ∷ rs) done) e = e

pub replied_apart : (line : ℕ) (reply : Said) (h : HopState) → is_of line h ≡ false → is_of line (hop_replied reply h) ≡ false
replied_apart line reply Free e = e
replied_apart line reply (AskedHop r by) e = e
replied_apart line reply (Open r by rs done) e = e

-- ---- how the query stands on

module _ (before : List Numbered) (mark : ℕ) (start : Moment) (q : Asked) (b : Begins before mark start q) (phase acts : List Numbered) (m : Moment) (here : Here start.world phase q acts m)
    (room : asks_latest q ≡ true → RepliesFit acts) (n : ℕ) (a from : List ℕ) (id : ℕ) (content : Parts) (tag : ℕ) (h : Heard m.world a from (Response id content) tag) where
  abbrev w : WorldState
  w = start.world

  abbrev t : Tree (List ℕ)
  t = tree_at w q

  is : IsTree t
  is = b.tree.is_tree

  abbrev num : List ℕ → ℕ
  num = here.stands.num

  abbrev stage : List ℕ → Stage Said
  stage = here.stands.stage

  abbrev g : Goes m.world
  g = here.holds.go.0

  abbrev r : RouterState
  r = h.router

  abbrev next : Moment
  next = after_heard m a from (Response id content) tag h

  abbrev reply : Said
  reply = record { line = tag; content = content }

  no_client : has_router w q.client ≡ false
  no_client = asker_apart before mark start q b phase acts m here

  there : is_whole m.world a from ≡ true
  there = whole_turned m.world a from ∙ heard_whole m.world g.orderly a from (Response id content) tag h

  whole : is_whole w a from ≡ true
  whole = sym (still_whole w m.world here.stands.still a from) ∙ there

  apart : is_named a from ≡ false
  apart = from_apart m.world g.sound g.orderly a r h.found from h.state h.at (Response id content) tag h.behind h.first h.link h.linked

  -- the reply is the first of its hop
  front : IsFirstReply (link_of m.world a from) (here.hop a from) id reply (answers next.world a from)
  front = front_reply (link_of m.world a from) (here.hop a from) (here.plain.shows a from there) id reply (answers next.world a from)
      (answers_from m.world g.sound g.orderly a r h.found from h.state h.at (Response id content) tag h.behind h.first h.link h.linked from apart (names.refl from))

  pending : branch_back r from id ≡ Some front.by
  pending = sym (back_was m.world g.sound g.orderly a r h.found from h.state h.at (Response id content) tag h.behind h.first h.link h.linked from apart id) ∙ front.pending

  -- ---- whether it is held

  unique : AreUnique r.node.links
  unique = g.sound.unique a r h.found

  asker : (o : Option Asker) × (back r.node.pending (branch h.link.link id) ≡ Some o) × (placed r o ≡ front.by)
  asker = pending_by r unique from h.link h.linked id front.by pending

  abbrev holder : Option Asker
  holder = held_at r.node.pending r.node.held h.link.link.0 id content

  abbrev held : Bool
  held = is_some holder

  -- for who asked
  holder_is : (z : Asker) → holder ≡ Some z → placed r (Some z) ≡ front.by
  holder_is z e = ap (placed r) (sym (held_at_asked r.node z [] r.node.held r.node.pending h.link.link.0 id content z e).0 ∙ asker_back r.node.pending (branch h.link.link id) asker.0 asker.1) ∙ asker.2

  holder_place : (p : Place) → placed r holder ≡ Some p → front.by ≡ Some p
  holder_place p e = by holder refl e
    where
      by : (o : Option Asker) → holder ≡ o → placed r o ≡ Some p → front.by ≡ Some p
      by None f k = absurd (none-some p k)
      by (Some z) f k = sym (holder_is z f) ∙ k

  abbrev to : Option Place
  to = cond held None front.by

  its : (p : Place) → to ≡ Some p → front.by ≡ Some p
  its p = by held
    where
      by : (c : Bool) → cond c None front.by ≡ Some p → front.by ≡ Some p
      by true e = absurd (none-some p e)
      by false e = e

  module _ (hop' : Hops) (still' : IsStill w next.world) (p' : PlainHops w q next.world (lines_on next.world here.holds.lines) hop') where
    goes : AnswerGoes w q here.hop hop' a from id to hop_heard (hop_replied reply)
    goes =
        answer_goes w q m g.sound g.orderly here.stands.still a from (Response id content) tag h here.holds.lines here.hop here.plain id to hop_heard (hop_replied reply) (λ i. Replies i reply ∷ [])
        (reply_answering r unique from h.link h.linked id content tag asker.0 asker.1 front.by asker.2 pending
        (back_there r unique (here.holds.go.1.1.tables a r h.found) (branch h.link.link id) asker.0 asker.1) a)
        hop' still' p'

    -- another query's
    other_stands : is_of q.line (here.hop a from id) ≡ false → Stands w phase q (acts ++ (n, c.Handle a from) ∷ []) next hop'
    other_stands other = heard_same w phase q no_client acts m here.hop here.stands n a from (Response id content) tag h hop' still'
        (answer_apart before mark start q b phase acts m here a r h.found from id front.by front.pending to its hop_heard (hop_replied reply)
        (heard_apart q.line) (replied_apart q.line reply) hop' goes other)
        (λ o. (
          refl,
          with_apart r unique (asked_at t num a) r.node.held holder content (λ e.
              false≢true (sym other ∙ place_own before mark start q b phase acts m here a r h.found from id front.by front.pending o (holder_place (asked_at t num a) e))),
        ))

    -- the query's
    module _ (own : is_of q.line (here.hop a from id) ≡ true) where
      line_is : (front.request.line == q.line) ≡ true
      line_is = sym (ap (is_of q.line) front.hop) ∙ own

      at : IsHere t (request_to w q) q.line (is_whole w) num stage here.hop here.stands.marks a from id whole front.request front.by (reply ∷ front.replies) front.done
      at = own_open t (request_to w q) q.line (is_whole w) num stage here.hop here.stands.marks a from id whole front.request front.by (reply ∷ front.replies) front.done front.hop line_is

      abbrev move : Move t stage
      move = Pass a from reply front.replies front.done at.child at.stage_is

      open_ : stage a ≡ AtNode (replies_at (stage a)) false
      open_ = open_is t is stage here.stands.sound a from (reply ∷ front.replies) front.done at.child at.stage_is

      below : is_child t (t.parent a) a ≡ true
      below = below_parent before mark start q b phase acts m here a r h.found (ap is_not_yet open_)

      -- ---- it is held just where the router gathers

      abbrev held_here : Option (List Parts)
      held_here = held_if (t.gathers a) here.stands.got

      now_held : held_by r (asked_at t num a) ≡ held_here
      now_held = here.stands.holds a r h.found (ap is_open open_)

      -- who asked for the query here, by its link
      its_own : (z : Asker) → placed r (Some z) ≡ front.by → (l : LinkPeer) × (link_to r.node.links (asked_at t num a).name ≡ Some l) × (z ≡ asker_of_link l (num a))
      its_own z e = its_asker r unique (asked_at t num a) z (e ∙ at.by_is)

      holding : (z : Asker) → placed r (Some z) ≡ front.by → held_list r.node.held z ≡ held_here
      holding z e =
          let l = its_own z e in
          ap (held_list r.node.held) l.2 ∙ sym (at_link r unique (asked_at t num a) r.node.held l.0 l.1) ∙ now_held

      gathers_where : (z : Asker) → placed r (Some z) ≡ front.by → gathers_for r.node.held z ≡ t.gathers a
      gathers_where z e = gathers_list r.node.held z ∙ ap is_some (holding z e) ∙ by (t.gathers a)
        where
          by : (c : Bool) → is_some (held_if c here.stands.got) ≡ c
          by true = refl
          by false = refl

      -- the reply is a REPLY, and there is room for it
      said_here : IsSaidTo acts m.report a (here.holds.lines a from id) reply
      said_here = (subst (λ zs. AllByRecursion (λ (z : Answer Said). SaysTo acts m.report a (here.holds.lines a from id) z.body) zs)
          ((here.plain.shows a from there id).answers ∙ ap (answers_of id) front.hop) (here.holds.stands.held.is a from id there).said).0

      fits_here : t.gathers a ≡ true → (is_reply content.body && has_room r.node.held content) ≡ true
      fits_here e =
          let fit : RepliesFit acts = room (and_parts (asks_latest q) (is_named (home_of w q.client) a) e).0 in
          and_from (is_reply content.body) (has_room r.node.held content)
          (sym (ap (λ o. option_map_or (λ (c : Parts). is_reply c.body) o true) said_here.reply_is) ∙ passes_each reply_bodies (sayings acts) said_here.saying fit.bodies
          (get_in (sayings acts) said_here.place said_here.saying said_here.stands))
          (replies_have_room acts m here.holds.led fit.light a from r h.state id tag content h.behind h.found h.at h.first)

      held_is : held ≡ t.gathers a
      held_is = by asker.0 refl
        where
          gathered_here : Option Asker
          gathered_here = gathers_at r.node.pending r.node.held (branch (link_no h.link.link.0) id)

          at_asker : (z : Asker) → asker.0 ≡ Some z → gathered_here ≡ cond (t.gathers a) (Some z) None
          at_asker z e =
              ap (λ o. option_and_then (λ v. cond (gathers_for r.node.held v) (Some v) None) o) (asker_back r.node.pending (branch h.link.link id) asker.0 asker.1 ∙ e)
              ∙ ap (λ c. cond c (Some z) None) (gathers_where z (ap (placed r) (sym e) ∙ asker.2))

          each : (c : Bool) → t.gathers a ≡ c → (z : Asker) → gathered_here ≡ cond c (Some z) None → is_some (cond (is_reply content.body && has_room r.node.held content) gathered_here None) ≡ c
          each true f z e = ap (λ d. is_some (cond d gathered_here None)) (fits_here f) ∙ ap is_some e
          each false f z e = ap (λ o. is_some (cond (is_reply content.body && has_room r.node.held content) o None)) e ∙ none (is_reply content.body && has_room r.node.held content)
            where
              nobody : Option Asker
              nobody = None

              none : (d : Bool) → is_some (cond d nobody nobody) ≡ false
              none true = refl
              none false = refl

          by : (o : Option Asker) → asker.0 ≡ o → held ≡ t.gathers a
          by None e = absurd (none-some (asked_at t num a) (ap (placed r) (sym e) ∙ asker.2 ∙ at.by_is))
          by (Some z) e = each (t.gathers a) refl z (at_asker z e)

      -- the hop of who asked
      above : (c : Bool) → held ≡ c → hop' (t.parent a) a (num a) ≡ Open (request_to w q a) (Some (asked_at t num (t.parent a))) (replies_at (stage a) ++ passed_on t a reply) false
      above false e =
          goes.there (asked_at t num a) (ap (λ d. cond d None front.by) e ∙ at.by_is) (kids before mark start q b (t.parent a) a below)
          ∙ ap (λ z. plain (request_of w q a) (hop_replied reply z)) (parent_hop before mark start q b phase acts m here a r h.found (replies_at (stage a)) open_)
          ∙ ap (λ d. Open (request_to w q a) (Some (asked_at t num (t.parent a))) (replies_at (stage a) ++ cond d [] (reply ∷ [])) false) (sym e ∙ held_is)
      above true e =
          goes.elsewhere (t.parent a) a (num a) (kids before mark start q b (t.parent a) a below) not_here (λ p f. absurd (none-some p (sym (ap (λ d. cond d None front.by) e) ∙ f)))
          ∙ parent_hop before mark start q b phase acts m here a r h.found (replies_at (stage a)) open_
          ∙ ap (λ z. Open (request_to w q a) (Some (asked_at t num (t.parent a))) z false) (sym (append-nil (replies_at (stage a))))
          ∙ ap (λ d. Open (request_to w q a) (Some (asked_at t num (t.parent a))) (replies_at (stage a) ++ cond d [] (reply ∷ [])) false) (sym e ∙ held_is)
        where
          not_here : is_hop a from id (t.parent a) a (num a) ≡ false
          not_here = ap (λ z. z && (is_named from a && id == num a))
              (names.symm a (t.parent a) ∙ whole_apart m.world g.sound (t.parent a) a (still_whole w m.world here.stands.still (t.parent a) a ∙ kids before mark start q b (t.parent a) a below))

      -- ---- what is held then

      abbrev got' : List Said
      got' = cond (t.gathers a) (here.stands.got ++ reply ∷ []) here.stands.got

      held_then : held_by (having_told r (From h.link.link (Response id content))) (asked_at t num a) ≡ held_if (t.gathers a) got'
      held_then = by holder refl (t.gathers a) refl
        where
          more : latest_release.best (here.stands.got ++ reply ∷ []) ≡ held_with (latest_release.best here.stands.got) content
          more = ap gathered (map-append (λ (s : Said). s.content) here.stands.got (reply ∷ [])) ∙ fold-append held_with [] (map (λ (s : Said). s.content) here.stands.got) (content ∷ [])

          by : (o : Option Asker) → holder ≡ o → (c : Bool) → t.gathers a ≡ c →
              heldat.held_at r unique (asked_at t num a) (option_map_or (λ v. gatherings_with r.node.held v content) o r.node.held) ≡ held_if c (cond c (here.stands.got ++ reply ∷ []) here.stands.got)
          by None e true f = absurd (false≢true (ap is_some (sym e) ∙ held_is ∙ f))
          by None e false f = now_held ∙ ap (λ c. held_if c here.stands.got) f
          by (Some z) e false f = absurd (false≢true (sym f ∙ sym held_is ∙ ap is_some e))
          by (Some z) e true f =
              let l = its_own z (holder_is z e) in
              ap (λ v. heldat.held_at r unique (asked_at t num a) (gatherings_with r.node.held v content)) l.2
              ∙ with_own r unique (asked_at t num a) l.0 l.1 r.node.held content (latest_release.best here.stands.got) (now_held ∙ ap (λ c. held_if c here.stands.got) f)
              ∙ ap (λ hs. Some hs) (sym more)

      own_holds : (z : List ℕ) (v : RouterState) → router_of next.world.routers z ≡ Some v → is_open (after t stage move z) ≡ true → held_by v (asked_at t num z) ≡ held_if (t.gathers z) got'
      own_holds z v found o = by (is_named a z) refl
        where
          got_same : t.gathers z ≡ true → is_named a z ≡ false → got' ≡ here.stands.got
          got_same e f = each (t.gathers a) refl
            where
              each : (c : Bool) → t.gathers a ≡ c → cond c (here.stands.got ++ reply ∷ []) here.stands.got ≡ here.stands.got
              each false k = refl
              each true k = absurd (false≢true (sym f ∙ ap (is_named a) (sym (one_gathers w q a z k e)) ∙ names.refl a))

          if_same : (c : Bool) → (c ≡ true → got' ≡ here.stands.got) → held_if c here.stands.got ≡ held_if c got'
          if_same true k = ap (λ got. Some (latest_release.best got)) (sym (k refl))
          if_same false k = refl

          by : (c : Bool) → is_named a z ≡ c → held_by v (asked_at t num z) ≡ held_if (t.gathers z) got'
          by false e = here.stands.holds z v (sym (heard_other w phase q no_client acts m here.hop here.stands n a from (Response id content) tag h hop' z e) ∙ found)
              (opens t is stage here.stands.sound move tt z o) ∙ if_same (t.gathers z) (λ k. got_same k e)
          by true e =
              let one : a ≡ z = same_name a z e in
              let both : Some (having_told r (From h.link.link (Response id content))) ≡ Some v =
              sym (heard_router w phase q no_client acts m here.hop here.stands n a from (Response id content) tag h hop') ∙ ap (router_of next.world.routers) one ∙ found in
              let is_then : having_told r (From h.link.link (Response id content)) ≡ v = cc in
              subst (λ y. held_by v (asked_at t num y) ≡ held_if (t.gathers y) got') one (ap (λ y. held_by y (asked_at t num a)) (sym is_then) ∙ held_then)

      marks : Marks t (request_to w q) q.line (is_whole w) num (after t stage move) hop'
      marks = pass_marks t is (request_to w q) q.line (λ y. refl) (is_whole w) (kids before mark start q b) num stage here.hop hop' here.stands.marks a from at.child (inr below)
          (λ x y i e f o. goes.elsewhere x y i e (ap (λ j. is_hop a from j x y i) at.number ∙ f)
          (λ p d. parent_apart before mark start q b phase acts m here a r h.found x y i p (sym (its p d) ∙ at.by_is) o))
          reply front.replies front.done at.stage_is
          (ap (hop' a from) (sym at.number) ∙ goes.here whole ∙ ap (λ z. plain (request_of w q from) (hop_heard z)) front.hop
          ∙ (λ i. Open (request_of w q from (eqb-true front.request.line q.line line_is i)) (at.by_is i) front.replies front.done))
          (λ kid. above held refl)

      same_rows : (z : List ℕ) (at_place : Place) → row_at next.world z at_place ≡ row_at m.world z at_place
      same_rows z at_place = by (is_named a z) refl
        where
          read : Option RouterState → List Place
          read o = option_map_or (λ v. row_places v at_place) o []

          by : (e : Bool) → is_named a z ≡ e → row_at next.world z at_place ≡ row_at m.world z at_place
          by true e = ap (λ v. row_at next.world v at_place) (sym (same_name a z e))
              ∙ ap read (heard_router w phase q no_client acts m here.hop here.stands n a from (Response id content) tag h hop') ∙ sym (ap read h.found) ∙ ap (λ v. row_at m.world v at_place) (same_name a z e)
          by false e = ap read (heard_other w phase q no_client acts m here.hop here.stands n a from (Response id content) tag h hop' z e)

      own_stands : Stands w phase q (acts ++ (n, c.Handle a from) ∷ []) next hop'
      own_stands = heard_moved w phase q no_client acts m here.hop here.stands n a from (Response id content) tag h hop' still' is move num refl
          (root_stays before mark start q b phase acts m here a r h.found (AtNode (replies_at (stage a) ++ passed_on t a reply) false) (with_one t stage from (AtNode front.replies front.done)))
          marks
          (pass_rows t is num stage here.stands.sound a from at.child (has_router w) (row_at m.world) (row_at next.world) (rows before mark start q b phase acts m here)
          reply front.replies front.done at.stage_is (λ z there o. same_rows z (asked_at t num z))) own_holds
          (λ d ys. tt) (λ is_own said. refl) (λ d ended. refl)

    response_there : Stands w phase q (acts ++ (n, c.Handle a from) ∷ []) next hop'
    response_there = by (is_of q.line (here.hop a from id)) refl
      where
        by : (e : Bool) → is_of q.line (here.hop a from id) ≡ e → Stands w phase q (acts ++ (n, c.Handle a from) ∷ []) next hop'
        by true own = own_stands own
        by false other = other_stands other

  pub response_stands : Then w phase q acts m here (n, c.Handle a from) next
  response_stands go still' hop' p' = response_there hop' still' p'
