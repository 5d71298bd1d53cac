-- What replies weigh that a router sends and holds: no event makes more of them than what came (`event_carries`).
use Rattle.std.proofs.Common.{◌≡◌, ◌≤◌, ◌+◌, ℕ, ◌==◌, Bool, true, false, cond, List, [], ◌∷◌, ◌++◌, map, append-nil, Option, Some, None, refl, sym, ap, ◌∙◌, arith}
use Rattle.std.specs.Prelude.{◌&&◌, is_some}
use Rattle.std.specs.List.{AllByRecursion, flat_map, sum_by}
use Rattle.std.specs.Option.{option_map_or}
use Rattle.std.proofs.lemmas.Grind.{flat_map-append}
use Rattle.std.proofs.lemmas.List.Sums.{sum_by-cons, sum_by-append}
use Rattle.zr_id.specs.declared.link.LinkNo.{LinkNo}
use Rattle.zr_body.specs.Latest.{is_latest}
use Rattle.zr_msg.specs.Extras.{no_extras}
use Rattle.zr_msg.specs.Peer.{PeerState}
use Rattle.zr_msg.specs.declared.content.Parts.{Parts}
use Rattle.zr_msg.specs.declared.event.Event.{Event}
use Rattle.zr_msg.specs.declared.event.Event.TheVariants.{Up, Down, From}
use Rattle.zr_msg.specs.declared.extras.Extras.{Extras}
use Rattle.zr_msg.specs.declared.msg.Msg.{Msg}
use Rattle.zr_msg.specs.declared.msg.Msg.TheVariants.{Sub, Unsub, Token, Untoken, Able, Unable, Interest, EndInterest, ToldSub, ToldAble, ToldUnsub, ToldToken, ToldUntoken, ToldUnable, ToldEnd, Push, Request, Response, Final, State, Step, Snap}
use Rattle.zr_msg.specs.declared.msg.Target.{Target}
use Rattle.zr_pend_spec.specs.declared.branch.Asker.{Asker}
use Rattle.zr_pend_spec.specs.Pending.{branch, asker_of, final_to, finals_of_drop}
use Rattle.zr_pend_spec.specs.Held.{GatheringState, held_for, ending, reply_weight, gathering_weight, held_weight, gatherings_with, gatherings_without}
use Rattle.zr_node_spec.specs.Tables.{leads_to_client}
use Rattle.zr_node_spec.specs.Queries.{link_no, asker, asked_links, reply_to, final_for, held_at, passes_reply, held_to, ending_for, gathering_if}
use Rattle.zr_node_spec.specs.State.{NodeState, tables}
use Rattle.zr_node_spec.specs.Table.{sends, sends_from, sends_first, after, after_from}
use Rattle.zr_guarantee.specs.Sent.{reply_in}
use Rattle.zr_law_settled.proofs.Answering.{request_all}
use Rattle.zr_law_numbers.specs.Rows.{AreOfLinks}
use Rattle.zr_law_numbers.specs.Deeds.{handles_msg}
use Rattle.zr_law_numbers.proofs.SentOfQueries.{IsOfQueries, from_silent, first_tells, down_tells, up_silent}
use Rattle.zr_law_held.proofs.Held.{begun_weighs, holds_weigh, released_weighs, all_held_for, left_weighs}

-- ---- the replies in messages

-- the reply that a message is, whatever its line
abbrev pub contents_in : Msg → List Parts
contents_in msg = option_map_or (λ r. r.content ∷ []) (reply_in 0 msg) []

abbrev pub came : Event → ℕ
came (Up link peer) = 0
came (Down link) = 0
came (From link msg) = sum_by reply_weight (contents_in msg)

contents_are : IsOfQueries contents_in
contents_are = record { state = λ r. refl; push = λ tree content. refl; step = λ source number added decl. refl; snap = λ source number decls. refl }

-- replies that are sent, each over a link, and those of them that go over one
abbrev pub Sending : Type 0
Sending = List (LinkNo × Parts)

abbrev pub over_link : LinkNo → Sending → List Parts
over_link to sent = flat_map (λ p. cond (to.0 == p.0.0) (p.1 ∷ []) []) sent

abbrev pub sent_weight : Sending → ℕ
sent_weight sent = sum_by (λ p. reply_weight p.1) sent

-- An event sends some replies, each over one link, and these and what is held then weigh no more than what was held and what came.
pub record Carries (node : NodeState) (event : Event) : Type 0 where
  pub sent : Sending
  pub on : (to : LinkNo) → flat_map contents_in (sends node event to) ≡ over_link to sent
  pub light : sent_weight sent + held_weight (after node event).held ≤ held_weight node.held + came event

silent : (ms : List Msg) → AllByRecursion (λ m. contents_in m ≡ []) ms → flat_map contents_in ms ≡ []
silent [] h = refl
silent (m ∷ ms) h = ap (λ z. z ++ flat_map contents_in ms) h.0 ∙ silent ms h.1

-- ---- replies over one link

abbrev along : LinkNo → List Parts → Sending
along l cs = map (λ c. (l, c)) cs

nothing_for : (t : Bool) → cond {A = List Parts} t [] [] ≡ []
nothing_for true = refl
nothing_for false = refl

one_link : (to l : LinkNo) (cs : List Parts) → over_link to (along l cs) ≡ cond (to.0 == l.0) cs []
one_link to l [] = sym (nothing_for (to.0 == l.0))
one_link to l (c ∷ cs) = by (to.0 == l.0) (one_link to l cs)
  where
    by : (t : Bool) → over_link to (along l cs) ≡ cond t cs [] → cond t (c ∷ []) [] ++ over_link to (along l cs) ≡ cond t (c ∷ cs) []
    by true ih = ap (λ z. c ∷ z) ih
    by false ih = ih

one_weighs : (l : LinkNo) (cs : List Parts) → sent_weight (along l cs) ≡ sum_by reply_weight cs
one_weighs l [] = refl
one_weighs l (c ∷ cs) = sum_by-cons (λ (p : LinkNo × Parts). reply_weight p.1) (l, c) (along l cs) ∙ ap (λ n. reply_weight c + n) (one_weighs l cs) ∙ sym (sum_by-cons reply_weight c cs)

responses : (n : ℕ) (cs : List Parts) → flat_map contents_in (map (λ c. Response n c) cs) ≡ cs
responses n [] = refl
responses n (c ∷ cs) = ap (λ z. c ∷ z) (responses n cs)

-- what ends for one asker
ending_is : (held : List GatheringState) (extras : Extras) (to : LinkNo) (a : Asker) → flat_map contents_in (ending_for held extras to.0 a) ≡ cond (to.0 == a.link.0) (held_for held a) []
ending_is held extras to a = flat_map-append contents_in (held_to held to.0 a) (final_for extras to.0 a) ∙ by (to.0 == a.link.0)
  where
    by : (t : Bool) → flat_map contents_in (cond t (map (λ c. Response a.number c) (held_for held a)) []) ++ flat_map contents_in (cond t (Final a.number extras ∷ []) []) ≡ cond t (held_for held a) []
    by true = append-nil (flat_map contents_in (map (λ c. Response a.number c) (held_for held a))) ∙ responses a.number (held_for held a)
    by false = refl

-- and for several
abbrev released : List GatheringState → List Asker → Sending
released held askers = flat_map (λ a. along a.link (held_for held a)) askers

endings_are : (held : List GatheringState) (extras : Extras) (to : LinkNo) (askers : List Asker) → flat_map contents_in (flat_map (λ a. ending_for held extras to.0 a) askers) ≡ over_link to (released held askers)
endings_are held extras to [] = refl
endings_are held extras to (a ∷ askers) =
    flat_map-append contents_in (ending_for held extras to.0 a) (flat_map (λ b. ending_for held extras to.0 b) askers)
    ∙ (λ i. (ending_is held extras to a ∙ sym (one_link to a.link (held_for held a))) i ++ endings_are held extras to askers i)
    ∙ sym (flat_map-append (λ (p : LinkNo × Parts). cond (to.0 == p.0.0) (p.1 ∷ []) []) (along a.link (held_for held a)) (released held askers))

endings_weigh : (held : List GatheringState) (askers : List Asker) → sent_weight (released held askers) ≡ all_held_for held askers
endings_weigh held [] = refl
endings_weigh held (a ∷ askers) =
    sum_by-append (λ (p : LinkNo × Parts). reply_weight p.1) (along a.link (held_for held a)) (released held askers)
    ∙ (λ i. one_weighs a.link (held_for held a) i + endings_weigh held askers i)
    ∙ sym (sum_by-cons gathering_weight (ending held a) (map (λ b. ending held b) askers))

-- ---- events

-- what is held stays where nothing is taken, heard or closed
quiet_held : (node : NodeState) (from : ℕ) (msg : Msg) → handles_msg msg ≡ [] → (after_from node from msg).held ≡ node.held
quiet_held node from (Sub id key) e = refl
quiet_held node from (Unsub id) e = refl
quiet_held node from (Token id key) e = refl
quiet_held node from (Untoken id) e = refl
quiet_held node from (Able id key complete) e = refl
quiet_held node from (Unable id) e = refl
quiet_held node from (Interest id current future kinds key aggregate) e = refl
quiet_held node from (EndInterest id) e = refl
quiet_held node from (ToldSub id key interest) e = refl
quiet_held node from (ToldToken id key interest) e = refl
quiet_held node from (ToldAble id key complete interest) e = refl
quiet_held node from (ToldUnsub id) e = refl
quiet_held node from (ToldUntoken id) e = refl
quiet_held node from (ToldUnable id) e = refl
quiet_held node from (ToldEnd interest) e = refl
quiet_held node from (Push tree content) e = refl
quiet_held node from (Request tree id target content) e = absurd (cc)
quiet_held node from (Response id content) e = absurd (cc)
quiet_held node from (Final id extras) e = absurd (cc)
quiet_held node from (State links) e = refl
quiet_held node from (Step source number added decl) e = refl
quiet_held node from (Snap source number decls) e = refl

module _ (node : NodeState) (of : AreOfLinks node) where
  -- nothing is sent of replies, and nothing more is held
  nothing : (event : Event) → ((to : LinkNo) → flat_map contents_in (sends_first node event to) ≡ []) → held_weight (after node event).held ≡ held_weight node.held → Carries node event
  nothing event silent same = record {
    sent = [];
    on = λ to. first_tells contents_in contents_are node event to ∙ silent to;
    light = omega (arith, same);
  }

  up_carries : (link : LinkNo) (peer : PeerState) → Carries node (Up link peer)
  up_carries link peer = nothing (Up link peer) (λ to. up_silent contents_in contents_are node link.0 peer peer.role to.0) refl

  quiet_carries : (link : LinkNo) (msg : Msg) → handles_msg msg ≡ [] → Carries node (From link msg)
  quiet_carries link msg e = nothing (From link msg) (λ to. from_silent contents_in contents_are node link.0 msg to.0 e) (ap held_weight (quiet_held node link.0 msg e))

  -- ---- a request

  request_carries : (link : LinkNo) (tree : Option (List ℕ)) (id : ℕ) (target : Target) (content : Parts) → Carries node (From link (Request tree id target content))
  request_carries link tree id target content = nothing (From link (Request tree id target content))
      (λ to. silent (sends_from node link.0 (Request tree id target content) to.0) (request_all (λ m. contents_in m ≡ []) (λ n e. refl) (λ a b c d. refl) (tables node) node.pending link.0 tree id target content to.0))
      (by (asked_links (tables node) link.0 tree target content.key) (leads_to_client node.links link.0 && is_latest content.body))
    where
      by : (ls : List LinkNo) (latest : Bool) → held_weight (gathering_if node.held latest (asker link.0 id) ls) ≡ held_weight node.held
      by [] latest = refl
      by (l ∷ ls) true = begun_weighs (asker link.0 id) node.held
      by (l ∷ ls) false = refl

  -- ---- a reply

  reply_carries : (link : LinkNo) (id : ℕ) (content : Parts) → Carries node (From link (Response id content))
  reply_carries link id content = by (held_at node.pending node.held link.0 id content) refl (asker_of (branch (link_no link.0) id) node.pending) refl
    where
      event : Event
      event = From link (Response id content)

      weighs : came event ≡ reply_weight content
      weighs = omega (arith, sum_by-cons reply_weight content [])

      now : (o : Option Asker) → held_at node.pending node.held link.0 id content ≡ o → (after node event).held ≡ option_map_or (λ a. gatherings_with node.held a content) o node.held
      now o e = ap (λ p. option_map_or (λ a. gatherings_with node.held a content) p node.held) e

      unless : (o : Option Asker) → held_at node.pending node.held link.0 id content ≡ o → (to : LinkNo) → sends_first node event to ≡ cond (is_some o) [] (passes_reply node.pending link.0 id content to.0)
      unless o e to = ap (λ p. cond (is_some p) [] (passes_reply node.pending link.0 id content to.0)) e

      by : (o : Option Asker) → held_at node.pending node.held link.0 id content ≡ o → (p : Option Asker) → asker_of (branch (link_no link.0) id) node.pending ≡ p → Carries node event
      by (Some a) e p f = record {
        sent = [];
        on = λ to. first_tells contents_in contents_are node event to ∙ ap (flat_map contents_in) (unless (Some a) e to);
        light = omega (arith, ap held_weight (now (Some a) e), holds_weigh a content node.held of.gatherings.differ, weighs);
      }
      by None e None f = nothing event (λ to. ap (flat_map contents_in) (unless None e to ∙ ap (λ q. option_map_or (λ a. reply_to content to.0 a) q []) f)) (ap held_weight (now None e))
      by None e (Some a) f = record {
        sent = (a.link, content) ∷ [];
        on = λ to. first_tells contents_in contents_are node event to ∙ ap (flat_map contents_in) (unless None e to ∙ ap (λ q. option_map_or (λ b. reply_to content to.0 b) q []) f) ∙ one (to.0 == a.link.0);
        light = omega (arith, ap held_weight (now None e), weighs, sum_by-cons (λ (p : LinkNo × Parts). reply_weight p.1) (a.link, content) []);
      }
        where
          one : (t : Bool) → flat_map contents_in (cond t (Response a.number content ∷ []) []) ≡ cond t (content ∷ []) [] ++ []
          one true = refl
          one false = refl

  -- ---- a final, and the end of a link

  final_carries : (link : LinkNo) (id : ℕ) (extras : Extras) → Carries node (From link (Final id extras))
  final_carries link id extras = by (final_to node.pending (branch (link_no link.0) id)) refl
    where
      event : Event
      event = From link (Final id extras)

      by : (o : Option Asker) → final_to node.pending (branch (link_no link.0) id) ≡ o → Carries node event
      by None e = nothing event (λ to. ap (λ p. flat_map contents_in (option_map_or (λ a. ending_for node.held extras to.0 a) p [])) e)
          (ap (λ p. held_weight (option_map_or (λ a. gatherings_without node.held a) p node.held)) e)
      by (Some a) e =
          let now : (after node event).held ≡ gatherings_without node.held a = ap (λ p. option_map_or (λ b. gatherings_without node.held b) p node.held) e in
          record {
            sent = along a.link (held_for node.held a);
            on = λ to. first_tells contents_in contents_are node event to
                ∙ ap (λ p. flat_map contents_in (option_map_or (λ b. ending_for node.held extras to.0 b) p [])) e ∙ ending_is node.held extras to a ∙ sym (one_link to a.link (held_for node.held a));
            light = omega (arith, one_weighs a.link (held_for node.held a), released_weighs a node.held, ap held_weight now);
          }

  down_carries : (link : LinkNo) → Carries node (Down link)
  down_carries link = record {
    sent = released node.held (finals_of_drop link node.pending);
    on = λ to. first_tells contents_in contents_are node (Down link) to ∙ down_tells contents_in contents_are node link to ∙ endings_are node.held no_extras to (finals_of_drop link node.pending);
    light = omega (arith, endings_weigh node.held (finals_of_drop link node.pending), left_weighs link node.pending node.held of.sound);
  }

  -- ---- a message

  from_carries : (link : LinkNo) (msg : Msg) → Carries node (From link msg)
  from_carries link (Sub id key) = quiet_carries link (Sub id key) refl
  from_carries link (Unsub id) = quiet_carries link (Unsub id) refl
  from_carries link (Token id key) = quiet_carries link (Token id key) refl
  from_carries link (Untoken id) = quiet_carries link (Untoken id) refl
  from_carries link (Able id key complete) = quiet_carries link (Able id key complete) refl
  from_carries link (Unable id) = quiet_carries link (Unable id) refl
  from_carries link (Interest id current future kinds key aggregate) = quiet_carries link (Interest id current future kinds key aggregate) refl
  from_carries link (EndInterest id) = quiet_carries link (EndInterest id) refl
  from_carries link (ToldSub id key interest) = quiet_carries link (ToldSub id key interest) refl
  from_carries link (ToldToken id key interest) = quiet_carries link (ToldToken id key interest) refl
  from_carries link (ToldAble id key complete interest) = quiet_carries link (ToldAble id key complete interest) refl
  from_carries link (ToldUnsub id) = quiet_carries link (ToldUnsub id) refl
  from_carries link (ToldUntoken id) = quiet_carries link (ToldUntoken id) refl
  from_carries link (ToldUnable id) = quiet_carries link (ToldUnable id) refl
  from_carries link (ToldEnd interest) = quiet_carries link (ToldEnd interest) refl
  from_carries link (Push tree content) = quiet_carries link (Push tree content) refl
  from_carries link (Request tree id target content) = request_carries link tree id target content
  from_carries link (Response id content) = reply_carries link id content
  from_carries link (Final id extras) = final_carries link id extras
  from_carries link (State links) = quiet_carries link (State links) refl
  from_carries link (Step source number added decl) = quiet_carries link (Step source number added decl) refl
  from_carries link (Snap source number decls) = quiet_carries link (Snap source number decls) refl

  pub event_carries : (event : Event) → Carries node event
  event_carries (Up link peer) = up_carries link peer
  event_carries (Down link) = down_carries link
  event_carries (From link msg) = from_carries link msg
