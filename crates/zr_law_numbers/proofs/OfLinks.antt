-- That rows name only links that are up stays so by each event.
use Rattle.std.proofs.Common.{◌≡◌, ℕ, ◌==◌, ◌&&◌, Bool, true, false, cond, not, List, [], ◌∷◌, map, filter, Option, Some, None, refl, sym, ap, ◌∙◌, arith}
use Rattle.std.specs.Prelude.{is_some}
use Rattle.std.specs.List.{AllByRecursion}
use Rattle.std.specs.Option.{option_map_or, IfSome}
use Rattle.std.proofs.lemmas.Bool.{eqb-true, false≢true, and_parts}
use Rattle.zr_id.specs.declared.link.LinkNo.{LinkNo}
use Rattle.zr_msg.specs.declared.msg.Msg.{Msg}
use Rattle.zr_msg.specs.declared.msg.Msg.TheVariants.{Sub, Unsub, Token, Untoken, Able, Unable, Interest, EndInterest, ToldSub, ToldAble, ToldUnsub, ToldToken, ToldUntoken, ToldUnable, ToldEnd, Push, Request, Response, Final, State, Step, Snap}
use Rattle.zr_body.specs.Latest.{is_latest}
use Rattle.zr_msg.specs.declared.content.Parts.{Parts}
use Rattle.zr_msg.specs.declared.event.Event.TheVariants.{Up, Down}
use Rattle.zr_msg.specs.declared.extras.Extras.{Extras}
use Rattle.zr_msg.specs.declared.msg.Target.{Target}
use Rattle.zr_msg.specs.declared.peer.LinkPeer.{LinkPeer}
use Rattle.zr_msg.specs.Peer.{PeerState}
use Rattle.zr_pend_spec.specs.declared.branch.Asker.{Asker}
use Rattle.zr_pend_spec.specs.declared.branch.Branch.{Branch}
use Rattle.zr_pend_spec.specs.Row.{RowState}
use Rattle.zr_pend_spec.specs.Pending.{asked, branch, branches, differ, final_to, finals_of_drop}
use Rattle.zr_pend_spec.specs.Held.{GatheringState, is_for, gathering_begun, gatherings_with, after_final_to, AreGatherings}
use Rattle.zr_pend_spec.proofs.Sound.{begun_sound, finished_sound, dropped_sound}
use Rattle.zr_node_spec.specs.Tables.{TableState, AreNumbered, is_link, link_at, is_router, leads_to_client}
use Rattle.zr_node_spec.specs.Samples.{tree_of}
use Rattle.zr_node_spec.specs.Queries.{asker, link_no, is_asked, links_along, asked_links, asked_over, held_at, gathering_if}
use Rattle.zr_node_spec.specs.State.{NodeState, new_link, tables}
use Rattle.zr_node_spec.specs.Table.{with_pending, with_held, with_link, without_link, after, after_from, refuses_request}
use Rattle.zr_node_spec.specs.Event.{IsFresh}
use Rattle.zr_node_spec.proofs.AreLinks.{ascending_up, ascending_down}
use Rattle.zr_lists.proofs.Each.{All-append, All-each, All-filter, All-kept}
use Rattle.zr_node_spec.proofs.Links.{numbers_of}
use Rattle.zr_law_numbers.specs.Rows.{AreOfLinks}
use Rattle.zr_law_numbers.specs.Deeds.{handles_msg}
use Rattle.zr_law_numbers.proofs.Apart.{asked_differ}
use Rattle.zr_law_numbers.proofs.LinksAfter.{at_with_link, at_without_link}
use Rattle.zr_law_numbers.proofs.RowsLinks.{begun_askers, begun_branches, finished_askers, finished_links, dropped_askers, dropped_branches}
use Rattle.zr_law_numbers.proofs.DeedsOfRequests.{number_is_free}
use Rattle.zr_law_numbers.proofs.Gatherings.{all_with, begun_gatherings, with_gatherings, finished_gatherings, dropped_gatherings, left_are_off}

-- the link of a number is up
abbrev pub IsUp : List LinkPeer → ℕ → Type 0
IsUp links n = is_some (link_at links n) ≡ true

-- the links of those for whom replies are gathered lead to clients
abbrev OfClients : List LinkPeer → List GatheringState → Type 0
OfClients links held = AllByRecursion (λ g. leads_to_client links g.asker.link.0 ≡ true) held

-- the rows of a router name links that are up, so by a message that changes neither rows nor links
pub quiet_keeps : (node : NodeState) (from : ℕ) (msg : Msg) → handles_msg msg ≡ [] → AreOfLinks node → AreOfLinks (after_from node from msg)
quiet_keeps node from (Sub id key) e h = record { numbered = h.numbered; sound = h.sound; askers = h.askers; branches = h.branches; gatherings = h.gatherings; of_clients = h.of_clients }
quiet_keeps node from (Unsub id) e h = record { numbered = h.numbered; sound = h.sound; askers = h.askers; branches = h.branches; gatherings = h.gatherings; of_clients = h.of_clients }
quiet_keeps node from (Token id key) e h = record { numbered = h.numbered; sound = h.sound; askers = h.askers; branches = h.branches; gatherings = h.gatherings; of_clients = h.of_clients }
quiet_keeps node from (Untoken id) e h = record { numbered = h.numbered; sound = h.sound; askers = h.askers; branches = h.branches; gatherings = h.gatherings; of_clients = h.of_clients }
quiet_keeps node from (Able id key complete) e h = record { numbered = h.numbered; sound = h.sound; askers = h.askers; branches = h.branches; gatherings = h.gatherings; of_clients = h.of_clients }
quiet_keeps node from (Unable id) e h = record { numbered = h.numbered; sound = h.sound; askers = h.askers; branches = h.branches; gatherings = h.gatherings; of_clients = h.of_clients }
quiet_keeps node from (Interest id current future kinds key aggregate) e h = record { numbered = h.numbered; sound = h.sound; askers = h.askers; branches = h.branches; gatherings = h.gatherings; of_clients = h.of_clients }
quiet_keeps node from (EndInterest id) e h = record { numbered = h.numbered; sound = h.sound; askers = h.askers; branches = h.branches; gatherings = h.gatherings; of_clients = h.of_clients }
quiet_keeps node from (ToldSub id key interest) e h = h
quiet_keeps node from (ToldToken id key interest) e h = h
quiet_keeps node from (ToldAble id key complete interest) e h = h
quiet_keeps node from (ToldUnsub id) e h = h
quiet_keeps node from (ToldUntoken id) e h = h
quiet_keeps node from (ToldUnable id) e h = h
quiet_keeps node from (ToldEnd interest) e h = h
quiet_keeps node from (Push tree content) e h = h
quiet_keeps node from (Request tree id target content) e h = absurd (cc)
quiet_keeps node from (Response id content) e h = absurd (cc)
quiet_keeps node from (Final id extras) e h = absurd (cc)
quiet_keeps node from (State links) e h = record { numbered = h.numbered; sound = h.sound; askers = h.askers; branches = h.branches; gatherings = h.gatherings; of_clients = h.of_clients }
quiet_keeps node from (Step source number added decl) e h = record { numbered = h.numbered; sound = h.sound; askers = h.askers; branches = h.branches; gatherings = h.gatherings; of_clients = h.of_clients }
quiet_keeps node from (Snap source number decls) e h = record { numbered = h.numbered; sound = h.sound; askers = h.askers; branches = h.branches; gatherings = h.gatherings; of_clients = h.of_clients }

-- ---- a request

each_is_up : (links : List LinkPeer) → AreNumbered links → AllByRecursion (λ l. IsUp links l.link.0) links
each_is_up links up = All-each (λ l. link_at links l.link.0 ≡ Some l) (λ l. IsUp links l.link.0) links (λ l e. ap is_some e) (numbers_of links up)

of_mapped : (P : ℕ → Type 0) (ls : List LinkPeer) → AllByRecursion (λ l. P l.link.0) ls → AllByRecursion (λ k. P k.0) (map (λ l. l.link) ls)
of_mapped P [] h = tt
of_mapped P (l ∷ ls) h = (h.0, of_mapped P ls h.1)

along_are_up : (t : TableState) (from : ℕ) (o : Option (List ℕ)) (target : Target) (key : List ℕ) → AreNumbered t.links → AllByRecursion (λ k. IsUp t.links k.0) (links_along t from o target key)
along_are_up t from None target key up = tt
along_are_up t from (Some tree) target key up =
    of_mapped (λ n. IsUp t.links n) (filter (λ l. is_asked t from tree target key l l.peer.role) t.links)
    (All-kept (λ l. IsUp t.links l.link.0) (λ l. IsUp t.links l.link.0) (λ l. is_asked t from tree target key l l.peer.role) t.links (λ l p k. p) (each_is_up t.links up))

pub request_keeps : (node : NodeState) (from id : ℕ) (to : List LinkNo) (latest : Bool) → (latest ≡ true → leads_to_client node.links from ≡ true) → IsUp node.links from → differ to ≡ true →
    AllByRecursion (λ k. IsUp node.links k.0) to → asked (asker from id) node.pending ≡ false → AreOfLinks node →
    AreOfLinks (with_held (with_pending node (asked_over node.pending (asker from id) to)) (gathering_if node.held latest (asker from id) to))
request_keeps node from id [] latest client up apart ups free h =
    record { numbered = h.numbered; sound = h.sound; askers = h.askers; branches = h.branches; gatherings = h.gatherings; of_clients = h.of_clients }
request_keeps node from id (k ∷ ks) latest client up apart ups free h = record {
  numbered = h.numbered;
  sound = begun_sound node.pending (asker from id) (k ∷ ks) (omega arith) apart free h.sound;
  askers = begun_askers (λ n. IsUp node.links n) node.pending (asker from id) (k ∷ ks) h.askers up;
  branches = begun_branches (λ n. IsUp node.links n) node.pending (asker from id) (k ∷ ks) h.branches ups;
  gatherings = begun_gatherings node.pending node.held (asker from id) (k ∷ ks) latest free h.gatherings;
  of_clients = by latest client;
}
  where
    by : (t : Bool) → (t ≡ true → leads_to_client node.links from ≡ true) → OfClients node.links (cond t (gathering_begun node.held (asker from id)) node.held)
    by true c = All-append (λ (g : GatheringState). leads_to_client node.links g.asker.link.0 ≡ true) node.held (record { asker = asker from id; held = [] } ∷ []) h.of_clients (c refl, tt)
    by false c = h.of_clients

pub taken_keeps : (node : NodeState) (link : LinkNo) (tree : Option (List ℕ)) (id : ℕ) (target : Target) (content : Parts) → IsUp node.links link.0 →
    refuses_request node link.0 id (asked_links (tables node) link.0 tree target content.key) ≡ None → AreOfLinks node → AreOfLinks (after_from node link.0 (Request tree id target content))
taken_keeps node link tree id target content up r h =
    let to : List LinkNo = asked_links (tables node) link.0 tree target content.key in
    request_keeps node link.0 id to (leads_to_client node.links link.0 && is_latest content.body) (λ e. (and_parts (leads_to_client node.links link.0) (is_latest content.body) e).0)
    up (asked_differ (tables node) link.0 tree target content.key h.numbered)
    (along_are_up (tables node) link.0 (tree_of (tables node) (link_at node.links link.0) tree) target content.key h.numbered) (number_is_free node link.0 id to r) h

-- ---- a reply

pub reply_keeps : (node : NodeState) (from id : ℕ) (content : Parts) → AreOfLinks node → AreOfLinks (after_from node from (Response id content))
reply_keeps node from id content h = record {
  numbered = h.numbered;
  sound = h.sound;
  askers = h.askers;
  branches = h.branches;
  gatherings = (by (held_at node.pending node.held from id content)).0;
  of_clients = (by (held_at node.pending node.held from id content)).1;
}
  where
    by : (o : Option Asker) → AreGatherings node.pending (option_map_or (λ a. gatherings_with node.held a content) o node.held) × OfClients node.links (option_map_or (λ a. gatherings_with node.held a content) o node.held)
    by None = (h.gatherings, h.of_clients)
    by (Some a) = (with_gatherings node.pending node.held a content h.gatherings, all_with (λ b. leads_to_client node.links b.link.0 ≡ true) a content node.held h.of_clients)

-- ---- a final, and links that come and go

pub final_keeps : (node : NodeState) (from id : ℕ) (extras : Extras) → AreOfLinks node → AreOfLinks (after_from node from (Final id extras))
final_keeps node from id extras h =
    let b : Branch = branch (link_no from) id in
    record {
      numbered = h.numbered;
      sound = finished_sound node.pending b h.sound;
      askers = finished_askers (λ n. IsUp node.links n) node.pending b h.askers;
      branches = finished_links (λ n. IsUp node.links n) node.pending b h.branches;
      gatherings = finished_gatherings node.pending node.held b h.sound h.gatherings;
      of_clients = by (final_to node.pending b);
    }
  where
    by : (o : Option Asker) → OfClients node.links (after_final_to node.held o)
    by None = h.of_clients
    by (Some a) = All-filter (λ (g : GatheringState). not (is_for a g)) (λ (g : GatheringState). leads_to_client node.links g.asker.link.0 ≡ true) node.held h.of_clients

pub down_keeps : (node : NodeState) (link : LinkNo) → AreOfLinks node → AreOfLinks (after node (Down link))
down_keeps node link h =
    let now : List LinkPeer = without_link node.links link.0 in
    record {
      numbered = ascending_down node.links link.0 h.numbered;
      sound = dropped_sound link node.pending h.sound;
      askers = dropped_askers (λ n. IsUp node.links n) (λ n. IsUp now n) link others node.pending h.askers;
      branches = dropped_branches (λ n. IsUp node.links n) (λ n. IsUp now n) link others node.pending h.branches;
      gatherings = dropped_gatherings link node.pending node.held h.sound h.gatherings;
      of_clients = left_are_off (λ a. leads_to_client node.links a.link.0 ≡ true) (λ a. leads_to_client now a.link.0 ≡ true) link (λ a e p. stays a.link.0 e ∙ p) node.held (finals_of_drop link node.pending) h.of_clients;
    }
  where
    same : (n : ℕ) → (n == link.0) ≡ false → link_at (without_link node.links link.0) n ≡ link_at node.links n
    same n e = at_without_link node.links link.0 n ∙ ap (λ b. cond b None (link_at node.links n)) e

    others : (n : ℕ) → (n == link.0) ≡ false → IsUp node.links n → IsUp (without_link node.links link.0) n
    others n e p = ap is_some (same n e) ∙ p

    stays : (n : ℕ) → (n == link.0) ≡ false → leads_to_client (without_link node.links link.0) n ≡ leads_to_client node.links n
    stays n e = ap (λ o. option_map_or (λ (l : LinkPeer). not (is_router l.peer.role)) o false) (same n e)

-- links that are up stay up where one more comes up
up_stays : (links : List LinkPeer) (l : LinkPeer) → AreNumbered links → link_at links l.link.0 ≡ None → (n : ℕ) → IsUp links n → IsUp (with_link links l) n
up_stays links l up none n p = ap is_some (at_with_link links l n up none) ∙ by (is_link n l)
  where
    by : (t : Bool) → is_some (cond t (Some l) (link_at links n)) ≡ true
    by true = refl
    by false = p

client_stays : (links : List LinkPeer) (l : LinkPeer) → AreNumbered links → link_at links l.link.0 ≡ None → (n : ℕ) → leads_to_client links n ≡ true → leads_to_client (with_link links l) n ≡ true
client_stays links l up none n p = ap (λ o. option_map_or (λ (k : LinkPeer). not (is_router k.peer.role)) o false) (at_with_link links l n up none) ∙ by (is_link n l) refl
  where
    by : (t : Bool) → is_link n l ≡ t → option_map_or (λ (k : LinkPeer). not (is_router k.peer.role)) (cond t (Some l) (link_at links n)) false ≡ true
    by true e = absurd (false≢true (ap (λ o. option_map_or (λ (k : LinkPeer). not (is_router k.peer.role)) o false) (sym none ∙ ap (link_at links) (eqb-true l.link.0 n e)) ∙ p))
    by false e = p

pub up_keeps : (node : NodeState) (link : LinkNo) (peer : PeerState) → IsFresh node link peer → AreOfLinks node → AreOfLinks (after node (Up link peer))
up_keeps node link peer fresh h =
    let l : LinkPeer = new_link link peer in
    record {
      numbered = ascending_up node.links l h.numbered;
      sound = h.sound;
      askers = All-each (λ (r : RowState). IfSome r.asker (λ a. IsUp node.links a.link.0)) (λ (r : RowState). IfSome r.asker (λ a. IsUp (with_link node.links l) a.link.0)) node.pending
          (λ r. each r.asker) h.askers;
      branches = All-each (λ (b : Branch). IsUp node.links b.link.0) (λ (b : Branch). IsUp (with_link node.links l) b.link.0) (branches node.pending)
          (λ b p. up_stays node.links l h.numbered fresh.number b.link.0 p) h.branches;
      gatherings = h.gatherings;
      of_clients = All-each (λ (g : GatheringState). leads_to_client node.links g.asker.link.0 ≡ true) (λ (g : GatheringState). leads_to_client (with_link node.links l) g.asker.link.0 ≡ true) node.held
          (λ g p. client_stays node.links l h.numbered fresh.number g.asker.link.0 p) h.of_clients;
    }
  where
    each : (o : Option Asker) → IfSome o (λ a. IsUp node.links a.link.0) → IfSome o (λ a. IsUp (with_link node.links (new_link link peer)) a.link.0)
    each None p = tt
    each (Some a) p = up_stays node.links (new_link link peer) h.numbered fresh.number a.link.0 p
