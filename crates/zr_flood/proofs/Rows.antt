-- The lists that the calls append are the rows of the router's table, link by link.
use Rattle.std.proofs.Common.{◌≡◌, ℕ, ◌==◌, ◌&&◌, not, Bool, true, false, cond, List, [], ◌∷◌, ◌++◌, Option, Some, None, map, refl, sym, ap, ◌∙◌}
use Rattle.std.specs.Option.{option_map_or}
use Rattle.std.proofs.lemmas.Bool.{eqb-true, eq-eqb, false_from_ne_true}
use Rattle.std.proofs.lemmas.List.{append-nil}
use Rattle.zr_id.specs.Record.{RecordState}
use Rattle.zr_id.specs.declared.link.LinkNo.{LinkNo}
use Rattle.zr_graph.specs.Base.{BaseState, is_newer}
use Rattle.zr_graph.specs.Record.{record_of}
use Rattle.zr_msg.specs.declared.msg.Msg.{Msg}
use Rattle.zr_msg.specs.declared.msg.Msg.TheVariants.{State}
use Rattle.zr_msg.specs.declared.peer.LinkPeer.{LinkPeer}
use Rattle.zr_msg.specs.Peer.{PeerState}
use Rattle.zr_msg.specs.declared.peer.Role.TheVariants.{Router}
use Rattle.zr_node_spec.specs.Event.{on_link}
use Rattle.zr_node_spec.specs.Tables.{is_router, leads_to_router}
use Rattle.zr_node_spec.specs.State.{NodeState}
use Rattle.zr_node_spec.specs.Table.{joined, own_link, parted, is_other_router, all_records, sends_own, sends_up, sends_parted, sends_state}
use Rattle.zr_node_spec.proofs.Links.{asked_of_number}
use Rattle.zr_node_spec.proofs.Told.{on_link-append, on_picked}
use Rattle.zr_flood.specs.Flood.{AreOf, to_others, own_to_others, all_to}

abbrev nothing : List Msg
nothing = []

-- a message to every other router
pub on_others : (node : NodeState) (links : List LinkPeer) → AreOf node links → (from : ℕ) (msg : Msg) (to : LinkNo)
    → on_link to (to_others links from msg) ≡ cond (is_other_router node from to.0) (msg ∷ []) []
on_others node links of from msg to =
    ap (λ ps. on_link to (to_others ps from msg)) of.same
    ∙ on_picked (λ l. not (l.link.0 == from) && is_router l.peer.role) msg node.links of.right.ascending to
    ∙ ap (λ b. cond b (msg ∷ []) []) (asked_of_number (λ l. is_router l.peer.role) from to.0 node.links)

-- the own record to every other router
pub on_own : (node : NodeState) (links : List LinkPeer) → AreOf node links → (from : ℕ) (b : BaseState) (to : LinkNo)
    → on_link to (own_to_others b links from) ≡ sends_own node from b to.0
on_own node links of from b to = by (record_of b.records b.me)
  where
    by : (o : Option RecordState) → on_link to (option_map_or (λ r. to_others links from (State r)) o []) ≡ cond (is_other_router node from to.0) (option_map_or (λ r. State r ∷ []) o []) []
    by (Some r) = on_others node links of from (State r) to
    by None = none (is_other_router node from to.0)
      where
        none : (t : Bool) → nothing ≡ cond t [] []
        none true = refl
        none false = refl

-- all records to one link
on_all : (records : List RecordState) (up to : LinkNo) → on_link to (map (λ r. (up, State r)) records) ≡ cond (up.0 == to.0) (map (λ r. State r) records) []
on_all [] up to = by (up.0 == to.0)
  where
    by : (t : Bool) → nothing ≡ cond t [] []
    by true = refl
    by false = refl
on_all (r ∷ records) up to = by (up.0 == to.0) refl (on_all records up to)
  where
    by : (t : Bool) → (up.0 == to.0) ≡ t → on_link to (map (λ r. (up, State r)) records) ≡ cond (up.0 == to.0) (map (λ r. State r) records) []
        → on_link to ((up, State r) ∷ map (λ r. (up, State r)) records) ≡ cond t (State r ∷ map (λ r. State r) records) []
    by true e ih = rw e (ap (λ ms. State r ∷ ms) (rw e at ih))
    by false e ih = rw e (rw e at ih)

-- all of it, once a link to a router has come up
pub on_up : (node : NodeState) (links : List LinkPeer) (peer : PeerState) (b : BaseState) → AreOf node links → b ≡ joined node.base (own_link peer) → (up to : LinkNo)
    → on_link to (all_to b up ++ own_to_others b links up.0) ≡ sends_up node up.0 peer Router to.0
on_up node links peer b of e up to =
    on_link-append to (all_to b up) (own_to_others b links up.0)
    ∙ ap (λ ms. ms ++ on_link to (own_to_others b links up.0)) (on_all b.records up to)
    ∙ ap (λ ms. cond (up.0 == to.0) (all_records b) [] ++ ms) (on_own node links of up.0 b to)
    ∙ by (up.0 == to.0) refl
    ∙ ap (λ z. cond (to.0 == up.0) (all_records z) (sends_own node up.0 z to.0)) e
  where
    by : (t : Bool) → (up.0 == to.0) ≡ t → cond t (all_records b) [] ++ sends_own node up.0 b to.0 ≡ cond (to.0 == up.0) (all_records b) (sends_own node up.0 b to.0)
    by true h =
        let same : (to.0 == up.0) ≡ true = eq-eqb to.0 up.0 (sym (eqb-true up.0 to.0 h)) in
        rw same (append-nil (all_records b))
    by false h =
        let other : (to.0 == up.0) ≡ false = false_from_ne_true (to.0 == up.0) (λ t. let same : (up.0 == to.0) ≡ true = eq-eqb up.0 to.0 (sym (eqb-true to.0 up.0 t)) in cc) in
        rw other refl

-- once a link to a router has gone down
pub on_down : (node : NodeState) (links : List LinkPeer) (peer : PeerState) (b : BaseState) → AreOf node links → b ≡ parted node.base peer.id → (down to : LinkNo)
    → on_link to (own_to_others b links down.0) ≡ sends_parted node down.0 peer Router to.0
on_down node links peer b of e down to = on_own node links of down.0 b to ∙ ap (λ z. sends_own node down.0 z to.0) e

-- a newer record
pub on_newer : (node : NodeState) (links : List LinkPeer) (r : RecordState) (from : LinkNo) → AreOf node links → leads_to_router node.links from.0 ≡ true → is_newer node.base r ≡ true → (to : LinkNo)
    → on_link to (to_others links from.0 (State r)) ≡ sends_state node from.0 r to.0
on_newer node links r from of leads newer to = on_others node links of from.0 (State r) to ∙ ap (λ b. cond b (State r ∷ []) []) (by (leads_to_router node.links from.0) (is_newer node.base r) leads newer)
  where
    by : (a b : Bool) → a ≡ true → b ≡ true → is_other_router node from.0 to.0 ≡ (a && b && is_other_router node from.0 to.0)
    by a b h k = rw (h, k) refl
