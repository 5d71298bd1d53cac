-- No event that may come in a world is refused by its router: own records are far below their limits, and what waits is taken, where requests are.
use Rattle.std.proofs.Common.{◌≡◌, ◌<◌, ℕ, true, List, Some, None, refl, ap, ◌∙◌, subst, arith}
use Rattle.std.specs.Prelude.{◌-◌, ◌^◌}
use Rattle.std.specs.Option.{option_or}
use Rattle.std.proofs.lemmas.Bool.{eqb-true}
use Rattle.zr_lists.proofs.Finds.{In, find_in}
use Rattle.zr_lists.proofs.Elements.{each_in}
use Rattle.zr_id.specs.declared.link.LinkNo.{LinkNo}
use Rattle.zr_msg.specs.declared.event.Event.TheVariants.{Up, Down, From}
use Rattle.zr_msg.specs.declared.msg.Msg.{Msg}
use Rattle.zr_node_spec.specs.Tables.{is_link, link_at, link_to}
use Rattle.zr_node_spec.specs.Table.{rows_left, refuses_rows}
use Rattle.zr_world_spec.specs.World.{RouterState, WorldState, router_of, with_ends}
use Rattle.zr_world_spec.specs.Acts.{sending, refuses_of}
use Rattle.zr_law_settled.specs.Events.{IsOldest, RequestsAreTaken, EventsAreTaken}
use Rattle.zr_law_settled.proofs.Events.{links_are_taken}
use Rattle.zr_law_settled.proofs.WeightsActs.{weights_leave, up_holds, hears_down}
use Rattle.zr_law_settled.proofs.Wanting.{hub_takes}
use Rattle.zr_law_settled.proofs.BoundedActs.{AreBounded}
use Rattle.zr_law_settled.proofs.Goes.{Goes, wants_little, oldest_taken}

-- the oldest message on the wire from the neighbour of a link
heard_taken : (w : WorldState) → Goes w → RequestsAreTaken w → (x : List ℕ) (r : RouterState) → router_of w.routers x ≡ Some r → (link : LinkNo) (msg : Msg) → IsOldest w x r link msg → refuses_of r (From link msg) ≡ None
heard_taken w g requests x r found link msg o =
    subst (λ (q : LinkNo). refuses_of r (From q msg) ≡ None) number (oldest_taken w g requests x o.neighbour.peer.id r found o.at o.found o.neighbour named msg o.tag o.rest o.front)
  where
    is : In o.neighbour r.node.links × (is_link link.0 o.neighbour ≡ true)
    is = find_in (λ l. is_link link.0 l) r.node.links o.neighbour o.linked

    number : o.neighbour.link ≡ link
    number = ap (λ n. let q : LinkNo = record { 0 = n } in q) (eqb-true o.neighbour.link.0 link.0 is.1)

    named : link_to r.node.links o.neighbour.peer.id ≡ Some o.neighbour
    named = each_in _ r.node.links o.neighbour (g.sound.unique x r found).names is.0

-- each event that may come
pub events_are_taken : (n : ℕ) (w : WorldState) → n < 2 ^ 64 - 1 → Goes w → AreBounded n w.routers → RequestsAreTaken w → EventsAreTaken w
events_are_taken n w least g bounds requests x r (Up link peer) found heard =
    hub_takes r (Up link peer) ((links_are_taken w g.sound g.holds n least bounds x r found).up peer.role)
    (wants_little w g x r found (Up link peer) (sending (with_ends w w.ends) x r (Up link peer) 0) refl (up_holds w g.weights x r found link peer 0 w.ends (λ y. omega arith) g.weights.way))
events_are_taken n w least g bounds requests x r (Down link) found heard =
    hub_takes r (Down link)
    (ap (λ o. option_or o (refuses_rows r.node (rows_left r.node link.0))) ((links_are_taken w g.sound g.holds n least bounds x r found).down (link_at r.node.links link.0)) ∙ weights_leave w g.weights x r found link.0)
    (wants_little w g x r found (Down link) (sending w x r (Down link) 0) refl (hears_down w g.weights 0 x r found link))
events_are_taken n w least g bounds requests x r (From link msg) found heard = heard_taken w g requests x r found link msg heard
