-- What holds of the world of each script: an act that isn't refused keeps it (proofs, Sound), and by it the next step is possible.
use Rattle.std.specs.Prelude.{◌≡◌, ℕ, List, ◌∷◌, true, false, Some, None, Ok, is_some}
use Rattle.std.specs.List.{AllByRecursion}
use Rattle.std.specs.List.Sorted.{IsStrictlySortedBy}
use Rattle.std.specs.Map.{keys_of}
use Rattle.zr_id.specs.Zid.{is_named}
use Rattle.zr_node_spec.specs.Tables.{is_router, link_at, link_to}
use Rattle.zr_msg.specs.declared.peer.LinkPeer.{LinkPeer}
use Rattle.zr_id.specs.declared.link.LinkNo.{LinkNo}
use Rattle.zr_msg.specs.declared.event.Event.TheVariants.{From}
use Rattle.zr_world_spec.specs.Acts.{number_to, refuses_of}
use Rattle.zr_world_spec.specs.World.{Tagged, RouterState, ClientState, EndState, WorldState, router_of, client_of, is_taken, end_cmp, end_of, is_up}

-- of a router's links each is the one of its number, and the one to its neighbour
pub record AreUnique (links : List LinkPeer) : Type 0 where
  pub numbers : AllByRecursion (λ l. link_at links l.link.0 ≡ Some l) links
  pub names : AllByRecursion (λ l. link_to links l.peer.id ≡ Some l) links

-- The ends are those of routers that are there and of neighbours that are there, each pair once and none with itself; each client has an
-- end; each router has its own name, and has one link to each of just those neighbours to which its end is up, which are routers where
-- the link says so.
pub record IsSound (w : WorldState) : Type 0 where
  pub in_order : IsStrictlySortedBy end_cmp (keys_of w.ends)
  pub routers : (x y : List ℕ) → is_some (end_of w.ends (x, y)) ≡ true → is_some (router_of w.routers x) ≡ true
  pub neighbours : (x y : List ℕ) → is_some (end_of w.ends (x, y)) ≡ true → is_taken w y ≡ true
  pub apart : (x y : List ℕ) → is_some (end_of w.ends (x, y)) ≡ true → is_named x y ≡ false
  pub clients : (name : List ℕ) (s : ClientState) → client_of w.clients name ≡ Some s → is_some (end_of w.ends (s.router, name)) ≡ true
  pub own : (x : List ℕ) (r : RouterState) → router_of w.routers x ≡ Some r → r.node.base.me ≡ x
  pub unique : (x : List ℕ) (r : RouterState) → router_of w.routers x ≡ Some r → AreUnique r.node.links
  pub links : (x y : List ℕ) (r : RouterState) → router_of w.routers x ≡ Some r → is_some (link_to r.node.links y) ≡ is_up w.ends (x, y)
  pub roles : (x y : List ℕ) (r : RouterState) (l : LinkPeer) → router_of w.routers x ≡ Some r → link_to r.node.links y ≡ Some l →
      is_router l.peer.role ≡ is_some (router_of w.routers y)

-- each router takes the oldest message on the wire to each of its ends that is up
abbrev pub AllAreTaken : WorldState → Type 0
AllAreTaken w = (x y : List ℕ) (r : RouterState) (s : EndState) (l : LinkNo) (m : Tagged) (more : List Tagged) → router_of w.routers x ≡ Some r → end_of w.ends (x, y) ≡ Some s →
    s.up ≡ true → s.wire ≡ m ∷ more → number_to r y ≡ Ok l → refuses_of r (From l m.msg) ≡ None
