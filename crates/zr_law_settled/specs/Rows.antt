-- What the rows of a router are: what its clients have declared.
use Rattle.std.specs.Prelude.{◌≡◌, ℕ, true, List, Some, is_some}
use Rattle.std.specs.List.{AllByRecursion}
use Rattle.zr_msg.specs.declared.decl.Kind.{Kind}
use Rattle.zr_msg.specs.declared.peer.LinkPeer.{LinkPeer}
use Rattle.zr_local.specs.Rows.{row_at}
use Rattle.zr_node_spec.specs.Tables.{link_to, leads_to_client}
use Rattle.zr_node_spec.specs.Table.{key_of}
use Rattle.zr_world_spec.specs.World.{RouterState, ClientState, WorldState, router_of, client_of, is_settled}
use Rattle.zr_world_spec.specs.Acts.{has_id}
use Rattle.zr_world_spec.specs.Moments.{Numbered, Moment, reached}

-- The rows of router x are those of its clients: a client to which the router has a link has a row under an id just where it has declared
-- the id, and no link to a router and none that is gone has a row.
pub record AreOfClients (w : WorldState) (x : List ℕ) (r : RouterState) : Type 0 where
  pub ids : (name : List ℕ) (s : ClientState) (l : LinkPeer) (kind : Kind) (id : ℕ) → client_of w.clients name ≡ Some s → s.router ≡ x →
      link_to r.node.links name ≡ Some l → is_some (row_at r.node.rows (key_of l.link.0 id kind)) ≡ has_id s kind id
  pub links : AllByRecursion (λ q. leads_to_client r.node.links q.link.0 ≡ true) r.node.rows

-- at each moment to which acts lead: where it is settled, the rows of each router are those of its clients
abbrev pub SettledRowsAreOfClients : Type 0
SettledRowsAreOfClients = (acts : List Numbered) (m : Moment) (x : List ℕ) (r : RouterState) → reached acts ≡ Some m → is_settled m.world ≡ true →
    router_of m.world.routers x ≡ Some r → AreOfClients m.world x r
