-- The rows of a router are what its clients have declared.
use Rattle.std.specs.Prelude.{◌≡◌, ℕ, true, List, Option, Some}
use Rattle.std.specs.List.{AllByRecursion}
use Rattle.std.specs.Option.{option_map}
use Rattle.zr_id.specs.declared.link.LinkNo.{LinkNo}
use Rattle.zr_msg.specs.declared.decl.Decl.{Decl}
use Rattle.zr_msg.specs.declared.decl.Kind.{Kind}
use Rattle.zr_msg.specs.declared.peer.LinkPeer.{LinkPeer}
use Rattle.zr_local.specs.Rows.{row_at}
use Rattle.zr_local.specs.declared.row.Row.{Row}
use Rattle.zr_node_spec.specs.Tables.{link_to}
use Rattle.zr_node_spec.specs.Table.{key_of}
use Rattle.zr_world_spec.specs.World.{RouterState, router_of, is_settled}
use Rattle.zr_world_spec.specs.Moments.{Numbered, Moment, reached}
use Rattle.zr_law_declared.specs.Declared.{stands, IsClientOf}

-- a client that is attached to router x, which has the link to it
pub record IsLinkedClient (acts : List Numbered) (x : List ℕ) (r : RouterState) (link : LinkNo) : Type 0 where
  pub name : List ℕ
  pub client : IsClientOf acts x name
  pub neighbour : LinkPeer
  pub linked : link_to r.node.links name ≡ Some neighbour
  pub number : neighbour.link ≡ link

-- the row of a declaration that stands under an id, if one does
abbrev pub row_of : LinkNo → ℕ → Option Decl → Option Row
row_of link id standing = option_map (λ d. record { link = link; id = id; decl = d }) standing

-- The rows of router x are what its clients have declared: it has a link to each client that is attached to it, under each id it has just the
-- row of what stands there, and each row is of such a client.
pub record AreDeclared (acts : List Numbered) (x : List ℕ) (r : RouterState) : Type 0 where
  pub linked : (name : List ℕ) → IsClientOf acts x name → (l : LinkPeer) × (link_to r.node.links name ≡ Some l)
  pub rows : (name : List ℕ) (l : LinkPeer) (kind : Kind) (id : ℕ) → IsClientOf acts x name → link_to r.node.links name ≡ Some l →
      row_at r.node.rows (key_of l.link.0 id kind) ≡ row_of l.link id (stands acts name kind id)
  pub owners : AllByRecursion (λ q. IsLinkedClient acts x r q.link) r.node.rows

-- at each moment to which acts lead: where it is settled, the rows of each router are what its clients have declared
abbrev pub SettledRowsAreDeclared : Type 0
SettledRowsAreDeclared = (acts : List Numbered) (m : Moment) (x : List ℕ) (r : RouterState) → reached acts ≡ Some m → is_settled m.world ≡ true →
    router_of m.world.routers x ≡ Some r → AreDeclared acts x r
