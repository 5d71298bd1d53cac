-- Settled tables agree: in each settled moment of each script each router sees the links that are up, as far as it reaches, and knows what
-- the clients of each router that it reaches have declared.
use Rattle.std.specs.Prelude.{◌≡◌, ℕ, true, List, ◌++◌, Some}
use Rattle.zr_graph.specs.Record.{record_of, has_edge, edge_weight}
use Rattle.zr_tree.specs.Walk.{IsWalk, graph_of}
use Rattle.zr_local.specs.Rows.{declared_set}
use Rattle.zr_log.specs.Known.{position, decls}
use Rattle.zr_world_spec.specs.World.{RouterState, WorldState, router_of, is_linked, is_settled}
use Rattle.zr_world_spec.specs.Joined.{linked_weight, graph, is_joined}
use Rattle.zr_world_spec.specs.Moments.{Numbered, Moment, reached}
use Rattle.zr_world_spec.specs.Accepted.{accepted}

-- Router x sees router z, to which links lead that are up at both ends: it has the record that z has of itself, and an edge of z and y by
-- its records is a link of z and y that is up at both ends, and weighs what that link weighs.
pub record Sees (w : WorldState) (rx rz : RouterState) (z : List ℕ) : Type 0 where
  pub record_is : record_of rx.node.base.records z ≡ record_of rz.node.base.records z
  pub edges_are : (y : List ℕ) → has_edge rx.node.base.records z y ≡ is_linked w.ends z y
  pub weights_are : (y : List ℕ) → edge_weight rx.node.base.records z y ≡ linked_weight w.ends z y

-- each router sees each one that it reaches
abbrev pub TablesAgree : WorldState → Type 0
TablesAgree w = (x z : List ℕ) (path : List (List ℕ)) (rx rz : RouterState) → router_of w.routers x ≡ Some rx → router_of w.routers z ≡ Some rz →
    IsWalk (graph w) x path z → Sees w rx rz z

-- Router x knows all of the log of router z: as many changes as z made of its own log, the set that z has, and that is what the clients of z
-- have declared.
pub record Knows (rx rz : RouterState) (z : List ℕ) : Type 0 where
  pub position_is : position rx.node.known z ≡ position rz.node.known z
  pub decls_are : decls rx.node.known z ≡ decls rz.node.known z
  pub declared_is : decls rz.node.known z ≡ declared_set rz.node.rows

-- each router knows the logs of each one that it reaches
abbrev pub LogsAgree : WorldState → Type 0
LogsAgree w = (x z : List ℕ) (path : List (List ℕ)) (rx rz : RouterState) → router_of w.routers x ≡ Some rx → router_of w.routers z ≡ Some rz →
    IsWalk (graph w) x path z → Knows rx rz z

-- ---- scripts

-- at each moment to which accepted acts of some lines lead, also within a run: where it is settled, tables agree
abbrev pub AgreeWhereSettled : List (List ℕ) → Type 0
AgreeWhereSettled ls = (before rest : List Numbered) → accepted ls ≡ before ++ rest →
    (m : Moment) × (reached before ≡ Some m) × (is_settled m.world ≡ true → TablesAgree m.world)

abbrev pub SettledTablesAgree : Type 0
SettledTablesAgree = (ls : List (List ℕ)) → AgreeWhereSettled ls

-- at each moment to which acts lead: where it is settled and its routers are joined, the graph of each router is that of the world
abbrev pub GraphsAreOne : Type 0
GraphsAreOne = (acts : List Numbered) (m : Moment) (x : List ℕ) (r : RouterState) → reached acts ≡ Some m → is_settled m.world ≡ true → is_joined m.world ≡ true →
    router_of m.world.routers x ≡ Some r → graph_of r.node.base.records ≡ graph m.world

-- at each moment to which acts lead: where it is settled, logs agree
abbrev pub SettledLogsAgree : Type 0
SettledLogsAgree = (acts : List Numbered) (m : Moment) → reached acts ≡ Some m → is_settled m.world ≡ true → LogsAgree m.world
