-- Settled and joined, said of a run of several routers itself: by the tables that each router has come to by its own part, and by what they have queued
-- for one another.
use Rattle.std.specs.Prelude.{◌≡◌, ℕ, not, Bool, true, List, is_some}
use Rattle.std.specs.List.{list_all}
use Rattle.zr_tree.specs.Walk.{graph_of}
use Rattle.zr_tree.specs.Tree.{reached}
use Rattle.zr_msg.specs.declared.msg.Msg.{Msg}
use Rattle.zr_node_spec.specs.Tables.{link_to}
use Rattle.zr_world_spec.specs.World.{unsettles}
use Rattle.zr_law_running.specs.Runs.{Heard, part, hub_by, outcome_of}
use Rattle.zr_law_running.specs.Allowed.{is_among}

-- a router has a link to a neighbour
abbrev pub links_to : List Heard → List ℕ → List ℕ → Bool
links_to run x y = is_some (link_to (hub_by x (part run x)).node.links y)

-- a message that changes nothing of what routers know of links and declarations
abbrev pub leaves_known : Msg → Bool
leaves_known msg = not (unsettles msg)

-- The routers are settled: each link that one of them has has gone down at neither end, and if it leads to another one, that one has it too; and each message
-- that changes links or declarations was heard of by the router that it was queued for.
pub record AreSettled (ids : List (List ℕ)) (run : List Heard) : Type 0 where
  pub met : (x y : List ℕ) → is_among ids x ≡ true → links_to run x y ≡ true → (((outcome_of run).links (x, y)).whole ≡ true) × (is_among ids y ≡ true → links_to run y x ≡ true)
  pub calm : (x y : List ℕ) → is_among ids x ≡ true → list_all leaves_known ((outcome_of run).links (x, y)).waits ≡ true

-- They are joined: each of them reaches each other one by its own records.
abbrev pub AreJoined : List (List ℕ) → List Heard → Type 0
AreJoined ids run = (x y : List ℕ) → is_among ids x ≡ true → is_among ids y ≡ true → reached (graph_of (hub_by x (part run x)).node.base.records) x y ≡ true
