-- Which links a message goes to, and what several messages for them are.
use Rattle.std.specs.Prelude.{◌≡◌, ℕ, ◌&&◌, not, Bool, List, [], map, filter}
use Rattle.std.specs.List.{flat_map}
use Rattle.zr_graph.specs.Base.{BaseState}
use Rattle.zr_id.specs.declared.link.LinkNo.{LinkNo}
use Rattle.zr_log.specs.Known.{nothing_known}
use Rattle.zr_log.specs.declared.log.Log.{Log}
use Rattle.zr_msg.specs.declared.msg.Msg.{Msg}
use Rattle.zr_msg.specs.declared.peer.LinkPeer.{LinkPeer}
use Rattle.zr_node_spec.specs.Snapshots.{snapshot}
use Rattle.zr_node_spec.specs.Tables.{TableState, AreNumbered, is_own_child, leads_to_child}
use Rattle.zr_node_spec.specs.Each.{to_each}

-- the numbers of the links that a test picks, in their order
abbrev pub picked : (LinkPeer → Bool) → List LinkPeer → List LinkNo
picked test links = map (λ l. l.link) (filter test links)

-- each of several messages for each of these links
abbrev pub all_to_each : List LinkNo → List Msg → List (LinkNo × Msg)
all_to_each links msgs = flat_map (λ m. to_each links m) msgs

-- the tables of a router of which nothing but its records is said: what its children in trees go by
abbrev pub bare_tables : BaseState → TableState
bare_tables b = record { links = []; base = b; rows = []; clients = []; known = nothing_known b.me }

-- a link leads to a router that is a child in the tree of a root, by the records of a router
abbrev pub leads_to_own_child : BaseState → List ℕ → LinkPeer → Bool
leads_to_own_child b root l = leads_to_child (bare_tables b) root l

-- the links that do
abbrev pub children_among : List LinkPeer → BaseState → List ℕ → List LinkNo
children_among links b root = picked (λ l. leads_to_own_child b root l) links

-- these are the links of tables, and their records
pub record GoesBy (t : TableState) (links : List LinkPeer) (b : BaseState) : Type 0 where
  pub links_are : t.links ≡ links
  pub base_is : t.base ≡ b

-- this holds of all tables of these links, records and logs, where the records before an event are of the same router
abbrev pub HoldsAfter : BaseState → List LinkPeer → BaseState → List Log → (TableState → Type 0) → Type 0
HoldsAfter before links b logs Holds = (t : TableState) → GoesBy t links b → before.me ≡ b.me → t.known.logs ≡ logs → AreNumbered t.links → Holds t

-- a link leads to a router that is a child in the tree of a root, and wasn't one by the records before
abbrev pub leads_to_new_child : BaseState → BaseState → List ℕ → LinkPeer → Bool
leads_to_new_child b before root l = leads_to_own_child b root l && not (is_own_child (bare_tables before) root l.peer.id)

-- what is known of a log, for each new child in its router's tree
abbrev pub to_new_children : List LinkPeer → BaseState → BaseState → Log → List (LinkNo × Msg)
to_new_children links b before log = to_each (picked (λ l. leads_to_new_child b before log.source l) links) (snapshot log)
