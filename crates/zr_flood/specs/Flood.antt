-- What a flood of records goes by.
use Rattle.std.specs.Prelude.{◌≡◌, ℕ, ◌==◌, ◌&&◌, not, List, [], map, filter}
use Rattle.std.specs.Option.{option_map_or}
use Rattle.zr_id.specs.declared.link.LinkNo.{LinkNo}
use Rattle.zr_graph.specs.Base.{BaseState}
use Rattle.zr_graph.specs.Record.{record_of}
use Rattle.zr_msg.specs.declared.msg.Msg.{Msg}
use Rattle.zr_msg.specs.declared.msg.Msg.TheVariants.{State}
use Rattle.zr_msg.specs.declared.peer.LinkPeer.{LinkPeer}
use Rattle.zr_node_spec.specs.Tables.{is_router}
use Rattle.zr_node_spec.specs.State.{NodeState}
use Rattle.zr_node_spec.specs.Event.{AreLinks}

-- these are the links of a router
pub record AreOf (node : NodeState) (links : List LinkPeer) : Type 0 where
  pub right : AreLinks node.base.me node.links
  pub same : links ≡ node.links

-- a message for each link to a router, but for the one of a number
abbrev pub to_others : List LinkPeer → ℕ → Msg → List (LinkNo × Msg)
to_others links from msg = map (λ l. (l.link, msg)) (filter (λ l. not (l.link.0 == from) && is_router l.peer.role) links)

-- the own record for each link to a router, but for the one of a number
abbrev pub own_to_others : BaseState → List LinkPeer → ℕ → List (LinkNo × Msg)
own_to_others b links from = option_map_or (λ r. to_others links from (State r)) (record_of b.records b.me) []

-- all records for one link
abbrev pub all_to : BaseState → LinkNo → List (LinkNo × Msg)
all_to b to = map (λ r. (to, State r)) b.records
