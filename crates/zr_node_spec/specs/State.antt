-- The state of a router as plain data.
use Rattle.std.specs.Prelude.{Bool, false, List, [], ℕ}
use Rattle.zr_id.specs.declared.link.LinkNo.{LinkNo}
use Rattle.zr_graph.specs.Base.{BaseState, fresh}
use Rattle.zr_msg.specs.Peer.{PeerState}
use Rattle.zr_msg.specs.declared.peer.LinkPeer.{LinkPeer}
use Rattle.zr_local.specs.declared.interest.ClientInterests.{ClientInterests}
use Rattle.zr_local.specs.declared.row.Row.{Row}
use Rattle.zr_local.specs.State.{LocalState}
use Rattle.zr_log.specs.Known.{KnownState, nothing_known}
use Rattle.zr_pend_spec.specs.Row.{RowState}
use Rattle.zr_pend_spec.specs.Held.{GatheringState}
use Rattle.zr_node_spec.specs.Tables.{TableState}

-- a router: its links in ascending order of their numbers, what it knows of the links of all routers, itself among them, what the clients of
-- its links have declared, what it knows of the change logs of all routers, its own among them, the requests that it has passed on and that
-- have not ended, in the order in which they came, and the replies that it holds for those that ask for the latest ones alone
pub record NodeState : Type 0 where
  pub links : List LinkPeer
  pub base : BaseState
  pub rows : List Row
  pub clients : List ClientInterests
  pub known : KnownState
  pub pending : List RowState
  pub held : List GatheringState
  -- memory ran out at an earlier event: nothing is said of the rest, and the router answers no more
  pub spent : Bool

-- a router without links
abbrev pub new_node : List ℕ → NodeState
new_node me = record { links = []; base = fresh me; rows = []; clients = []; known = nothing_known me; pending = []; held = []; spent = false }

-- a link that has come up
abbrev pub new_link : LinkNo → PeerState → LinkPeer
new_link link peer = record { link = link; peer = peer }

-- what a router goes by
abbrev pub tables : NodeState → TableState
tables node = record { links = node.links; base = node.base; rows = node.rows; clients = node.clients; known = node.known }

-- what it keeps of its clients
abbrev pub local_state : NodeState → LocalState
local_state node = record { rows = node.rows; clients = node.clients }
