-- A router with its clients may go to another thread. What it holds is shown part by part: `search` alone stops at its limits in so large a type, which has trees that hold themselves.
use denote.Param.Send.{IsSend, sendable}
use Rattle.std.proofs.Crossing.{crosses}
use Rattle.std.proofs.MapsCrossing.{crosses as maps_cross}
use Rattle.zr_graph.proofs.base.Base.TheSendSync.{the_send as base_send}
use Rattle.zr_tree.proofs.family.Family.TheSendSync.{the_send as family_send}
use Rattle.zr_tree.proofs.trees.Trees.TheSendSync.{the_send as trees_send}
use Rattle.zr_index.proofs.node.Node.TheLaws.TheKnot.{crosses as index_crosses}
use Rattle.zr_log.proofs.known.Known.TheSendSync.{the_send as known_send}
use Rattle.zr_local.proofs.local.Local.TheSendSync.{the_send as local_send}
use Rattle.zr_pend.proofs.pending.Pending.TheSendSync.{the_send as pending_send}
use Rattle.zr_push_sought.specs.contracts.kind_index.KindIndex.{the_field as kind_index}
use Rattle.zr_push_sought.specs.contracts.holders.Holders.{the_field as holders}
use Rattle.zr_push.proofs.routes.Remembered.TheSendSync.{the_send as remembered_send}
use Rattle.zr_push.specs.contracts.routes.Routes.{the_field as routes}
use Rattle.zr_node.proofs.links.Links.TheSendSync.{the_send as links_send}
use Rattle.zr_node.specs.contracts.node.Node.{the_row as node}
use Rattle.zr_told.proofs.told.Told.TheSendSync.{the_send as told_send}
use Rattle.zr_told_interested.specs.contracts.by_key.ByKey.{the_field as by_key}
use Rattle.zr_router_core.specs.contracts.hub.Hub.{the_row as hub}

pub kind_index_send : IsSend kind_index.row
kind_index_send = search (maps_cross, crosses, index_crosses, sendable) depth 60 fits 20000

pub holders_send : IsSend holders.row
holders_send = search (kind_index_send, maps_cross, crosses, sendable) depth 60 fits 20000

pub routes_send : IsSend routes.row
routes_send = search (remembered_send, maps_cross, crosses, sendable) depth 60 fits 20000

pub node_send : IsSend node
node_send = search (links_send, base_send, local_send, known_send, pending_send, family_send, trees_send, holders_send, routes_send, maps_cross, crosses, sendable) depth 60 fits 20000

pub by_key_send : IsSend by_key.row
by_key_send = search (index_crosses, maps_cross, crosses, sendable) depth 60 fits 20000

pub hub_send : IsSend hub
hub_send = search (node_send, told_send, by_key_send, index_crosses, maps_cross, crosses, sendable) depth 60 fits 20000
