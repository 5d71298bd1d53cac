-- Shares may go to other threads.
use denote.Param.Send.{IsSend, sendable}
use Rattle.std.proofs.Crossing.{crosses}
use Rattle.std.proofs.MapsCrossing.{crosses as maps_cross}
use Rattle.zr_id.proofs.zid.Zid.TheSendSync.{the_send as zid_send}
use Rattle.zr_router_core.proofs.Crossing.{hub_send}
use Rattle.zr_world_gang.proofs.message.Waiting.TheSendSync.{the_send as waiting_send}
use Rattle.zr_world_gang.proofs.message.Sending.TheSendSync.{the_send as sending_send}
use Rattle.zr_world_gang.specs.contracts.share.Share.{the_row as share}
use Rattle.zr_world_lines.proofs.lines.Lines.TheSendSync.{the_send as lines_send}

pub share_send : IsSend share
share_send = search (zid_send, hub_send, waiting_send, sending_send, lines_send, maps_cross, crosses, sendable) depth 60 fits 20000
