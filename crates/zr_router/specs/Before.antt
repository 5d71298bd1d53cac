-- The refusal of a message before the router is asked.
use Rattle.std.specs.Prelude.{Bool, not, if◌then◌else◌, Option, Some, None}
use Rattle.zr_id.specs.declared.link.LinkNo.{LinkNo}
use Rattle.zr_msg.specs.declared.msg.Msg.{Msg}
use Rattle.zr_msg.specs.Peer.{PeerState}
use Rattle.zr_port.specs.declared.error.DeliverError.{DeliverError}
use Rattle.zr_port.specs.declared.error.DeliverError.TheVariants.{NotUp, Full, Misplaced, Worn}
use Rattle.zr_router_queue.specs.declared.link_end.Closing.{Closing}
use Rattle.zr_wire.specs.Roles.{admits}
use Rattle.zr_access.specs.Rules.{PolicyState}
use Rattle.zr_access.specs.Messages.{peer_denial}
use Rattle.zr_router.specs.Refusals.{denied_or}

-- of a message over a link that is up and open: `worn` says that the history is at its end
abbrev pub open_refusal : PolicyState → PeerState → Msg → Bool → Option DeliverError
open_refusal policy peer msg worn =
    if not (admits peer.role msg) then Some (Misplaced peer.role)
    else denied_or (peer_denial policy peer msg) (if worn then Some Worn else None)

-- who stands at the other end of the link, if it is up, and how an event has closed it, if one has
abbrev pub message_refusal : PolicyState → Option PeerState → Option Closing → LinkNo → Msg → Bool → Option DeliverError
message_refusal policy None closing link msg worn = Some (NotUp link)
message_refusal policy (Some peer) (Some c) link msg worn = Some (Full c.asked c.free)
message_refusal policy (Some peer) None link msg worn = open_refusal policy peer msg worn
