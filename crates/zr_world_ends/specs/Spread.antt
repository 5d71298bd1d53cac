-- The messages that a router has sent, one after another at the ends of its links.
use Rattle.std.specs.Prelude.{ℕ, List, [], ◌∷◌}
use Rattle.std.specs.Option.{option_map_or}
use Rattle.zr_id.specs.declared.link.LinkNo.{LinkNo}
use Rattle.zr_msg.specs.declared.msg.Msg.{Msg}
use Rattle.zr_node_spec.specs.Tables.{link_at}
use Rattle.zr_msg.specs.declared.peer.LinkPeer.{LinkPeer}
use Rattle.zr_world_spec.specs.World.{Ends, changed, queued}

-- a message for a link is queued at the router's end to that link's peer, where the link is up
abbrev pub queued_on : List LinkPeer → Ends → List ℕ → LinkNo → Msg → ℕ → Ends
queued_on links ends x link msg tag = option_map_or (λ l. changed ends (x, l.peer.id) (λ s. queued s (msg ∷ []) tag)) (link_at links link.0) ends

-- and so with each
abbrev pub all_queued_on : List LinkPeer → Ends → List ℕ → List (LinkNo × Msg) → ℕ → Ends
all_queued_on links ends x [] tag = ends
all_queued_on links ends x (m ∷ more) tag = all_queued_on links (queued_on links ends x m.0 m.1 tag) x more tag
