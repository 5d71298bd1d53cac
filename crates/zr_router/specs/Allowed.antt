-- Each message in a history has a spelling, and is one that the peer of its link may send.
use Rattle.std.specs.Prelude.{◌≡◌, ℕ, ◌&&◌, Bool, true, false, List, [], ◌∷◌, is_none}
use Rattle.std.specs.Option.{option_map_or}
use Rattle.zr_access.specs.Rules.{PolicyState}
use Rattle.zr_access.specs.Messages.{peer_denial}
use Rattle.zr_msg.specs.declared.event.Event.{Event}
use Rattle.zr_msg.specs.declared.event.Event.TheVariants.{Up, Down, From}
use Rattle.zr_msg.specs.declared.peer.LinkPeer.{LinkPeer}
use Rattle.zr_node_spec.specs.Tables.{link_at}
use Rattle.zr_node_spec.specs.State.{NodeState}
use Rattle.zr_wire.specs.Roles.{admits}
use Rattle.zr_port.specs.declared.entry.Entry.{Entry}
use Rattle.zr_router_queue.specs.Held.{AreSpelled}
use Rattle.zr_router_queue.specs.Tables.{Tables, new_tables, advanced}

-- the link is up, a peer of its role sends such messages, and the rules don't deny this one to the peer
abbrev pub is_allowed : PolicyState → NodeState → Event → Bool
is_allowed policy node (Up link peer) = true
is_allowed policy node (Down link) = true
is_allowed policy node (From link msg) = option_map_or (λ (l : LinkPeer). admits l.peer.role msg && is_none (peer_denial policy l.peer msg)) (link_at node.links link.0) false

abbrev pub are_allowed_from : PolicyState → Tables → List Entry → Bool
are_allowed_from policy t [] = true
are_allowed_from policy t (e ∷ es) = is_allowed policy t.hub.node e.event && are_allowed_from policy (advanced t e) es

abbrev pub are_allowed : PolicyState → List ℕ → List Entry → Bool
are_allowed policy me h = are_allowed_from policy (new_tables me) h

abbrev pub AreAllowed : PolicyState → List ℕ → List Entry → Type 0
AreAllowed policy me h = (are_allowed policy me h ≡ true) × AreSpelled h
