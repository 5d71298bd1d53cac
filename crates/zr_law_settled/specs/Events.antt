-- No event of a script's world is refused by its router.
use Rattle.std.specs.Prelude.{◌≡◌, ℕ, ◌≤◌, true, List, ◌∷◌, length, Option, Some, None, is_some}
use Rattle.zr_id.specs.declared.link.LinkNo.{LinkNo}
use Rattle.zr_msg.specs.declared.event.Event.{Event}
use Rattle.zr_msg.specs.declared.event.Event.TheVariants.{Up, Down, From}
use Rattle.zr_msg.specs.declared.content.Parts.{Parts}
use Rattle.zr_msg.specs.declared.msg.Msg.{Msg}
use Rattle.zr_msg.specs.declared.msg.Msg.TheVariants.{Request}
use Rattle.zr_msg.specs.declared.msg.Target.{Target}
use Rattle.zr_msg.specs.declared.peer.LinkPeer.{LinkPeer}
use Rattle.zr_node_spec.specs.Tables.{link_at, link_to}
use Rattle.zr_node_spec.specs.Queries.{asked_links}
use Rattle.zr_node_spec.specs.Event.{IsFresh}
use Rattle.zr_node_spec.specs.State.{tables}
use Rattle.zr_node_spec.specs.Table.{refuses_request}
use Rattle.zr_script_spec.specs.Lines.{most_bytes}
use Rattle.zr_world_spec.specs.World.{Tagged, RouterState, EndState, WorldState, router_of, end_of}
use Rattle.zr_world_spec.specs.Acts.{refuses_of}
use Rattle.zr_world_spec.specs.Run.{run_lines}

-- a message is the oldest one that waits on the wire from the neighbour of a link that is up
pub record IsOldest (w : WorldState) (x : List ℕ) (r : RouterState) (link : LinkNo) (msg : Msg) : Type 0 where
  pub neighbour : LinkPeer
  pub linked : link_at r.node.links link.0 ≡ Some neighbour
  pub at : EndState
  pub found : end_of w.ends (x, neighbour.peer.id) ≡ Some at
  pub tag : ℕ
  pub rest : List Tagged
  pub front : at.wire ≡ record { msg = msg; tag = tag } ∷ rest

-- an event that may come to router x in a world: an Up of a fresh link, a Down of a link that is up, or the oldest message on a wire
abbrev pub IsHeard : WorldState → List ℕ → RouterState → Event → Type 0
IsHeard w x r (Up link peer) = IsFresh r.node link peer
IsHeard w x r (Down link) = is_some (link_at r.node.links link.0) ≡ true
IsHeard w x r (From link msg) = IsOldest w x r link msg

-- a request that is the oldest message on the wire of a link is taken: its number is free on that link, its client has room for it, and each
-- link over which it goes has a number left
abbrev pub RequestsAreTaken : WorldState → Type 0
RequestsAreTaken w = (x y : List ℕ) (r : RouterState) (l : LinkPeer) (at : EndState) → router_of w.routers x ≡ Some r → link_to r.node.links y ≡ Some l → end_of w.ends (x, y) ≡ Some at →
    (tree : Option (List ℕ)) (id : ℕ) (target : Target) (content : Parts) (tag : ℕ) (rest : List Tagged) → at.wire ≡ record { msg = Request tree id target content; tag = tag } ∷ rest →
    refuses_request r.node l.link.0 id (asked_links (tables r.node) l.link.0 tree target content.key) ≡ None

-- each router takes each event that may come to it
abbrev pub EventsAreTaken : WorldState → Type 0
EventsAreTaken w = (x : List ℕ) (r : RouterState) (event : Event) → router_of w.routers x ≡ Some r → IsHeard w x r event → refuses_of r event ≡ None

-- behind any lines of a script, as many as a script may have, each router takes each event that may come to it, and has ids enough for what its
-- clients want to be told
abbrev pub NoEventIsRefused : Type 0
NoEventIsRefused = (ls : List (List ℕ)) (x : List ℕ) (r : RouterState) (event : Event) → length ls ≤ most_bytes →
    router_of (run_lines ls).world.routers x ≡ Some r → IsHeard (run_lines ls).world x r event → refuses_of r event ≡ None
