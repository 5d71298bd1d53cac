-- The told maps of routers: of each client that it has a link to a router keeps just what the messages leave that it has put for that client.
use Rattle.std.specs.Prelude.{◌≡◌, ℕ, true, false, List, [], ◌++◌, map, Some}
use Rattle.std.specs.Option.{option_map_or}
use Rattle.zr_msg.specs.declared.msg.Msg.{Msg}
use Rattle.zr_msg.specs.declared.peer.LinkPeer.{LinkPeer}
use Rattle.zr_node_spec.specs.Tables.{link_at, leads_to_client}
use Rattle.zr_told_spec.specs.Hub.{HubState}
use Rattle.zr_told_spec.specs.Laws.{Agrees}
use Rattle.zr_told_spec.specs.Rows.{map_on}
use Rattle.zr_told_spec.specs.Told.{heard}
use Rattle.zr_world_spec.specs.World.{RouterState, EndState, router_of, end_of}
use Rattle.zr_world_spec.specs.Acts.{hub_of}
use Rattle.zr_world_spec.specs.Moments.{Numbered, Moment, reached}
use Rattle.zr_guarantee.specs.Sent.{told_to}

-- Of each link to a client a router keeps what all messages leave that were put on it since it came up, number by number: nothing is forgotten, and
-- nothing is kept that was taken back. Of all other links it keeps nothing.
pub record KeepsWhatIsHeard (h : HubState) (put : ℕ → List Msg) : Type 0 where
  pub clients : (k : ℕ) → leads_to_client h.node.links k ≡ true → Agrees (map_on h.told k) (heard (put k))
  pub nothing_else : (k : ℕ) → leads_to_client h.node.links k ≡ false → map_on h.told k ≡ []

-- ---- in a script's world

-- what router x has put for a client since it came: what the client was sent, and behind it what still waits for it. A client comes once, to one router
abbrev pub put_for : Moment → List ℕ → List ℕ → List Msg
put_for m x client = map (λ y. y.msg) (told_to m.report client) ++ option_map_or (λ (s : EndState). map (λ y. y.msg) s.queue) (end_of m.world.ends (x, client)) []

-- the same of the client at the other end of a link
abbrev pub put_on : Moment → List ℕ → List LinkPeer → ℕ → List Msg
put_on m x links k = option_map_or (λ (l : LinkPeer). put_for m x l.peer.id) (link_at links k) []

-- so it is with each router at each moment to which acts lead
abbrev pub ToldMapsAreHeard : Type 0
ToldMapsAreHeard = (acts : List Numbered) (m : Moment) (x : List ℕ) (r : RouterState) → reached acts ≡ Some m → router_of m.world.routers x ≡ Some r →
    KeepsWhatIsHeard (hub_of r) (λ k. put_on m x r.node.links k)
