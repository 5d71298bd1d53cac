-- What the replies in a world weigh: those that wait on wires and in queues, and those that routers hold. No act makes more of them than clients
-- have replied, so a router has room for each reply that it is to hold.
use Rattle.std.specs.Prelude.{◌≡◌, ℕ, ◌+◌, ◌≤◌, true, List, ◌∷◌, Some}
use Rattle.std.specs.List.{sum_by}
use Rattle.std.specs.Option.{option_map_or}
use Rattle.zr_msg.specs.declared.content.Parts.{Parts}
use Rattle.zr_msg.specs.declared.msg.Msg.TheVariants.{Response}
use Rattle.zr_pend_spec.specs.Held.{reply_weight, held_weight, has_room, most_held}
use Rattle.zr_world_spec.specs.World.{Tagged, RouterState, EndState, WorldState, router_of, end_of}
use Rattle.zr_world_spec.specs.Moments.{Numbered, Moment, reached}
use Rattle.zr_guarantee.specs.Sent.{reply_in}
use Rattle.zr_guarantee.specs.Queries.{sayings}
use Rattle.zr_guarantee.specs.Latest.{saying_weight}

-- what the reply weighs that a message is, if it is one
abbrev pub tagged_weight : Tagged → ℕ
tagged_weight t = option_map_or (λ r. reply_weight r.content) (reply_in t.tag t.msg) 0

-- what waits at an end, on its wire and in its queue
abbrev pub waiting_weight : EndState → ℕ
waiting_weight s = sum_by tagged_weight s.wire + sum_by tagged_weight s.queue

-- all replies that wait, and all that routers hold
abbrev pub replies_weight : WorldState → ℕ
replies_weight w = sum_by (λ e. waiting_weight e.1) w.ends + sum_by (λ r. held_weight r.1.node.held) w.routers

-- at each moment they weigh no more together than all that clients have replied
abbrev pub RepliesWeigh : Type 0
RepliesWeigh = (acts : List Numbered) (m : Moment) → reached acts ≡ Some m → replies_weight m.world ≤ sum_by saying_weight (sayings acts)

-- so where that is no more than a router may hold, a router has room for the reply that is the oldest on one of its wires
abbrev pub RepliesHaveRoom : Type 0
RepliesHaveRoom = (acts : List Numbered) (m : Moment) → reached acts ≡ Some m → sum_by saying_weight (sayings acts) ≤ most_held →
    (x y : List ℕ) (r : RouterState) (s : EndState) (number tag : ℕ) (content : Parts) (more : List Tagged) →
    router_of m.world.routers x ≡ Some r → end_of m.world.ends (x, y) ≡ Some s → s.wire ≡ record { msg = Response number content; tag = tag } ∷ more →
    has_room r.node.held content ≡ true
