-- What a router that has heard of an event answers.
use Rattle.std.specs.Prelude.{◌≡◌, true, List, [], Option, Some, None, is_some, Result, Ok, Err}
use Rattle.zr_id.specs.declared.link.LinkNo.{LinkNo}
use Rattle.zr_msg.specs.declared.error.NodeError.{NodeError}
use Rattle.zr_msg.specs.declared.error.NodeError.TheVariants as n
use Rattle.zr_msg.specs.declared.event.Event.{Event}
use Rattle.zr_msg.specs.declared.event.Event.TheVariants.{Up, Down, From}
use Rattle.zr_msg.specs.declared.msg.Msg.{Msg}
use Rattle.zr_script_spec.specs.declared.error.ScriptError.{ScriptError}
use Rattle.zr_script_spec.specs.declared.error.ScriptError.TheVariants.{Limit, NoMemory}
use Rattle.zr_told_spec.specs.Hub.{HubSends}
use Rattle.zr_world_spec.specs.World.{Tagged, RouterState}
use Rattle.zr_world_spec.specs.Acts.{having_told, hub_of, refuses_of}

-- what a router's refusal is in a script
abbrev pub refusal : NodeError → ScriptError
refusal n.Worn = Limit
refusal n.Spent = NoMemory
refusal n.NoMemory = NoMemory
refusal (n.Gap router has came) = Limit
refusal (n.NotDeclared id) = Limit
refusal (n.TextLimit held more) = Limit
refusal (n.NumberTaken id) = Limit
refusal (n.TooMany pending) = Limit

-- The router and what it knows of its clients are as the event leaves them, and what it sends was told link by link; where it refuses the
-- event it has not changed; where memory ran out nothing is said.
abbrev pub IsHeard : Result (Unit {0}) ScriptError → RouterState → RouterState → Event → List (LinkNo × Msg) → Type 0
IsHeard (Ok u) old new event out = (refuses_of old event ≡ None) × (new ≡ having_told old event) × HubSends (hub_of old) event [] out
IsHeard (Err NoMemory) old new event out = Unit {0}
IsHeard (Err e) old new event out = (e ≡ Limit) × (is_some (refuses_of old event) ≡ true) × (new ≡ old)

-- The router has heard of a message from a link, which is given back.
abbrev pub IsHandled : Result Msg ScriptError → RouterState → RouterState → LinkNo → Tagged → List (LinkNo × Msg) → Type 0
IsHandled (Ok msg) old new link x out = (msg ≡ x.msg) × IsHeard (Ok tt) old new (From link x.msg) out
IsHandled (Err e) old new link x out = IsHeard (Err e) old new (From link x.msg) out

-- the message that an event brings, if it brings one
abbrev pub message_of : Event → Option Msg
message_of (Up link peer) = None
message_of (Down link) = None
message_of (From link msg) = Some msg
