-- What comes to a router, and what it holds of replies, has a spelling.
use Rattle.std.specs.Prelude.{List}
use Rattle.std.specs.List.{AllByRecursion}
use Rattle.zr_msg.specs.declared.event.Event.{Event}
use Rattle.zr_msg.specs.declared.event.Event.TheVariants.{Up, Down, From}
use Rattle.zr_port.specs.declared.entry.Entry.{Entry}
use Rattle.zr_msg.specs.declared.content.Parts.{Parts}
use Rattle.zr_msg.specs.declared.msg.Msg.TheVariants.{Response}
use Rattle.zr_pend_spec.specs.Held.{GatheringState}
use Rattle.zr_wire.specs.Writing.{IsSpelled}

-- a reply has a spelling, under whatever number it goes, and so has all that a router holds
abbrev pub IsReplySpelled : Parts → Type 0
IsReplySpelled content = IsSpelled (Response 0 content)

abbrev pub HoldsSpelled : List GatheringState → Type 0
HoldsSpelled held = AllByRecursion (λ g. AllByRecursion (λ c. IsReplySpelled c) g.held) held

-- the message that came, if one has, has a spelling
abbrev pub ComesSpelled : Event → Type 0
ComesSpelled (Up link peer) = Unit {0}
ComesSpelled (Down link) = Unit {0}
ComesSpelled (From link msg) = IsSpelled msg

-- so has each in a history
abbrev pub AreSpelled : List Entry → Type 0
AreSpelled h = AllByRecursion (λ e. ComesSpelled e.event) h
