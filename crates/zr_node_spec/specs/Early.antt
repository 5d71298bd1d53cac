-- Which refusals of an event are found before a router asks for memory.
use Rattle.std.specs.Prelude.{Bool, true, false, nat_lt, Option}
use Rattle.std.specs.Option.{option_map_or}
use Rattle.zr_msg.specs.declared.error.NodeError.{NodeError}
use Rattle.zr_msg.specs.declared.error.NodeError.TheVariants.{Gap, NotDeclared, TextLimit, NumberTaken, TooMany, Worn, Spent, NoMemory}

-- All but two: that a number has no room is found once that is made which needs it, and what a snapshot weighs once its set is made. Of a snapshot
-- alone nothing is held before it
abbrev pub needs_no_memory : NodeError → Bool
needs_no_memory (Gap router has came) = true
needs_no_memory (NotDeclared id) = true
needs_no_memory (TextLimit held more) = nat_lt 0 held
needs_no_memory (NumberTaken id) = true
needs_no_memory (TooMany pending) = true
needs_no_memory Worn = false
needs_no_memory Spent = false
needs_no_memory NoMemory = false

-- an event is refused, and for such a cause
abbrev pub is_early : Option NodeError → Bool
is_early refusal = option_map_or needs_no_memory refusal false
