-- One direction of a link, as it is seen.
use Rattle.std.specs.Prelude.{Bool, true, false, List, [], ◌∷◌, ◌++◌, drop}
use Rattle.zr_msg.specs.declared.msg.Msg.{Msg}
use Rattle.zr_msg.specs.declared.peer.Role.{Role}

-- what who sends is, and what was sent and not received, the oldest first
pub record LineState : Type 0 where
  pub role : Role
  pub messages : List Msg

-- nothing is left where memory ran out
abbrev pub unless_spent : Bool → List Msg → List Msg
unless_spent true messages = []
unless_spent false messages = messages

-- a line of which these messages were given and these are coming
abbrev pub line_of : Role → Bool → List Msg → List Msg → LineState
line_of role spent ready coming = record { role = role; messages = unless_spent spent (ready ++ coming) }

abbrev pub new_line : Role → LineState
new_line role = record { role = role; messages = [] }

abbrev pub with_sent : LineState → Msg → LineState
with_sent l m = record { role = l.role; messages = l.messages ++ m ∷ [] }

abbrev pub without_first : LineState → LineState
without_first l = record { role = l.role; messages = drop 1 l.messages }
