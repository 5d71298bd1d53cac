-- What a router tells of its own log where its clients declare something, take something back or leave.
use Rattle.std.specs.Prelude.{ℕ, ◌+◌, ◌^◌, ◌-◌, nat_lt, true, false, if◌then◌else◌, List, [], ◌∷◌, ◌++◌, length, map, Bool}
use Rattle.std.specs.List.{fold}
use Rattle.zr_msg.specs.declared.decl.Decl.{Decl}
use Rattle.zr_msg.specs.declared.msg.Msg.{Msg}
use Rattle.zr_msg.specs.declared.msg.Msg.TheVariants.{Step}
use Rattle.zr_local.specs.Rows.{gone, came}
use Rattle.zr_local.specs.declared.row.Row.{Row}
use Rattle.zr_log.specs.Log.{Change}
use Rattle.zr_log.specs.Known.{KnownState, position, after_own}
use Rattle.zr_node_spec.specs.Tables.{TableState, is_to_child}

-- changes of the own log: first each declaration that no client has any more, then each that none had before
abbrev pub changes_of : List Decl → List Decl → List Change
changes_of lost won = map (λ d. record { added = false; decl = d }) lost ++ map (λ d. record { added = true; decl = d }) won

-- those where the rows of the clients change
abbrev pub changes : List Row → List Row → List Change
changes before after = changes_of (gone before after) (came before after)

-- what is known once the own log has these changes too
abbrev pub after_changes : KnownState → List Change → KnownState
after_changes known cs = fold after_own known cs

-- changes of a router's log behind its first so many, each as a message with its number
abbrev pub steps : List ℕ → ℕ → List Change → List Msg
steps source number [] = []
steps source number (c ∷ cs) = Step source (number + 1) c.added c.decl ∷ steps source (number + 1) cs

-- changes of the own log go to the children in the own tree; `t` are the tables before them
abbrev pub sends_changes : TableState → List Change → ℕ → List Msg
sends_changes t cs to = if is_to_child t t.base.me to then steps t.base.me (position t.known t.base.me) cs else []

-- the numbers of a log are of 64 bits: whether so many changes more have no room
abbrev pub have_no_room : KnownState → List Change → Bool
have_no_room known cs = nat_lt (2 ^ 64 - 1) (position known known.me + length cs)
