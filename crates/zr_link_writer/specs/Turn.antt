-- What a turn of an outlet tells, and what a contract sees of a writer's turns.
use Rattle.std.specs.Prelude.{◌≡◌, ℕ, ◌+◌, Option, Some}
use Rattle.zr_link_writer.specs.declared.end.WriterEnd.{WriterEnd}
use Rattle.zr_link_writer.specs.declared.turn.Turn.{Turn}
use Rattle.zr_link_writer.specs.declared.turn.Turn.TheVariants.{More, Idle, Ended}
use Rattle.zr_link_writer.specs.declared.turns.WriterTurns.{WriterTurns}

-- a fact where all was taken that was there, and written
abbrev pub OnIdle : Turn → Type 0 → Type 0
OnIdle More fact = Unit {0}
OnIdle Idle fact = fact
OnIdle (Ended end) fact = Unit {0}

-- a fact of how it ended, where it has
abbrev pub OnEnded : Turn → (WriterEnd → Type 0) → Type 0
OnEnded More Fact = Unit {0}
OnEnded Idle Fact = Unit {0}
OnEnded (Ended end) Fact = Fact end

-- how many turns a writer may take
abbrev pub turns_most : WriterTurns → ℕ
turns_most w = w.most

-- how many it has taken
abbrev pub turns_taken : WriterTurns → ℕ
turns_taken w = w.taken

-- what the last of them told
abbrev pub last_turn : WriterTurns → Option Turn
last_turn w = w.last

-- a writer took one turn more, which told this
abbrev pub TakesTurn : WriterTurns → WriterTurns → Turn → Type 0
TakesTurn old new told = (turns_most new ≡ turns_most old) × (turns_taken new ≡ turns_taken old + 1) × (last_turn new ≡ Some told)
