-- What comes of asking a ring once, and of a write that doesn't wait long.
use Rattle.std.specs.Prelude.{◌≡◌, ℕ, List, ◌++◌, Option, Result, Ok, Err}
use Rattle.zr_outside.specs.Counts.{Rose}
use Rattle.zr_link_writer.specs.declared.end.Stop.{Stop}
use Rattle.zr_link_writer.specs.declared.step.Taken.{Taken}
use Rattle.zr_link_writer.specs.declared.step.Taken.TheVariants.{More, Nothing, Ended}
use Rattle.zr_link_writer.specs.declared.turn.Wrote.{Wrote}
use Rattle.zr_link_writer.specs.declared.turn.Wrote.TheVariants.{All, Part, Fault}
use Rattle.zr_link_writer.specs.Writing.{Carries}

-- the sink's count of faults, by how a write went
abbrev pub FaultsSo : Wrote → ℕ → ℕ → Type 0
FaultsSo All before after = after ≡ before
FaultsSo Part before after = after ≡ before
FaultsSo Fault before after = Rose before after

-- more was joined to what waited, or it wasn't, by how a write went
abbrev pub AddsSo : Wrote → Option (List ℕ) → Option (List ℕ) → List ℕ → List ℕ → List ℕ → Type 0
AddsSo All before after waiting' waiting more = Carries before after waiting' (waiting ++ more)
AddsSo Part before after waiting' waiting more = Carries before after waiting' waiting
AddsSo Fault before after waiting' waiting more = Carries before after waiting' waiting

-- a fact where neither the ring nor the writer has ended
abbrev pub OnGoing : Result Taken Stop → Type 0 → Type 0
OnGoing (Ok More) fact = fact
OnGoing (Ok Nothing) fact = fact
OnGoing (Ok (Ended reason)) fact = Unit {0}
OnGoing (Err stop) fact = Unit {0}
