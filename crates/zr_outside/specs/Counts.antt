-- Counts of what happened outside. A count never falls, and stands still at 2 ^ 64 - 1.
use Rattle.std.specs.Prelude.{◌≡◌, ℕ, ◌+◌, ◌-◌, ◌^◌, ◌<◌, ◌≤◌, min, Result, Ok, Err}

-- a count rose, or stands at its end
abbrev pub Rose : ℕ → ℕ → Type 0
Rose before now = min (before + 1) (2 ^ 64 - 1) ≤ now

-- a count rose by so much, or to its end
pub record RoseBy (n before now : ℕ) : Type 0 where
  pub most : now ≤ before + n
  pub least : min (before + n) (2 ^ 64 - 1) ≤ now

-- A count over one call: it never falls, rises by one at most, and rises where the event comes and only there.
pub record Counted (before now : ℕ) (Event : Type 0) : Type 0 where
  pub later : before ≤ now
  pub one : now ≤ before + 1
  pub cause : Event → Rose before now
  pub only : before < now → Event

-- a count rose only where the call answers with this error
abbrev pub RoseOnlyBy : {X E : Type 0} → E → Result X E → ℕ → ℕ → Type 0
RoseOnlyBy fault (Ok x) before after = after ≡ before
RoseOnlyBy fault (Err e) before after = before < after → e ≡ fault
