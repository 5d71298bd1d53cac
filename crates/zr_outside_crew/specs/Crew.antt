-- What a contract sees of a crew, and what a start tells.
use Rattle.std.specs.Prelude.{◌≡◌, ℕ, ◌==◌, Bool, List, Option, Result, Ok, Err}
use Rattle.std.specs.List.{list_any}
use Rattle.zr_outside_crew.specs.declared.crew.Crew.{Crew}
use Rattle.zr_outside_crew.specs.Told.{items_of, with_last}

-- whether a start of this number is among those
abbrev pub is_among : ℕ → List ℕ → Bool
is_among call calls = list_any (λ n. n == call) calls

-- the job that comes back is the one that was given
abbrev pub IsBack : {J : Type 0} → J → Result (Unit {0}) J → Type 0
IsBack job (Ok _) = Unit {0}
IsBack job (Err back) = back ≡ job

-- A job that was started stands last among those told, and one that comes back isn't told
abbrev pub Tells : {T J : Type 0} → Result (Unit {0}) J → T → Option (List T) → Option (List T) → Type 0
Tells (Ok _) told before after = after ≡ with_last told before
Tells (Err _) told before after = after ≡ before

module _ {R T : Type 0} where
  -- what was started, in order, where it is told
  abbrev pub crew_told : Crew R T → Option (List T)
  crew_told c = items_of c.told

  -- the starts that failed, how many starts there were, and the numbers of those that are made to fail
  abbrev pub crew_faults : Crew R T → ℕ
  crew_faults c = c.faults

  abbrev pub starts_of : Crew R T → ℕ
  starts_of c = c.calls

  abbrev pub failing_starts : Crew R T → List ℕ
  failing_starts c = c.failing.items
