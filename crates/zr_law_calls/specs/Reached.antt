-- A world to which calls lead, and how many acts were applied on the way.
use Rattle.std.specs.Prelude.{◌≡◌, ℕ, ◌≤◌, List, Some}
use Rattle.std.specs.List.{AllByRecursion}
use Rattle.zr_world_spec.specs.World.{WorldState}
use Rattle.zr_law_numbers.specs.Calls.{Call, Apply, Book, Fan, led, applied_in, most_commands}
use Rattle.zr_law_calls.specs.Fitting.{IsFit}

-- calls lead to this world, and so many of them apply an act: no more than the laws on worlds hold for
unfoldable pub IsReached : WorldState → ℕ → Type 0
IsReached w applied = (calls : List Call) × (led calls ≡ Some w) × (applied_in calls ≡ applied) × (applied ≤ most_commands)

-- the act of a call is fit, if it has one
abbrev pub IsFitCall : Call → Type 0
IsFitCall (Apply line act) = IsFit act
IsFitCall (Book steps) = Unit {0}
IsFitCall (Fan line) = Unit {0}

-- and the calls are of fit acts
unfoldable pub IsFitReached : WorldState → ℕ → Type 0
IsFitReached w applied = (calls : List Call) × (led calls ≡ Some w) × (applied_in calls ≡ applied) × (applied ≤ most_commands) × AllByRecursion IsFitCall calls
