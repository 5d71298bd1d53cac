-- What may be called of a world, one call after another. No world that calls lead to has a router that refuses an event, and so none where `apply` would
-- refuse an act for that cause.
use Rattle.std.specs.Prelude.{◌≡◌, ℕ, ◌≤◌, Bool, true, false, List, Option, Some, None, Result, Ok, Err, count_by}
use Rattle.std.specs.List.{fold, list_all}
use Rattle.std.specs.Option.{option_and_then}
use Rattle.zr_script_spec.specs.declared.command.Act.{Act}
use Rattle.zr_script_spec.specs.declared.error.ScriptError.{ScriptError}
use Rattle.zr_world_spec.specs.World.{WorldState, empty_world}
use Rattle.zr_world_spec.specs.Acts.{outcome}
use Rattle.zr_world_spec.specs.Fan.{are_samples}
use Rattle.zr_world_spec.specs.Moments.{is_step}
use Rattle.zr_world_spec.specs.Next.{Done, all_done, book_step, fan_step}
use Rattle.zr_law_settled.specs.Events.{EventsAreTaken}

-- an act of a line or a step of its run is applied, the steps that a run asks for are counted, or a line's fan is done
pub data Call : Type 0 where
  Apply : (line : ℕ) (act : Act) → Call
  Book : (steps : ℕ) → Call
  Fan : (line : ℕ) → Call

-- the world that is left: none where the call is refused
abbrev pub left_by : Done → Option WorldState
left_by (Ok x) = Some x.1
left_by (Err e) = None

abbrev pub counted_by : Result WorldState ScriptError → Option WorldState
counted_by (Ok w) = Some w
counted_by (Err e) = None

abbrev pub call_made : WorldState → Call → Option WorldState
call_made w (Apply line act) = left_by (outcome w line act)
call_made w (Book steps) = counted_by (book_step w steps)
call_made w (Fan line) = left_by (fan_step w line)

-- the world that some calls lead to: none where one of them is refused
abbrev pub led : List Call → Option WorldState
led calls = fold (λ o call. option_and_then (λ w. call_made w call) o) (Some empty_world) calls

-- how many acts are applied
abbrev pub is_apply : Call → Bool
is_apply (Apply line act) = true
is_apply (Book steps) = false
is_apply (Fan line) = false

abbrev pub applied_in : List Call → ℕ
applied_in calls = count_by is_apply calls

-- up to so many applied acts the laws hold: more than a script can have
abbrev pub most_commands : ℕ
most_commands = 100000000

-- in each world that calls lead to, of which so many apply an act, each router takes each event that may come to it
abbrev pub NoEventOfAnyWorldIsRefused : Type 0
NoEventOfAnyWorldIsRefused = (calls : List Call) (w : WorldState) → applied_in calls ≤ most_commands → led calls ≡ Some w → EventsAreTaken w

-- Nor is an event refused within a fan: behind any steps, in any order, from such a world in which only samples are under way.
abbrev pub NoEventWithinAFanIsRefused : Type 0
NoEventWithinAFanIsRefused = (calls : List Call) (w v : WorldState) (line : ℕ) (steps : List Act) → applied_in calls ≤ most_commands → led calls ≡ Some w → are_samples w ≡ true →
    list_all is_step steps ≡ true → left_by (all_done w line steps) ≡ Some v → EventsAreTaken v
