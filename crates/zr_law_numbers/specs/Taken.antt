-- What numbers are for: behind any lines of a script each request that waits is taken, so no step of a run is refused.
use Rattle.std.specs.Prelude.{◌≡◌, ℕ, ◌≤◌, true, List, length, Some, is_ok}
use Rattle.zr_script_spec.specs.Lines.{most_bytes}
use Rattle.zr_world_spec.specs.World.{most_steps}
use Rattle.zr_world_spec.specs.Next.{run_steps, all_done}
use Rattle.zr_world_spec.specs.Run.{run_lines}
use Rattle.zr_world_spec.specs.Moments.{Numbered, Moment, reached}
use Rattle.zr_law_settled.specs.Events.{EventsAreTaken}
use Rattle.zr_law_numbers.specs.Calls.{most_commands}

-- behind any lines of a script, as many as a script may have, no step of a run is refused, of as many as all runs may ask for
abbrev pub StepsArePossible : Type 0
StepsArePossible = (ls : List (List ℕ)) (line n : ℕ) → length ls ≤ most_bytes → n ≤ most_steps →
    is_ok (all_done (run_lines ls).world line (run_steps line n (run_lines ls).world)) ≡ true

-- at each moment to which so many acts lead, also between two steps of a run, each router takes each event that may come to it
abbrev pub AlwaysTaken : Type 0
AlwaysTaken = (acts : List Numbered) (m : Moment) → length acts ≤ most_commands → reached acts ≡ Some m → EventsAreTaken m.world
