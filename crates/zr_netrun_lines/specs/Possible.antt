-- That no step of a run is refused. It holds behind as many lines as a script may have: before the first line it is the law
-- `StepsArePossible` (`zr_law_numbers`), and it goes on from line to line.
use Rattle.std.specs.Prelude.{◌≡◌, ◌≤◌, ℕ, ◌+◌, true, List, length, is_ok}
use Rattle.std.specs.List.{fold}
use Rattle.zr_script_spec.specs.Lines.{most_bytes}
use Rattle.zr_world_spec.specs.World.{WorldState, most_steps}
use Rattle.zr_world_spec.specs.Next.{run_steps, all_done}
use Rattle.zr_world_spec.specs.Run.{Run, on_line}

-- a run that begins in a world does all its steps, of as many as all runs may ask for
abbrev pub RunsGo : WorldState → Type 0
RunsGo w = (line n : ℕ) → n ≤ most_steps → is_ok (all_done w line (run_steps line n w)) ≡ true

-- so it is whatever lines follow what was run, where all of them are no more than a script may have
abbrev pub StepsGo : Run → Type 0
StepsGo r = (ls : List (List ℕ)) → r.number + length ls ≤ most_bytes → RunsGo (fold on_line r ls).world
