-- The step that comes next in a network, and what a line's command does: one act, or a run, which is counted and then does its steps,
-- each the next one.
use Rattle.std.specs.Prelude.{ℕ, zero, suc, ◌+◌, nat_le, not, ◌&&◌, ◌||◌, Bool, if◌then◌else◌, List, [], ◌∷◌, ◌++◌, length, map, filter, Option, Some, None, is_none, Result, Ok, Err}
use Rattle.std.specs.List.{reduce}
use Rattle.std.specs.Ordering.{min_by_ordering}
use Rattle.zr_script_spec.specs.declared.error.ScriptError.{ScriptError}
use Rattle.zr_script_spec.specs.declared.error.ScriptError.TheVariants.{Limit, NotSamples, NotSettled}
use Rattle.zr_script_spec.specs.declared.command.Act.{Act}
use Rattle.zr_script_spec.specs.declared.command.Act.TheVariants as a
use Rattle.zr_script_spec.specs.declared.command.Command.{Command}
use Rattle.zr_script_spec.specs.declared.command.Command.TheVariants as c
use Rattle.zr_script_spec.specs.declared.report.ReportLine.{ReportLine}
use Rattle.zr_script_spec.specs.declared.report.ReportLine.TheVariants.{Ran}
use Rattle.zr_script_spec.specs.Step.{◌>>=◌}
use Rattle.zr_world_spec.specs.World.{EndState, End, Ends, end_cmp, WorldState, with_booked, most_steps, is_empty, is_settled}
use Rattle.zr_world_spec.specs.Acts.{Outcome, outcome, unless}
use Rattle.zr_world_spec.specs.Fan.{are_samples, are_many, are_long, most_fan_steps, fanned}

-- ---- the next step

-- the lesser of two ends
abbrev pub lesser : End → End → End
lesser a b = min_by_ordering (end_cmp a b) a b

-- the ends that pass a test
abbrev pub ends_where : (EndState → Bool) → Ends → List End
ends_where test ends = map (λ e. e.0) (filter (λ e. test e.1) ends)

-- the first of these ends
abbrev pub first_where : (EndState → Bool) → Ends → Option End
first_where test ends = reduce lesser (ends_where test ends)

-- whether a message waits to be handled at the end, and the end is up
abbrev pub can_handle : EndState → Bool
can_handle s = s.up && not (is_empty s.wire)

-- whether a message waits to be taken at the end, and the end is up and the link unbroken
abbrev pub can_take : EndState → Bool
can_take s = s.up && s.unbroken && not (is_empty s.queue)

-- the first end's router handles, or else a message is taken at the second end
abbrev pub step_at : Option End → Option End → Option Act
step_at (Some e) queued = Some (a.Handle e.0 e.1)
step_at None (Some e) = Some (a.Take e.0 e.1)
step_at None None = None

-- the step that a run does next: at the first end that has a message to handle, else at the first that has one to take;
-- none where no step is possible
abbrev pub next : WorldState → Option Act
next w = step_at (first_where can_handle w.ends) (first_where can_take w.ends)

-- ---- the steps of a run

-- the world that an act leaves: the same one where it is refused
abbrev pub world_after : WorldState → Outcome → WorldState
world_after w (Ok x) = x.1
world_after w (Err e) = w

-- a step, if there is one, and those that follow it
abbrev pub with_more : Option Act → (Act → List Act) → List Act
with_more None more = []
with_more (Some step) more = step ∷ more step

-- the steps of a line's run: at most so many, each the next one
unfoldable pub run_steps : ℕ → ℕ → WorldState → List Act
run_steps line zero w = []
run_steps line (suc n) w = with_more (next w) (λ step. run_steps line n (world_after w (outcome w line step)))

-- the steps of a fan: those of a run that goes on until none is possible
abbrev pub fan_steps : ℕ → WorldState → List Act
fan_steps line w = run_steps line most_fan_steps w

-- the acts of a line's command: of a run and of a fan their steps; those of a run are the same whether it was counted yet or not
abbrev pub acts : WorldState → ℕ → Command → List Act
acts w line (c.Act act) = act ∷ []
acts w line (c.Run steps) = run_steps line steps w
acts w line c.Fan = fan_steps line w

-- ---- whole commands

-- report lines, and the world after them; or a refusal
abbrev pub Done : Type 0
Done = Result (List ReportLine × WorldState) ScriptError

-- what some acts of a line do, one after another, up to the first that is refused
abbrev pub all_done : WorldState → ℕ → List Act → Done
all_done w line [] = Ok ([], w)
all_done w line (a ∷ more) = do
  x ← outcome w line a
  y ← all_done x.1 line more
  Ok (x.0 ++ y.0, y.1)

-- a run's steps are counted
abbrev pub booking : WorldState → ℕ → WorldState
booking w steps = with_booked w (w.booked + steps)

-- the steps that a run asks for are counted, where there is room for them
unfoldable pub book_step : WorldState → ℕ → Result WorldState ScriptError
book_step w steps = if nat_le (w.booked + steps) most_steps then Ok (booking w steps) else Err Limit

-- at most so many steps, each the next one; at their end is told how many they were, and whether no step is possible any more
unfoldable pub run_done : ℕ → ℕ → WorldState → Done
run_done line steps w = do
  x ← all_done w line (run_steps line steps w)
  Ok (x.0 ++ Ran (length (run_steps line steps w)) (is_none (next x.1)) ∷ [], x.1)

-- the steps of a fan; at their end one line tells them
unfoldable pub fan_done : ℕ → WorldState → Done
fan_done line w = do
  x ← all_done w line (fan_steps line w)
  Ok (fanned x.1.routers x.0 ∷ [], x.1)

-- all samples under way go to their ends, where the world is settled, nothing else is under way, and not too much
unfoldable pub fan_step : WorldState → ℕ → Done
fan_step w line = do
  a ← unless (not (is_settled w)) NotSettled
  b ← unless (not (are_samples w)) NotSamples
  c ← unless (are_many w || are_long w) Limit
  fan_done line w

-- what the command of a line does
unfoldable pub applied : WorldState → ℕ → Command → Done
applied w line (c.Act act) = outcome w line act
applied w line (c.Run steps) = book_step w steps >>= run_done line steps
applied w line c.Fan = fan_step w line
