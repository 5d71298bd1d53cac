-- The accepted acts of a script's lines, and that they lead to a moment, which is what the run of the lines tells.
use Rattle.std.specs.Prelude.{◌≡◌, ℕ, ◌+◌, Bool, true, false, List, [], ◌++◌, ◌∷◌, length, map, Option, Some, None, Result, Ok, Err}
use Rattle.std.specs.List.{AllByRecursion, flat_map}
use Rattle.zr_script_spec.specs.declared.error.ScriptError.{ScriptError}
use Rattle.zr_script_spec.specs.declared.command.Command.{Command}
use Rattle.zr_script_spec.specs.declared.report.ReportLine.{ReportLine}
use Rattle.zr_script_spec.specs.declared.report.ReportLine.TheVariants as r
use Rattle.zr_script_spec.specs.Command.{command_of}
use Rattle.zr_script_spec.specs.Report.{line_text}
use Rattle.zr_world_spec.specs.World.{WorldState, with_booked}
use Rattle.zr_world_spec.specs.Fan.{sorted_text}
use Rattle.zr_world_spec.specs.Next.{acts}
use Rattle.zr_world_spec.specs.Run.{Run, start, on_line, run_lines}
use Rattle.zr_world_spec.specs.Moments.{Numbered, ascends, Moment, reached}

-- what a line does in a world, act by act with the line's number, unless the run is refused there or was before
abbrev pub entries : Option ScriptError → ℕ → WorldState → Result (Option Command) ScriptError → List Numbered
entries None number w (Ok (Some command)) = map (λ a. (number, a)) (acts w number command)
entries None number w (Ok None) = []
entries None number w (Err e) = []
entries (Some e) number w asked = []

-- the accepted acts of the lines that follow a run
abbrev pub accepted_from : Run → List (List ℕ) → List Numbered
accepted_from r [] = []
accepted_from r (line ∷ more) = entries (on_line r line).refusal (r.number + 1) r.world (command_of line) ++ accepted_from (on_line r line) more

-- the accepted acts of a script's lines, each with the number of its line; of a run these are its steps
abbrev pub accepted : List (List ℕ) → List Numbered
accepted ls = accepted_from start ls

-- whether a report line tells of one act, and not of a run's end or of a fan
abbrev pub is_of_act : ReportLine → Bool
is_of_act (r.Handled router from msg tag) = true
is_of_act (r.Taken router to msg tag) = true
is_of_act (r.Ran steps quiet) = false
is_of_act (r.Fanned lines steps kinds) = false
is_of_act (r.Mark line) = true
is_of_act (r.Show router) = true
is_of_act (r.Record links) = true
is_of_act (r.Parent root parent) = true
is_of_act (r.Source source number decls) = true

-- What a report line tells of what acts reported: what tells of one act tells itself, the end of a run tells nothing, and the line of a fan tells what
-- its steps reported, in the order of their bytes, and how many they are.
abbrev pub Tells : ReportLine → List ReportLine → Type 0
Tells (r.Handled router from msg tag) said = said ≡ r.Handled router from msg tag ∷ []
Tells (r.Taken router to msg tag) said = said ≡ r.Taken router to msg tag ∷ []
Tells (r.Ran steps quiet) said = said ≡ []
Tells (r.Fanned lines steps kinds) said = (lines ≡ sorted_text said) × (steps ≡ length said)
Tells (r.Mark line) said = said ≡ r.Mark line ∷ []
Tells (r.Show router) said = said ≡ r.Show router ∷ []
Tells (r.Record links) said = said ≡ r.Record links ∷ []
Tells (r.Parent root parent) said = said ≡ r.Parent root parent ∷ []
Tells (r.Source source number decls) said = said ≡ r.Source source number decls ∷ []

-- report lines, each with what acts reported of what it tells
abbrev pub Told : Type 0
Told = List (ReportLine × List ReportLine)

-- A run has the world of a moment, but for the steps that runs asked for, which no act counts; and its text is that of report
-- lines which tell what the moment's acts reported, one after another.
pub record IsTold (r : Run) (m : Moment) : Type 0 where
  pub world_is : r.world ≡ with_booked m.world r.world.booked
  pub told : Told
  pub each : AllByRecursion (λ t. Tells t.0 t.1) told
  pub text_is : r.text ≡ flat_map (λ t. line_text t.0) told
  pub report_is : m.report ≡ flat_map (λ t. t.1) told

-- the accepted acts of some lines lead to a moment, which is what the run of the lines tells
pub record IsMoment (ls : List (List ℕ)) (m : Moment) : Type 0 where
  pub is_reached : reached (accepted ls) ≡ Some m
  pub is_told : IsTold (run_lines ls) m

-- the accepted acts of any lines have ascending numbers and lead to a moment
abbrev pub LinesAreMoments : Type 0
LinesAreMoments = (ls : List (List ℕ)) → (ascends 0 (accepted ls) ≡ true) × ((m : Moment) × IsMoment ls m)
