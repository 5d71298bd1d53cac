-- How far the counting of a report has come, where a summary is asked for: what is kept, and a moment.
use Rattle.std.specs.Prelude.{◌≡◌, ℕ, Bool, false, true, List, [], ◌∷◌, map, Option, Some, None, is_none, IfSome}
use Rattle.std.specs.List.{fold, list_all}
use Rattle.zr_script_spec.specs.declared.command.Act.{Act}
use Rattle.zr_script_spec.specs.declared.command.Command.{Command}
use Rattle.zr_script_spec.specs.declared.report.ReportLine.{ReportLine}
use Rattle.zr_script_spec.specs.declared.report.ReportLine.TheVariants.{Handled, Taken, Ran, Fanned, Mark, Show, Record, Parent, Source}
use Rattle.zr_world_spec.specs.World.{WorldState, with_booked, is_taken}
use Rattle.zr_world_spec.specs.Next.{acts}
use Rattle.zr_script_spec.specs.Lines.{lines}
use Rattle.zr_world_spec.specs.Moments.{Numbered, Moment, onward, reached}
use Rattle.zr_world_spec.specs.Accepted.{accepted}
use Rattle.zr_netrun_report.specs.Summary.{counts_of}
use Rattle.zr_netrun_report.specs.Counted.{all_capped}
use Rattle.zr_netrun_lines.specs.Kept.{Kept}

-- the neighbour that a report line names is there; a fan is told by one line, and what its steps report is asked
abbrev pub is_known : WorldState → ReportLine → Bool
is_known w (Handled router from msg tag) = true
is_known w (Taken router to msg tag) = is_taken w to
is_known w (Ran steps quiet) = true
is_known w (Fanned lines steps kinds) = false
is_known w (Mark line) = true
is_known w (Show router) = true
is_known w (Record links) = true
is_known w (Parent root parent) = true
is_known w (Source source number decls) = true

-- What is kept has the world of a moment, but for the steps that runs asked for, and has counted its report, where it counts.
pub record IsCounted (k : Kept) (m : Moment) : Type 0 where
  pub world_is : k.world.state ≡ with_booked m.world k.world.state.booked
  pub counts_are : IfSome k.counts (λ c. c ≡ all_capped (counts_of m))
  pub known : list_all (is_known m.world) m.report ≡ true

-- What was kept has become what is kept now, by some of the acts that are ahead: these and those that are left lead to the same.
pub record CountsAhead (old : Kept) (ahead left : List Numbered) (new : Kept) : Type 0 where
  pub mode : is_none new.counts ≡ is_none old.counts
  pub goes : (m : Moment) → IsCounted old m → (n : Moment) × (fold onward (Some m) ahead ≡ fold onward (Some n) left) × IsCounted new n

-- by all of them
abbrev pub CountsOn : List Numbered → Kept → Kept → Type 0
CountsOn ahead old new = CountsAhead old ahead [] new

-- the acts of a command, with the number of the line that was counted last
abbrev pub acts_by : Kept → Command → List Numbered
acts_by k command = map (λ a. (k.number, a)) (acts k.world.state k.number command)

-- a step, if there is one
abbrev pub step_by : Kept → Option Act → List Numbered
step_by k None = []
step_by k (Some act) = (k.number, act) ∷ []

-- ---- a whole script

-- all acts of a script were counted
abbrev pub CountsWhole : Kept → List ℕ → Type 0
CountsWhole k bytes = (m : Moment) × (reached (accepted (lines bytes)) ≡ Some m) × IsCounted k m
