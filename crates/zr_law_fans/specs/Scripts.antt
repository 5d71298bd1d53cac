-- Fans of scripts: what is shown of samples under way in a network holds of each world that a script's accepted acts reach.
use Rattle.std.specs.Prelude.{◌≡◌, ℕ, true, List, [], ◌∷◌, Some, None, Ok}
use Rattle.std.specs.List.{list_all}
use Rattle.zr_script_spec.specs.declared.command.Act.{Act}
use Rattle.zr_script_spec.specs.declared.report.ReportLine.{ReportLine}
use Rattle.zr_world_spec.specs.World.{WorldState}
use Rattle.zr_world_spec.specs.Fan.{fanned}
use Rattle.zr_world_spec.specs.Moments.{Numbered, Moment, is_step, reached}
use Rattle.zr_world_spec.specs.Next.{next, all_done, fan_step}
use Rattle.zr_law_fan.specs.Samples.{under_way, IsCalm}

-- at each moment to which acts lead a sample changes nothing of a router, nobody is told anything of it, and it is taken
abbrev pub ScriptsAreCalm : Type 0
ScriptsAreCalm = (acts : List Numbered) (m : Moment) → reached acts ≡ Some m → IsCalm m.world

-- Steps that are accepted one after another, in any order, until nothing is under way.
pub record HaveEnded (w : WorldState) (line : ℕ) (steps : List Act) (x : List ReportLine × WorldState) : Type 0 where
  pub only_steps : list_all is_step steps ≡ true
  pub done : all_done w line steps ≡ Ok x
  pub ended : under_way x.1.ends ≡ []

-- at each moment to which acts lead: where a fan is accepted, any order of steps until nothing is under way tells the lines of the fan, and leaves its
-- world
abbrev pub FansArePlain : Type 0
FansArePlain = (acts : List Numbered) (m : Moment) → reached acts ≡ Some m → (line : ℕ) (fan : List ReportLine × WorldState) → fan_step m.world line ≡ Ok fan →
    (steps : List Act) (x : List ReportLine × WorldState) → HaveEnded m.world line steps x → fan ≡ (fanned m.world.routers x.0 ∷ [], x.1)

-- at each moment to which acts lead: where a fan is accepted, nothing is under way behind it, and no step is possible
abbrev pub FansEnd : Type 0
FansEnd = (acts : List Numbered) (m : Moment) → reached acts ≡ Some m → (line : ℕ) (fan : List ReportLine × WorldState) → fan_step m.world line ≡ Ok fan →
    (under_way fan.1.ends ≡ []) × (next fan.1 ≡ None)
