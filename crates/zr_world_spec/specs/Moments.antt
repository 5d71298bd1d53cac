-- The moments of a script: what accepted acts lead to. A list of numbered acts names its moment.
use Rattle.std.specs.Prelude.{ℕ, ◌&&◌, ◌||◌, nat_lt, nat_le, Bool, true, false, List, [], ◌∷◌, ◌++◌, Option, Some, None, Ok, Err}
use Rattle.std.specs.List.{fold}
use Rattle.zr_script_spec.specs.declared.command.Act.{Act}
use Rattle.zr_script_spec.specs.declared.command.Act.TheVariants as a
use Rattle.zr_script_spec.specs.declared.report.ReportLine.{ReportLine}
use Rattle.zr_world_spec.specs.World.{WorldState, empty_world}
use Rattle.zr_world_spec.specs.Acts.{Outcome, outcome}

-- ---- numbered acts

-- an accepted act with the number of its line: a line's own act, or a step of its run
abbrev pub Numbered : Type 0
Numbered = ℕ × Act

-- whether an act only moves a message on
abbrev pub is_step : Act → Bool
is_step (a.Router id) = false
is_step (a.Client id router) = false
is_step (a.Link one other weight) = false
is_step (a.Up router neighbour) = false
is_step (a.Break router neighbour) = false
is_step (a.Down router neighbour) = false
is_step (a.Sub client id key) = false
is_step (a.Unsub client id) = false
is_step (a.Token client id key) = false
is_step (a.Untoken client id) = false
is_step (a.Able client id key complete) = false
is_step (a.Unable client id) = false
is_step (a.Interest client id mode kinds key aggregate) = false
is_step (a.Uninterest client id) = false
is_step (a.Publish client content) = false
is_step (a.Get client number target content) = false
is_step (a.Reply client number content) = false
is_step (a.End client number) = false
is_step (a.Handle router from) = true
is_step (a.Take router to) = true
is_step a.Mark = false
is_step (a.Show router) = false

-- whether an act may stand behind one of the line `last`: its line is a later one, but the steps of a run are of one line
abbrev pub is_later : ℕ → Numbered → Bool
is_later last x = nat_lt last x.0 || (is_step x.1 && nat_le last x.0)

-- whether the numbers of some acts ascend
abbrev pub ascends : ℕ → List Numbered → Bool
ascends last [] = true
ascends last (x ∷ xs) = is_later last x && ascends x.0 xs

-- ---- moments

-- a moment between two acts, also of one run: the world there, and what was reported of each step and mark so far
pub record Moment : Type 0 where
  pub world : WorldState
  pub report : List ReportLine

-- before the first line
abbrev pub beginning : Moment
beginning = record { world = empty_world; report = [] }

-- the moment behind what an act reports, in the world that it leads to
abbrev pub then_at : Moment → List ReportLine × WorldState → Moment
then_at m x = record { world = x.1; report = m.report ++ x.0 }

-- the moment that an act leads to: none where the act is refused
abbrev pub went : Moment → Outcome → Option Moment
went m (Ok x) = Some (record { world = x.1; report = m.report ++ x.0 })
went m (Err e) = None

-- one more act
abbrev pub onward : Option Moment → Numbered → Option Moment
onward None x = None
onward (Some m) x = went m (outcome m.world x.0 x.1)

-- the moment that some acts lead to: none where one of them is refused
abbrev pub reached : List Numbered → Option Moment
reached acts = fold onward (Some beginning) acts
