-- What the running code keeps of a script's run, and what a turn of it has done.
use Rattle.std.specs.Prelude.{◌≡◌, ℕ, Bool, true, false, if◌then◌else◌, List, [], ◌∷◌, ◌++◌, Option, Some, None, take, is_some, is_none, Result, Ok, Err, ◌⊎◌}
use Rattle.std.specs.List.{flat_map}
use Rattle.zr_script_spec.specs.declared.command.Act.{Act}
use Rattle.zr_script_spec.specs.declared.error.ScriptError.{ScriptError}
use Rattle.zr_script_spec.specs.declared.error.ScriptError.TheVariants as e
use Rattle.zr_script_spec.specs.Lines.{most_kept}
use Rattle.zr_script_spec.specs.Report.{line_text}
use Rattle.zr_world_spec.specs.Acts.{outcome}
use Rattle.zr_world_spec.specs.Next.{Done}
use Rattle.zr_world_spec.specs.Run.{Run, on_line}
use Rattle.zr_outside.specs.Told.{AppendsPrefix}
use Rattle.zr_world.specs.Living.{Living, alive, new_world}
use Rattle.zr_netrun_report.specs.declared.counts.Counts.{Counts}
use Rattle.zr_netrun_report.specs.Waiting.{Written}
use Rattle.zr_netrun_lines.specs.declared.runner.RunStop.{RunStop}
use Rattle.zr_netrun_lines.specs.declared.runner.RunStop.TheVariants.{Refused, NoMemory, WriteFault}

-- what is kept between two turns
pub record Kept : Type 0 where
  pub world : Living
  -- how many lines have ended
  pub number : ℕ
  -- the prefix that has come of the line that has not ended
  pub line : List ℕ
  -- what is to be written
  pub pending : List ℕ
  -- what was counted of the report, where it is counted and not written
  pub counts : Option Counts

-- whether the report is written
abbrev pub writes : Kept → Bool
writes k = is_none k.counts

-- what is looked at of a sink: nothing where the report is not written
abbrev pub seen : Bool → Option (List ℕ) → Option (List ℕ)
seen true held = held
seen false held = None

-- nothing has come yet
abbrev pub begun : Option Counts → Kept
begun counts = record { world = new_world; number = 0; line = []; pending = []; counts = counts }

-- a run that begins with what is kept
abbrev pub fresh : Kept → Run
fresh k = record { world = k.world.state; number = k.number; text = []; refusal = None }

-- What is kept is a run's that was not refused, behind an earlier text.
pub record IsAt (run : Run) (line earlier : List ℕ) (new : Kept) (before after : Option (List ℕ)) : Type 0 where
  pub world : new.world ≡ alive run.world new.world.applied
  pub number : new.number ≡ run.number
  pub line_is : new.line ≡ line
  pub refusal : run.refusal ≡ None
  pub text : Written (earlier ++ run.text) new.pending before after

-- A turn that stopped: a refusal is that of the run; otherwise a prefix of the text has gone out.
abbrev pub Stopped : RunStop → Run → List ℕ → Kept → Option (List ℕ) → Option (List ℕ) → Type 0
Stopped (Refused e) run earlier new before after =
    (run.refusal ≡ Some e) × (new.number ≡ run.number) × Written (earlier ++ run.text) new.pending before after
Stopped NoMemory run earlier new before after = AppendsPrefix (earlier ++ run.text) before after
Stopped WriteFault run earlier new before after = AppendsPrefix (earlier ++ run.text) before after

-- What a turn has done.
abbrev pub Turns : Result (Unit {0}) RunStop → Run → List ℕ → List ℕ → Kept → Option (List ℕ) → Option (List ℕ) → Type 0
Turns (Ok u) run line earlier new before after = IsAt run line earlier new before after
Turns (Err stop) run line earlier new before after = Stopped stop run earlier new before after

-- the line of some that is refused behind a run: the first behind which the run is. No bytes where none is
abbrev pub refused_line : Run → List (List ℕ) → List ℕ
refused_line run [] = []
refused_line run (line ∷ more) = if is_some (on_line run line).refusal then line else refused_line (on_line run line) more

-- Where a turn was refused the line that was is kept, as far as it matters.
abbrev pub KeepsRefused : Result (Unit {0}) RunStop → List ℕ → Kept → Type 0
KeepsRefused (Ok u) line new = Unit {0}
KeepsRefused (Err (Refused e)) line new = new.line ≡ take most_kept line
KeepsRefused (Err NoMemory) line new = Unit {0}
KeepsRefused (Err WriteFault) line new = Unit {0}

-- The run behind a refused line is that of what was kept, but for the line.
abbrev pub IsKeptIf : Result (Unit {0}) RunStop → Result (Unit {0}) RunStop → List ℕ → Kept → Kept → Type 0
IsKeptIf (Ok u) result line old new = (result ≡ Ok u) × (new ≡ old)
IsKeptIf (Err (Refused e)) (Ok u) line old new = ⊥
IsKeptIf (Err (Refused e)) (Err stop) line old new =
    ((stop ≡ Refused e) × (new ≡ record { world = old.world; number = old.number; line = take most_kept line; pending = old.pending; counts = old.counts }))
    ⊎ (stop ≡ NoMemory)
IsKeptIf (Err NoMemory) result line old new = (result ≡ Err NoMemory) × (new ≡ old)
IsKeptIf (Err WriteFault) result line old new = (result ≡ Err WriteFault) × (new ≡ old)

-- the run behind what was done from what is kept, where the line that asked for it has been counted already
abbrev pub run_behind : Kept → Done → Run
run_behind k (Ok x) = record { world = x.1; number = k.number; text = flat_map line_text x.0; refusal = None }
run_behind k (Err e) = record { world = k.world.state; number = k.number; text = []; refusal = Some e }

-- the run behind one act
abbrev pub run_by : Kept → Act → Run
run_by k act = run_behind k (outcome k.world.state k.number act)

-- What a step of a run has done, where this is the next one: without one nothing is done.
abbrev pub StepsOn : Option Act → Result Bool RunStop → Kept → Kept → Option (List ℕ) → Option (List ℕ) → Type 0
StepsOn None (Ok moved) old new before after = (moved ≡ false) × (new ≡ old) × (after ≡ before)
StepsOn None (Err stop) old new before after = ⊥
StepsOn (Some step) (Ok moved) old new before after = (moved ≡ true) × IsAt (run_by old step) old.line old.pending new before after
StepsOn (Some step) (Err stop) old new before after = Stopped stop (run_by old step) old.pending new before after

-- why a run stops where an error comes: memory ran out, or the line is refused
abbrev pub stop_of : ScriptError → RunStop
stop_of e.UnknownCommand = Refused e.UnknownCommand
stop_of e.BadWords = Refused e.BadWords
stop_of e.UnknownName = Refused e.UnknownName
stop_of e.NameTaken = Refused e.NameTaken
stop_of e.BadKey = Refused e.BadKey
stop_of e.NotLinked = Refused e.NotLinked
stop_of e.AlreadyLinked = Refused e.AlreadyLinked
stop_of e.NothingThere = Refused e.NothingThere
stop_of e.NotAsked = Refused e.NotAsked
stop_of e.NotSettled = Refused e.NotSettled
stop_of e.NotSamples = Refused e.NotSamples
stop_of e.NotJoined = Refused e.NotJoined
stop_of e.Limit = Refused e.Limit
stop_of e.NoMemory = NoMemory
