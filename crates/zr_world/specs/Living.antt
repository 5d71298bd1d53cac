-- A world as its callers see it, and what its calls have done.
use Rattle.std.specs.Prelude.{◌≡◌, ℕ, ◌≤◌, Bool, true, false, List, [], ◌++◌, Result, Ok, Err, IfOk, is_ok, ◌⊎◌}
use Rattle.zr_script_spec.specs.declared.command.Act.{Act}
use Rattle.zr_script_spec.specs.declared.error.ScriptError.{ScriptError}
use Rattle.zr_script_spec.specs.declared.error.ScriptError.TheVariants.{NoMemory}
use Rattle.zr_script_spec.specs.declared.report.ReportLine.{ReportLine}
use Rattle.zr_lists.specs.Prefix.{IsPrefixBehind}
use Rattle.zr_world_spec.specs.World.{WorldState, empty_world}
use Rattle.zr_world_spec.specs.Acts.{Outcome, outcome}
use Rattle.zr_law_numbers.specs.Calls.{most_commands}
use Rattle.zr_law_calls.specs.Limits.{passes_limit}

-- a world as a value: its state, how many acts were applied, and whether an earlier call was out of memory
pub record Living : Type 0 where
  pub state : WorldState
  pub applied : ℕ
  pub spent : Bool

-- a world that is not spent, behind so many acts
abbrev pub alive : WorldState → ℕ → Living
alive w applied = record { state = w; applied = applied; spent = false }

-- a world in which nothing has come yet
abbrev pub new_world : Living
new_world = alive empty_world 0

-- the report lines of an act, none where it is refused
abbrev pub lines_of : Outcome → List ReportLine
lines_of (Ok x) = x.0
lines_of (Err e) = []

-- What an act did to a world that isn't spent, and to a report: the world is the one that is said, behind so many acts, and the report lines
-- that are said came behind those that were there; a refusal changes nothing; out of memory the world is spent, and of the lines that are
-- said a prefix came.
abbrev pub Applies : Result (Unit {0}) ScriptError → Outcome → ℕ → Living → Living → List ReportLine → List ReportLine → Type 0
Applies (Ok u) said applied old new before after = IfOk said (λ x. (new ≡ alive x.1 applied) × (after ≡ before ++ x.0)) × (is_ok said ≡ true)
Applies (Err NoMemory) said applied old new before after = (new.spent ≡ true) × IsPrefixBehind before (lines_of said) after
Applies (Err refusal) said applied old new before after = (said ≡ Err refusal) × (new ≡ old) × (after ≡ before)

-- What counting the steps of a run did to a world that isn't spent: a refusal changes nothing, and memory does not run out.
abbrev pub Books : Result (Unit {0}) ScriptError → Result WorldState ScriptError → Living → Living → Type 0
Books (Ok u) said old new = IfOk said (λ w. new ≡ alive w old.applied) × (is_ok said ≡ true)
Books (Err refusal) said old new = (said ≡ Err refusal) × (new ≡ old)

-- an act would pass a limit: as many were applied as may be, or one of those on its own words
abbrev pub IsPassed : Living → Act → Type 0
IsPassed w act = (most_commands ≤ w.applied) ⊎ (passes_limit w.state act ≡ true)

-- an act that is not refused, whatever line asks for it
abbrev pub IsPossible : WorldState → Act → Type 0
IsPossible w act = (line : ℕ) → is_ok (outcome w line act) ≡ true
