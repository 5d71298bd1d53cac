-- What a call has done to the tables: what is said, or the refusal that is said and nothing else.
use Rattle.std.specs.Prelude.{◌≡◌, Bool, true, false, List, [], ◌++◌, Result, Ok, Err, IfOk, is_ok}
use Rattle.zr_script_spec.specs.declared.error.ScriptError.{ScriptError}
use Rattle.zr_script_spec.specs.declared.error.ScriptError.TheVariants.{NoMemory}
use Rattle.zr_script_spec.specs.declared.report.ReportLine.{ReportLine}
use Rattle.zr_lists.specs.Prefix.{IsPrefixBehind}
use Rattle.zr_world_spec.specs.World.{WorldState}
use Rattle.zr_world_spec.specs.Acts.{Outcome}
use Rattle.zr_world.specs.Living.{lines_of}

-- What a change did is what is said; a refusal changes nothing; where memory ran out nothing is said.
abbrev pub Changes : {S : Type 0} → Result (Unit {0}) ScriptError → Result S ScriptError → S → S → Type 0
Changes (Ok u) said old new = said ≡ Ok new
Changes (Err NoMemory) said old new = Unit {0}
Changes (Err refusal) said old new = (said ≡ Err refusal) × (new ≡ old)

-- The same for an act that no report line tells of.
abbrev pub Does : Result (Unit {0}) ScriptError → Outcome → WorldState → WorldState → Type 0
Does (Ok u) said old new = said ≡ Ok ([], new)
Does (Err NoMemory) said old new = Unit {0}
Does (Err refusal) said old new = (said ≡ Err refusal) × (new ≡ old)

-- What counting did: a refusal changes nothing, and memory does not run out.
abbrev pub Counts : {S : Type 0} → Result (Unit {0}) ScriptError → Result S ScriptError → S → S → Type 0
Counts (Ok u) said old new = said ≡ Ok new
Counts (Err refusal) said old new = (said ≡ Err refusal) × (new ≡ old)

-- memory ran out
abbrev pub is_out_of_memory : Result (Unit {0}) ScriptError → Bool
is_out_of_memory (Ok u) = false
is_out_of_memory (Err NoMemory) = true
is_out_of_memory (Err refusal) = false

-- What an act did to the tables of a world and to a report: `Applies` of their state.
abbrev pub AppliesTo : Result (Unit {0}) ScriptError → Outcome → WorldState → WorldState → List ReportLine → List ReportLine → Type 0
AppliesTo (Ok u) said old new before after = IfOk said (λ x. (new ≡ x.1) × (after ≡ before ++ x.0)) × (is_ok said ≡ true)
AppliesTo (Err NoMemory) said old new before after = IsPrefixBehind before (lines_of said) after
AppliesTo (Err refusal) said old new before after = (said ≡ Err refusal) × (new ≡ old) × (after ≡ before)
