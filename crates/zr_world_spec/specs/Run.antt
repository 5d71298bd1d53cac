-- The run of a script: a fold over its lines, which stops at the first one that is refused.
use Rattle.std.specs.Prelude.{ℕ, ◌+◌, ◌||◌, nat_lt, Bool, if◌then◌else◌, List, [], ◌++◌, length, take, Option, Some, None, is_some, Result, Ok, Err}
use Rattle.std.specs.List.{fold, flat_map}
use Rattle.zr_script_spec.specs.declared.error.ScriptError.{ScriptError}
use Rattle.zr_script_spec.specs.declared.command.Command.{Command}
use Rattle.zr_script_spec.specs.Lines.{most_bytes, lines, ended_lines}
use Rattle.zr_script_spec.specs.Command.{command_of}
use Rattle.zr_script_spec.specs.Report.{line_text, refused_text, too_long_text}
use Rattle.zr_world_spec.specs.World.{WorldState, empty_world}
use Rattle.zr_world_spec.specs.Next.{Done, applied}

-- a script up to a line
pub record Run : Type 0 where
  pub world : WorldState
  -- how many lines were read, a refused one among them
  pub number : ℕ
  -- the report so far
  pub text : List ℕ
  -- why the last of these lines was refused, if it was: then no line after it counts
  pub refusal : Option ScriptError

abbrev pub start : Run
start = record { world = empty_world; number = 0; text = []; refusal = None }

-- what a command did to the run
abbrev pub stepped : Run → Done → Run
stepped r (Ok x) = record { world = x.1; number = r.number + 1; text = r.text ++ flat_map line_text x.0; refusal = None }
stepped r (Err e) = record { world = r.world; number = r.number + 1; text = r.text; refusal = Some e }

-- what a line did to the run by what it asks
abbrev pub commanded : Run → Result (Option Command) ScriptError → Run
commanded r (Ok None) = record { world = r.world; number = r.number + 1; text = r.text; refusal = None }
commanded r (Ok (Some command)) = stepped r (applied r.world (r.number + 1) command)
commanded r (Err e) = record { world = r.world; number = r.number + 1; text = r.text; refusal = Some e }

-- one more line
abbrev pub on_line : Run → List ℕ → Run
on_line r line = if is_some r.refusal then r else commanded r (command_of line)

-- the run of some lines
abbrev pub run_lines : List (List ℕ) → Run
run_lines ls = fold on_line start ls

-- the run of a whole script
abbrev pub run_of : List ℕ → Run
run_of bytes = run_lines (lines bytes)

-- the run of the lines that end within the bytes
abbrev pub run_of_ended : List ℕ → Run
run_of_ended bytes = run_lines (ended_lines bytes)

-- the bytes that count: those within the limit
abbrev pub within : List ℕ → List ℕ
within bytes = take most_bytes bytes

-- the run that counts where these bytes were read: within the limit that of the whole script, and else that of the lines that
-- end within the limit
abbrev pub judged : List ℕ → Run
judged bytes = if nat_lt most_bytes (length bytes) then run_of_ended (within bytes) else run_of bytes

-- whether a script is refused: one of its lines is, or it is too long
abbrev pub is_refused : List ℕ → Bool
is_refused bytes = is_some (judged bytes).refusal || nat_lt most_bytes (length bytes)

-- what is said of a script whose lines were not refused
abbrev pub complaint_of_length : Bool → List ℕ
complaint_of_length too_long = if too_long then too_long_text else []

-- what is said of a refused line, or else of the length
abbrev pub complaint_of : Option ScriptError → ℕ → Bool → List ℕ
complaint_of (Some e) number too_long = refused_text number e
complaint_of None number too_long = complaint_of_length too_long

-- the line that tells why a script is refused; nothing where it isn't
abbrev pub complaint : List ℕ → List ℕ
complaint bytes = complaint_of (judged bytes).refusal (judged bytes).number (nat_lt most_bytes (length bytes))
