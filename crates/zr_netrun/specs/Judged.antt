-- What counts of a script where some bytes of it were read: the lines that have ended, as far as they end within the limit of a script's
-- length; and the last line, which no line end has to end, only where the script was read to its end.
use Rattle.std.specs.Prelude.{ℕ, ◌||◌, nat_lt, Bool, true, false, if◌then◌else◌, List, [], ◌++◌, length, take, Option, Some, None, is_some}
use Rattle.zr_script_spec.specs.declared.error.ScriptError.{ScriptError}
use Rattle.zr_script_spec.specs.Lines.{most_bytes, most_kept, lines, ended_lines}
use Rattle.zr_script_spec.specs.Report.{refused_text, too_long_text}
use Rattle.zr_world_spec.specs.Run.{Run, start, run_lines, within}
use Rattle.zr_script_explain.specs.Explained.{explanation}
use Rattle.zr_netrun_lines.specs.Kept.{refused_line}

-- the lines that count
abbrev pub judged_lines : Bool → List ℕ → List (List ℕ)
judged_lines true bytes = lines bytes
judged_lines false bytes = ended_lines (within bytes)

-- their run
abbrev pub judged : Bool → List ℕ → Run
judged to_end bytes = run_lines (judged_lines to_end bytes)

-- more bytes than a script may have
abbrev pub is_too_long : List ℕ → Bool
is_too_long bytes = nat_lt most_bytes (length bytes)

-- whether a script is refused by what was read of it: one of the lines that count is refused, or it is too long
abbrev pub is_refused : Bool → List ℕ → Bool
is_refused to_end bytes = is_some (judged to_end bytes).refusal || is_too_long bytes

-- what is said of a script whose lines were not refused
abbrev pub complaint_of_length : Bool → List ℕ
complaint_of_length too_long = if too_long then too_long_text else []

-- what is said of a refused line: why it is refused and, where that is asked for, its explanation
abbrev pub refusal_told : Bool → ℕ → List ℕ → ScriptError → List ℕ
refusal_told true number line e = refused_text number e ++ explanation line e
refusal_told false number line e = refused_text number e

-- what is said of a refused line, or else of the length
abbrev pub complaint_of : Bool → Option ScriptError → ℕ → List ℕ → Bool → List ℕ
complaint_of explains (Some e) number line too_long = refusal_told explains number line e
complaint_of explains None number line too_long = complaint_of_length too_long

-- the line that tells why a script is refused, with an explanation where that is asked for; nothing where it isn't refused. Of a line that
-- is too long only the first bytes are explained
abbrev pub complaint : Bool → Bool → List ℕ → List ℕ
complaint explains to_end bytes =
    complaint_of explains (judged to_end bytes).refusal (judged to_end bytes).number (take most_kept (refused_line start (judged_lines to_end bytes)))
    (is_too_long bytes)
