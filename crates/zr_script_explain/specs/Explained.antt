-- The explanation of a refused line: the line as it was read, a caret under what is wrong, and the cause.
use Rattle.std.specs.Prelude.{ℕ, List, ◌++◌}
use Rattle.zr_caret.specs.Shown.{caret_line, shown}
use Rattle.zr_script_spec.specs.declared.error.ScriptError.{ScriptError}
use Rattle.zr_script_spec.specs.Words.{words}
use Rattle.zr_script_spec.specs.Report.{line_end}
use Rattle.zr_script_explain.specs.Places.{place}
use Rattle.zr_script_explain.specs.Causes.{cause}

-- the three lines that explain why a line is refused
abbrev pub explanation : List ℕ → ScriptError → List ℕ
explanation line error = shown line ++ line_end ++ caret_line (place line (words line) error) ++ cause line (words line) error ++ line_end
