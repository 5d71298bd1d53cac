-- What the lines that count have in all: no more bytes than a script may have, so that their replies fit.
use Rattle.std.proofs.Common.{◌≡◌, ℕ, ◌≤◌, Bool, true, false, List, length, refl, arith}
use Rattle.std.specs.List.{sum_by}
use Rattle.std.proofs.lemmas.List.{length-take}
use Rattle.std.proofs.lemmas.List.Sums.{sum_by-append}
use Rattle.zr_script_spec.specs.Lines.{most_bytes, ended_lines, open_line, unless_empty}
use Rattle.zr_world_spec.specs.Run.{within}
use Rattle.zr_guarantee.specs.Scripts.{IsRefined, LinesRefine}
use Rattle.zr_law_held.specs.Lines.{LinesAreWithin, LinesFit}
use Rattle.zr_netrun.specs.Judged.{judged_lines}

-- they have no more bytes than a script may have
lines_within : LinesAreWithin → (to_end : Bool) (bytes : List ℕ) → (to_end ≡ true → length bytes ≤ most_bytes) → sum_by length (judged_lines to_end bytes) ≤ most_bytes
lines_within within_law true bytes few = omega (arith, within_law bytes, few refl)
lines_within within_law false bytes few =
    omega (arith, sum_by-append length (ended_lines (within bytes)) (unless_empty (open_line (within bytes))), within_law (within bytes), length-take most_bytes bytes)

-- so what clients were sent by them refines the one broker
pub lines_refined : LinesRefine → LinesFit → LinesAreWithin → (to_end : Bool) (bytes : List ℕ) → (to_end ≡ true → length bytes ≤ most_bytes) → IsRefined (judged_lines to_end bytes)
lines_refined refine_law fit_law within_law to_end bytes few =
    refine_law (judged_lines to_end bytes) (λ latest. fit_law (judged_lines to_end bytes) (lines_within within_law to_end bytes few))
