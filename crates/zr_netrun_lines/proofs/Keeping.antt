-- Keeping the prefix of a line that comes in parts.
use Rattle.std.proofs.Common.{◌≡◌, ℕ, ◌+◌, ◌-◌, ◌≤◌, min, List, ◌++◌, length, take, sym, ap, ◌∙◌, arith}
use Rattle.std.proofs.Math.Seq.{take-append-add}
use Rattle.std.proofs.lemmas.List.{length-append, length-take, take_min}
use Rattle.zr_script_spec.specs.Lines.{most_kept}
use Rattle.zr_netrun_lines.proofs.Lines.{IsOpen, open_append, open_take}

-- what there is room for makes a prefix of 4,097 bytes
pub kept_prefix : (line part : List ℕ) → length line ≤ most_kept → line ++ take (min (most_kept - length line) (length part)) part ≡ take most_kept (line ++ part)
kept_prefix line part le =
    let sum : length line + (most_kept - length line) ≡ most_kept = omega arith in
    ap (λ z. line ++ z) (take_min (most_kept - length line) part) ∙ sym (take-append-add line part (most_kept - length line)) ∙ ap (λ n. take n (line ++ part)) sum

pub kept_short : (line part : List ℕ) (n : ℕ) → length line ≤ most_kept → n ≤ most_kept - length line → length (line ++ take n part) ≤ most_kept
kept_short line part n le room = omega (arith, length-append line (take n part), length-take n part)

pub kept_open : (line part : List ℕ) (n : ℕ) → IsOpen line → IsOpen part → IsOpen (line ++ take n part)
kept_open line part n h k = open_append line (take n part) h (open_take n part k)
