-- Words of a line that is not too long.
use Rattle.std.specs.Prelude.{ℕ, nat_le, Bool, List, length}
use Rattle.std.specs.List.{list_all}
use Rattle.zr_script_spec.specs.Lines.{most_line}

-- whether no word is longer than a line may be
abbrev pub are_short : List (List ℕ) → Bool
are_short words = list_all (λ word. nat_le (length word) most_line) words
