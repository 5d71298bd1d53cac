-- The parts of a text between the places of one byte.
use Rattle.std.specs.Prelude.{ℕ, ◌==◌, List, [], Option, Some, None}
use Rattle.std.specs.List.{slice_split}

-- the parts of what is left, if anything is
abbrev pub parts : ℕ → Option (List ℕ) → List (List ℕ)
parts at None = []
parts at (Some bytes) = slice_split (λ b. b == at) bytes
