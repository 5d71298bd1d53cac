-- The lines of a script. A line is ended by the byte 10; the last line may lack it.
use Rattle.std.specs.Prelude.{ℕ, ◌+◌, ◌==◌, List, [], ◌∷◌, ◌++◌}
use Rattle.std.specs.List.{slice_split}

-- how many bytes a line has at most, without its end
abbrev pub most_line : ℕ
most_line = 4096

-- as many bytes of a line tell that it is too long, whatever follows them
abbrev pub most_kept : ℕ
most_kept = most_line + 1

-- how many bytes a script has at most
abbrev pub most_bytes : ℕ
most_bytes = 67108864

-- what stands between the line ends: the lines that have ended, and last the one that has not
abbrev pub parts : List ℕ → List (List ℕ)
parts bytes = slice_split (λ b. b == 10) bytes

-- all parts but the last
abbrev pub all_but_last : List (List ℕ) → List (List ℕ)
all_but_last [] = []
all_but_last (part ∷ []) = []
all_but_last (part ∷ next ∷ more) = part ∷ all_but_last (next ∷ more)

-- the last part
abbrev pub last_part : List (List ℕ) → List ℕ
last_part [] = []
last_part (part ∷ []) = part
last_part (part ∷ next ∷ more) = last_part (next ∷ more)

-- the lines that end within the bytes
abbrev pub ended_lines : List ℕ → List (List ℕ)
ended_lines bytes = all_but_last (parts bytes)

-- what is behind the last line end
abbrev pub open_line : List ℕ → List ℕ
open_line bytes = last_part (parts bytes)

-- a line, unless it has no bytes
abbrev pub unless_empty : List ℕ → List (List ℕ)
unless_empty [] = []
unless_empty (b ∷ bs) = (b ∷ bs) ∷ []

-- the lines of a whole script
abbrev pub lines : List ℕ → List (List ℕ)
lines bytes = ended_lines bytes ++ unless_empty (open_line bytes)
