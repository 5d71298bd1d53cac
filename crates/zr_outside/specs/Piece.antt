-- What reading on until bytes come may give, by what a source says of the bytes that are left.
use Rattle.std.specs.Prelude.{ℕ, ◌+◌, ◌-◌, ◌^◌, ◌<◌, ◌≤◌, min, List, length, Option, ◌⊎◌}
use Rattle.zr_outside.specs.Counts.{Rose}
use Rattle.zr_outside.specs.Told.{IsAsBefore, Consumes}
use Rattle.zr_outside.specs.declared.piece.Piece.{Piece}
use Rattle.zr_outside.specs.declared.piece.Piece.TheVariants.{Bytes, End, Failed}

-- what reading on gave, with the buffer and what is left before and after it
abbrev pub GetsPiece : Piece → List ℕ → List ℕ → Option (List ℕ) → Option (List ℕ) → Type 0
GetsPiece (Bytes n) old new before after = (0 < n) × (n ≤ length old) × Consumes n new before after
GetsPiece End old new before after = IsAsBefore before after
GetsPiece Failed old new before after = IsAsBefore before after

-- the count of ends has risen, or that of quiet reads by 2 ^ 32
abbrev pub IsReadToEnd : ℕ → ℕ → ℕ → ℕ → Type 0
IsReadToEnd ends ends' quiets quiets' = Rose ends ends' ⊎ (min (quiets + 2 ^ 32) (2 ^ 64 - 1) ≤ quiets')
