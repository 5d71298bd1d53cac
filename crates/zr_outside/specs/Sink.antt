-- What a call of a sink's `write` may give, by what it says of the bytes that it holds.
use Rattle.std.specs.Prelude.{◌≡◌, ℕ, ◌<◌, ◌≤◌, List, length, take, Option}
use Rattle.zr_outside.specs.Told.{IsAsBefore, Appends}
use Rattle.zr_outside.specs.declared.sink.Put.{Put}
use Rattle.zr_outside.specs.declared.sink.Put.TheVariants.{Took, Failed}

abbrev pub IsFailed : Put → Type 0
IsFailed put = put ≡ Failed

-- what a write gave, with what is held before and after it
abbrev pub Writes : Put → List ℕ → Option (List ℕ) → Option (List ℕ) → Type 0
Writes (Took n) bytes before after = (0 < n) × (n ≤ length bytes) × Appends (take n bytes) before after
Writes Failed bytes before after = IsAsBefore before after

-- a fact where a write took some bytes
abbrev pub OnTook : Put → Type 0 → Type 0
OnTook (Took n) fact = fact
OnTook Failed fact = Unit {0}
