-- What is told of the bytes that a source has left or that a sink holds. Where nothing is told before a call, nothing is owed after it.
use Rattle.std.specs.Prelude.{◌≡◌, ◌⊎◌, ℕ, List, ◌++◌, drop, take, Option, Some, None}
use Rattle.zr_outside.specs.Counts.{Counted}

-- what is told stays as it was
abbrev pub IsAsBefore : Option (List ℕ) → Option (List ℕ) → Type 0
IsAsBefore None after = Unit {0}
IsAsBefore (Some bytes) after = after ≡ Some bytes

-- the bytes stand at the end now
abbrev pub Appends : List ℕ → Option (List ℕ) → Option (List ℕ) → Type 0
Appends bytes None after = Unit {0}
Appends bytes (Some held) after = after ≡ Some (held ++ bytes)

-- some prefix of the bytes stands at the end now
abbrev pub AppendsPrefix : List ℕ → Option (List ℕ) → Option (List ℕ) → Type 0
AppendsPrefix bytes None after = Unit {0}
AppendsPrefix bytes (Some held) after = (prefix : List ℕ) × (rest : List ℕ) × (bytes ≡ prefix ++ rest) × (after ≡ Some (held ++ prefix))

-- a line was lost, and counts so
abbrev pub Loses : Option (List ℕ) → Option (List ℕ) → ℕ → ℕ → Type 0
Loses before after lost lost' = IsAsBefore before after × Counted lost lost' (Unit {0})

-- a line stands at the end now, and else it was lost
abbrev pub Tells : List ℕ → Option (List ℕ) → Option (List ℕ) → ℕ → ℕ → Type 0
Tells line before after lost lost' = (Appends line before after × (lost' ≡ lost)) ⊎ Loses before after lost lost'

-- the next n bytes of what was left are the first of the buffer now
abbrev pub Consumes : ℕ → List ℕ → Option (List ℕ) → Option (List ℕ) → Type 0
Consumes n buffer None after = Unit {0}
Consumes n buffer (Some bytes) after = (bytes ≡ take n buffer ++ drop n bytes) × (after ≡ Some (drop n bytes))
