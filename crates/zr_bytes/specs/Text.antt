-- Byte strings behind their length.
use Rattle.std.specs.Prelude.{◌≡◌, ℕ, List, ◌++◌, length}
use Rattle.zr_bytes.specs.Number.{Spells, writes}

-- The bytes are a spelling of the text's length, and then the text.
abbrev pub SpellsText : List ℕ → List ℕ → Type 0
SpellsText text bytes = (front : List ℕ) × Spells (length text) front × (bytes ≡ front ++ text)

-- the spelling that is written
abbrev pub writes_text : List ℕ → List ℕ
writes_text text = writes (length text) ++ text
