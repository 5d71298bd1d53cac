-- The id and the flags of a header.
use Rattle.std.specs.Prelude.{ℕ, Bool, not, ◌==◌, bit_and}

-- the id of a header of a message or a body, in its low five bits
abbrev pub has_id : ℕ → ℕ → Bool
has_id header id = bit_and header 0x1F == id

-- the header has the flag
abbrev pub has_flag : ℕ → ℕ → Bool
has_flag header flag = not (bit_and header flag == 0)
