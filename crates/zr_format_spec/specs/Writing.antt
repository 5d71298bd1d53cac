-- The header that is written.
use Rattle.std.specs.Prelude.{ℕ, Bool, if◌then◌else◌, bit_or}

-- the id, the two flags of a message's own, and whether extensions follow
abbrev pub writes_header : ℕ → Bool → Bool → Bool → ℕ
writes_header id first second extended =
    bit_or (bit_or (bit_or id (if first then 0x20 else 0)) (if second then 0x40 else 0)) (if extended then 0x80 else 0)
