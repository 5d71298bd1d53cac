-- The sizes on which both ends of a session agree (Zenoh protocol 1.0, "Init").
use Rattle.std.specs.Prelude.{ℕ, ◌+◌, ◌*◌, ◌/◌, ◌%◌, ◌==◌, min, Bool, ◌&&◌, Option, Some, None, nat_le, if◌then◌else◌}
use Rattle.zr_trans.specs.declared.trans.Sizes.{Sizes}

-- the two bits of the resolution of frame numbers, and of request ids
abbrev pub frame_bits : Sizes → ℕ
frame_bits s = s.bits % 4

abbrev pub request_bits : Sizes → ℕ
request_bits s = s.bits / 4 % 4

-- 32 bits for both, and batches of 65,535 bytes
abbrev pub usual : Sizes
usual = record { bits = 2 + 4 * 2; batch = 65535 }

-- what INIT offers; this end offers the usual sizes
abbrev pub offered : Option Sizes → Sizes
offered None = usual
offered (Some s) = s

-- the lesser of the peer's and the usual ones
abbrev pub agreed : Sizes → Sizes
agreed s = record { bits = min (frame_bits s) 2 + 4 * min (request_bits s) 2; batch = min s.batch 65535 }

-- No value is above the usual one; a batch size of two bytes never is.
abbrev pub is_within : Sizes → Bool
is_within s = nat_le (frame_bits s) 2 && nat_le (request_bits s) 2

-- as a message tells them: only where they differ from the usual ones
abbrev pub told : Sizes → Option Sizes
told s = if s.bits == 2 + 4 * 2 && s.batch == 65535 then None else Some s
