-- Frame numbers of one channel (Zenoh protocol 1.0, "Frame"). They count up modulo a power of two.
use Rattle.std.specs.Prelude.{ℕ, ◌+◌, ◌-◌, ◌%◌, ◌/◌, ◌^◌, ◌==◌, Bool, ◌&&◌, nat_lt, if◌then◌else◌}

-- the modulus, by the two bits of the resolution: 8, 16, 32 or 64 bits
abbrev pub modulus_of : ℕ → ℕ
modulus_of bits = if bits == 0 then 2 ^ 7 else (if bits == 1 then 2 ^ 14 else (if bits == 2 then 2 ^ 28 else 2 ^ 63))

-- The modulus, and the number that is expected.
pub record Turn : Type 0 where
  pub modulus : ℕ
  pub next : ℕ

-- The number is the one expected, or ahead of it by less than half the modulus.
abbrev pub accepts : Turn → ℕ → Bool
accepts t n = nat_lt n t.modulus && nat_lt ((n + t.modulus - t.next) % t.modulus) (t.modulus / 2)

-- the numbers behind one that came
abbrev pub after : Turn → ℕ → Turn
after t n = record { modulus = t.modulus; next = (n + 1) % t.modulus }
