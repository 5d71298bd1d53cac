-- Wires that are there.
use Rattle.std.specs.Prelude.{◌≡◌, ℕ, List, Option, Some, None}
use Rattle.zr_msg.specs.declared.peer.Role.{Role}
use Rattle.zr_carrier.specs.Wire.{Wire, Wires}

-- there is a wire, and who sends on it has this role
abbrev pub IsOpen : Role → Option Wire → Type 0
IsOpen role None = ⊥
IsOpen role (Some w) = w.role ≡ role

-- there are no wires
abbrev pub AreNone : Wires → Type 0
AreNone wires = (from to : List ℕ) → wires from to ≡ None
