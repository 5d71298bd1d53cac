-- Wires between routers and their neighbours, by who sends and who receives.
use Rattle.std.specs.Prelude.{◌≡◌, ℕ, false, if◌then◌else◌, List, [], ◌∷◌, ◌++◌, drop, slice_get, Option, Some, None}
use Rattle.zr_msg.specs.declared.msg.Msg.{Msg}
use Rattle.zr_msg.specs.declared.peer.Role.{Role}
use Rattle.zr_msg.specs.declared.peer.Role.TheVariants.{Client, Router}
use Rattle.zr_world_spec.specs.World.{is_end}
use Rattle.zr_wire.specs.Sending.{MayBeSent}

-- what who sends is, and the messages on the wire with their tags, the oldest first
pub record Wire : Type 0 where
  pub role : Role
  pub waiting : List (Msg × ℕ)

-- the wire from one to another, where there is one
abbrev pub Wires : Type 0
Wires = List ℕ → List ℕ → Option Wire

-- ---- one wire

abbrev pub new_wire : Role → Wire
new_wire role = record { role = role; waiting = [] }

abbrev pub emptied : Wire → Wire
emptied w = new_wire w.role

abbrev pub with_message : Wire → Msg → ℕ → Wire
with_message w msg tag = record { role = w.role; waiting = w.waiting ++ (msg, tag) ∷ [] }

abbrev pub without_oldest : Wire → Wire
without_oldest w = record { role = w.role; waiting = drop 1 w.waiting }

-- the oldest message, where there is a wire with one
abbrev pub oldest : Option Wire → Option (Msg × ℕ)
oldest None = None
oldest (Some w) = slice_get w.waiting 0

-- there is a wire, and who sends on it may send the message
abbrev pub CanSend : Option Wire → Msg → Type 0
CanSend None msg = ⊥
CanSend (Some w) msg = MayBeSent w.role msg

-- ---- all wires

abbrev pub AreSame : Wires → Wires → Type 0
AreSame old new = (f t : List ℕ) → new f t ≡ old f t

-- the wires, but that from one to another is this
abbrev pub with_wire : List ℕ → List ℕ → Option Wire → Wires → Wires
with_wire from to w wires f t = if is_end (from, to) (f, t) then w else wires f t

abbrev pub Sets : List ℕ → List ℕ → Option Wire → Wires → Wires → Type 0
Sets from to w old new = AreSame (with_wire from to w old) new

-- a router's wire from a neighbour, and where that is a router its wire from this one
abbrev pub opened : List ℕ → List ℕ → Role → Wires → Wires
opened router neighbour Client wires = with_wire neighbour router (Some (new_wire Client)) wires
opened router neighbour Router wires = with_wire router neighbour (Some (new_wire Router)) (with_wire neighbour router (Some (new_wire Router)) wires)

abbrev pub Opens : List ℕ → List ℕ → Role → Wires → Wires → Type 0
Opens router neighbour role old new = AreSame (opened router neighbour role old) new

-- none in either direction
abbrev pub Closes : List ℕ → List ℕ → Wires → Wires → Type 0
Closes one other old new = AreSame (with_wire other one None (with_wire one other None old)) new

-- the wires but those between two
abbrev pub AreSameBut : List ℕ → List ℕ → Wires → Wires → Type 0
AreSameBut one other old new = (f t : List ℕ) → is_end (one, other) (f, t) ≡ false → is_end (other, one) (f, t) ≡ false → new f t ≡ old f t
