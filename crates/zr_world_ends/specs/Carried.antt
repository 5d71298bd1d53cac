-- Ends as a world sees them: what is kept of each, with the messages that the carrier has on its wire.
use Rattle.std.specs.Prelude.{◌≡◌, ℕ, Bool, true, false, if◌then◌else◌, List, [], ◌∷◌, map, drop, take, length, Option, Some, None, is_some, Result, Ok, Err}
use Rattle.std.specs.Option.{option_map}
use Rattle.std.specs.List.Sorted.{IsStrictlySortedBy}
use Rattle.std.specs.Map.{keys_of}
use Rattle.zr_msg.specs.declared.msg.Msg.{Msg}
use Rattle.zr_msg.specs.declared.peer.Role.{Role}
use Rattle.zr_msg.specs.declared.peer.Role.TheVariants.{Client, Router}
use Rattle.zr_script_spec.specs.declared.error.ScriptError.{ScriptError}
use Rattle.zr_script_spec.specs.declared.error.ScriptError.TheVariants.{NothingThere}
use Rattle.zr_wire.specs.Sending.{MayBeSent}
use Rattle.zr_carrier.specs.Wire.{Wire, Wires, Sets}
use Rattle.zr_world_spec.specs.World.{Tagged, EndState, End, Ends, end_cmp, end_of, turned}
use Rattle.zr_world_ends.specs.declared.kind.WireKind.{WireKind}
use Rattle.zr_world_ends.specs.Kept.{KeptEnd, KeptEnds, kind_of, passed}
use Rattle.zr_world_ends.specs.Drained.{drained}
use Rattle.zr_world_ends.specs.Named.{at_end, change_at}

-- the messages that a carrier has on a wire
abbrev pub messages : Option Wire → List Tagged
messages None = []
messages (Some w) = map (λ x. record { msg = x.0; tag = x.1 }) w.waiting

-- an end; the wire of a broken link has none
abbrev pub seen : KeptEnd → Option Wire → EndState
seen k wire = drained k (if k.unbroken then messages wire else [])

-- each end, with the wire to its router from its neighbour
abbrev pub seen_ends : Wires → KeptEnds → Ends
seen_ends wires ks = map (λ e. (e.0, seen e.1 (wires e.0.1 e.0.0))) ks

-- what is on the wire to an end of an unbroken link is what the carrier has there
abbrev pub AreOnWires : Wires → Ends → Type 0
AreOnWires wires es = (x y : List ℕ) (s : EndState) → end_of es (x, y) ≡ Some s → s.unbroken ≡ true → s.wire ≡ messages (wires y x)

-- ---- who stands at the other end

-- a router has an end of its own, and a client has none
abbrev pub role_if : Bool → Role
role_if true = Router
role_if false = Client

abbrev pub neighbour_role : {S : Type 0} → List (End × S) → End → Role
neighbour_role xs e = role_if (is_some (at_end xs (turned e)))

-- the neighbour at an end may send a message, where the end is there: the link is unbroken, and its role may
abbrev pub MayArrive : Ends → End → Msg → Type 0
MayArrive es e msg = (s : EndState) → end_of es e ≡ Some s → (s.unbroken ≡ true) × MayBeSent (neighbour_role es e) msg

-- both ends of a link between routers are unbroken, or none is
abbrev pub ArePaired : Ends → Type 0
ArePaired es = (x y : List ℕ) (s t : EndState) → end_of es (x, y) ≡ Some s → end_of es (y, x) ≡ Some t → s.unbroken ≡ t.unbroken

-- ---- the carrier

-- a neighbour of this role sends on the wire, and the kinds are those of what is on it
abbrev pub IsWire : Role → List WireKind → Option Wire → Type 0
IsWire role kinds None = ⊥
IsWire role kinds (Some w) = (w.role ≡ role) × (kinds ≡ map (λ x. kind_of x.0) w.waiting)

-- an end of an unbroken link has its wire, and one of a broken link has nothing on it
abbrev pub IsWireIf : Role → List WireKind → Option Wire → Bool → Type 0
IsWireIf role kinds wire true = IsWire role kinds wire
IsWireIf role kinds wire false = kinds ≡ []

abbrev pub IsAtWire : Role → KeptEnd → Option Wire → Type 0
IsAtWire role k wire = IsWireIf role k.kinds wire k.unbroken

-- the ends are in order, and the carrier has the wire of each whose link is unbroken
pub record AreCarried (wires : Wires) (ks : KeptEnds) : Type 0 where
  pub ordered : IsStrictlySortedBy end_cmp (keys_of ks)
  pub carried : (x y : List ℕ) (k : KeptEnd) → at_end ks (x, y) ≡ Some k → IsAtWire (neighbour_role ks (x, y)) k (wires y x)
  pub paired : (x y : List ℕ) (k j : KeptEnd) → at_end ks (x, y) ≡ Some k → at_end ks (y, x) ≡ Some j → k.unbroken ≡ j.unbroken

-- ---- what was received

-- a message that was received is taken, and its kind is no longer kept; where none was nothing has changed
abbrev pub IsTaken : End → Option (Msg × ℕ) → Result Tagged ScriptError → KeptEnds → KeptEnds → Type 0
IsTaken e None r old new = (r ≡ Err NothingThere) × (new ≡ old)
IsTaken e (Some x) r old new = (r ≡ Ok (record { msg = x.0; tag = x.1 })) × (new ≡ change_at old e passed)

-- ---- a fan

-- a message that was received, if one was
abbrev pub received : Option (Msg × ℕ) → List Tagged
received None = []
received (Some x) = record { msg = x.0; tag = x.1 } ∷ []

abbrev pub without : ℕ → Wire → Wire
without n w = record { role = w.role; waiting = drop n w.waiting }

-- so many messages have left the wire to an end
abbrev pub Drains : End → ℕ → List Tagged → Wires → Wires → Type 0
Drains e n msgs old new = (msgs ≡ take n (messages (old e.1 e.0))) × Sets e.1 e.0 (option_map (without n) (old e.1 e.0)) old new

-- all messages have left the wires to these ends
abbrev pub drained_wire : Option KeptEnd → Option Wire → Option Wire
drained_wire None wire = wire
drained_wire (Some k) wire = option_map (without (length k.kinds)) wire

abbrev pub AreDrained : KeptEnds → Wires → Wires → Type 0
AreDrained ks old new = (x y : List ℕ) → new y x ≡ drained_wire (at_end ks (x, y)) (old y x)
