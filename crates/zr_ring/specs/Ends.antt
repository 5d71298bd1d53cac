-- What a contract sees of the two ends of a ring.
use Rattle.std.specs.Prelude.{◌≡◌, ℕ, List}
use Rattle.zr_ring.specs.declared.name.RingName.{RingName}
use Rattle.zr_ring.specs.declared.ends.GivingEnd.{GivingEnd}
use Rattle.zr_ring.specs.declared.ends.TakingEnd.{TakingEnd}

module _ {X : Type 0} where
  abbrev pub given : GivingEnd X → List X
  given f = f.seat.me.0.giver.list

  -- the count taken as it was loaded last, and how often it was
  abbrev pub known_taken : GivingEnd X → ℕ
  known_taken f = f.seat.me.0.giver.known

  abbrev pub giver_loads : GivingEnd X → ℕ
  giver_loads f = f.seat.me.0.giver.loads

  -- which ring it gives to
  abbrev pub giver_name : GivingEnd X → RingName
  giver_name f = f.seat.me.0.giver.name

  abbrev pub taken : TakingEnd X → List X
  taken d = d.seat.me.0.taker.list

  -- the count given as it was loaded last, and how often it was
  abbrev pub known_given : TakingEnd X → ℕ
  known_given d = d.seat.me.0.taker.known

  abbrev pub taker_loads : TakingEnd X → ℕ
  taker_loads d = d.seat.me.0.taker.loads

  -- which ring it takes from
  abbrev pub taker_name : TakingEnd X → RingName
  taker_name d = d.seat.me.0.taker.name

  abbrev pub AreEnds : GivingEnd X → TakingEnd X → Type 0
  AreEnds f d = f.seat.table_id ≡ d.seat.table_id

  abbrev pub IsSameGivingEnd : GivingEnd X → GivingEnd X → Type 0
  IsSameGivingEnd old new = (new.seat.table_id ≡ old.seat.table_id) × (new.slots ≡ old.slots) × (giver_name new ≡ giver_name old)

  abbrev pub IsSameTakingEnd : TakingEnd X → TakingEnd X → Type 0
  IsSameTakingEnd old new = (new.seat.table_id ≡ old.seat.table_id) × (taker_name new ≡ taker_name old)
