-- What a contract sees of a giver.
use Rattle.std.specs.Prelude.{◌≡◌, ℕ, ◌-◌, Bool, List, length}
use Rattle.zr_ring.specs.declared.name.RingName.{RingName}
use Rattle.zr_ring.specs.declared.parcel.Note.{Ghosts}
use Rattle.zr_ring.specs.declared.parcel.Item.{Item}
use Rattle.zr_ring.specs.declared.giver.Giver.{Giver}
use Rattle.zr_ring.specs.Ends as ends
use Rattle.zr_ring.specs.Ends.{given, known_taken, giver_loads}
use Rattle.zr_ring.specs.Items.{ends_given}

module _ {N : Type 0} {g : Ghosts N} where
  -- all that was given, the end included
  abbrev pub sent : Giver N g → List (Item N g)
  sent x = given x.ring

  -- whether the end was not given yet
  abbrev pub is_going : Giver N g → Bool
  is_going x = x.ring.going

  -- how many parcels were given
  abbrev pub number : Giver N g → ℕ
  number x = length (sent x) - ends_given (is_going x)

  -- the slots of the ring, that of the end aside
  abbrev pub slots_of : Giver N g → ℕ
  slots_of x = x.slots

  -- the free slots known: what `free` answered last, or the slots before its first call, less what was given since
  abbrev pub free_slots : Giver N g → ℕ
  free_slots x = x.free

  -- the count taken as it was loaded last
  abbrev pub taken_loaded : Giver N g → ℕ
  taken_loaded x = known_taken x.ring

  -- how often `free` was called
  abbrev pub free_calls : Giver N g → ℕ
  free_calls x = giver_loads x.ring

  -- the name of its ring
  abbrev pub giver_name : Giver N g → RingName
  giver_name x = ends.giver_name x.ring

  abbrev pub IsSameGiver : Giver N g → Giver N g → Type 0
  IsSameGiver old new = (new.ring.seat.table_id ≡ old.ring.seat.table_id) × (slots_of new ≡ slots_of old) × (giver_name new ≡ giver_name old)
