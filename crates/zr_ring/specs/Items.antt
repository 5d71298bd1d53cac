-- What goes through a ring: parcels, and at last its end.
use Rattle.std.specs.Prelude.{◌≡◌, ℕ, ◌+◌, ◌-◌, Bool, true, false, List, [], ◌∷◌, ◌++◌, Option, Some, None, map, length, min, ◌^◌}
use Rattle.zr_ring.specs.declared.name.RingName.{RingName}
use Rattle.zr_ring.specs.declared.parcel.Note.{Ghosts}
use Rattle.zr_ring.specs.declared.parcel.Parcel.{Parcel}
use Rattle.zr_ring.specs.declared.parcel.Ending.{Ending}
use Rattle.zr_ring.specs.declared.parcel.Item.{Item}
use Rattle.zr_ring.specs.declared.parcel.Item.TheVariants.{One, Last}

-- The most parcels that a ring is given: every place has room in a word, and so has the count given with the end included
abbrev pub most_parcels : ℕ
most_parcels = 2 ^ 64 - 2

module _ {N : Type 0} {g : Ghosts N} where
  abbrev pub place_of : Item N g → ℕ
  place_of (One p) = p.place
  place_of (Last e) = e.place

  -- the note of the item is one for this ring
  abbrev pub FitsRing : RingName → Item N g → Type 0
  FitsRing name (One p) = g.fits name p.note
  FitsRing name (Last e) = g.fits name e.note

  -- the item may stand in the ring of this name at the place k
  abbrev pub Stands : RingName → ℕ → Item N g → Type 0
  Stands name k x = (place_of x ≡ k) × FitsRing name x

  abbrev pub ones : List (Parcel N g) → List (Item N g)
  ones parcels = map (λ p. One p) parcels

  -- the places of the parcels go on from n
  abbrev pub GoOnFrom : ℕ → List (Parcel N g) → Type 0
  GoOnFrom n [] = Unit {0}
  GoOnFrom n (p ∷ ps) = (p.place ≡ n) × GoOnFrom (n + 1) ps

  -- the reason of the end, where it is among them
  abbrev pub end_of : List (Item N g) → Option (Option ℕ)
  end_of [] = None
  end_of (One p ∷ items) = end_of items
  end_of (Last e ∷ items) = Some e.reason

  -- the end stands last, at the next place, with this reason and this note
  abbrev pub AddsEnd : List (Item N g) → List (Item N g) → Option ℕ → N → Type 0
  AddsEnd before after reason note = (e : Ending N g) × (after ≡ before ++ Last e ∷ []) × (e.place ≡ length before) × (e.reason ≡ reason)
      × (e.note ≡ note)

-- how many ends were given, where `going` says that none was
abbrev pub ends_given : Bool → ℕ
ends_given true = 0
ends_given false = 1

-- how many of the slots are free, where so many parcels were given and so many taken
abbrev pub free_of : ℕ → ℕ → ℕ → ℕ
free_of slots given taken = slots - (given - taken)

-- the same, but no more than there are places left
abbrev pub free_places : ℕ → ℕ → ℕ → ℕ
free_places slots given taken = min (free_of slots given taken) (most_parcels - given)
