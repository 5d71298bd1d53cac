-- What a contract sees of a taker, and what a take tells.
use Rattle.std.specs.Prelude.{◌≡◌, ℕ, ◌<◌, ◌⊎◌, Bool, true, false, List, [], ◌∷◌, ◌++◌, length, Option, Some, None}
use Rattle.zr_ring.specs.declared.name.RingName.{RingName}
use Rattle.zr_ring.specs.declared.parcel.Note.{Ghosts}
use Rattle.zr_ring.specs.declared.parcel.Item.{Item}
use Rattle.zr_ring.specs.declared.parcel.Ending.{Ending}
use Rattle.zr_ring.specs.declared.parcel.Item.TheVariants.{One, Last}
use Rattle.zr_ring.specs.declared.taker.Taker.{Taker}
use Rattle.zr_ring.specs.declared.taker.Took.{Took}
use Rattle.zr_ring.specs.declared.taker.Took.TheVariants.{Parcel, Ended, Nothing}
use Rattle.zr_ring.specs.declared.giver.Giver.{Giver}
use Rattle.zr_ring.specs.Ends as ends
use Rattle.zr_ring.specs.Items.{end_of}

module _ {N : Type 0} {g : Ghosts N} where
  -- all that was taken, the end included
  abbrev pub taken : Taker N g → List (Item N g)
  taken t = ends.taken t.ring

  -- the count given, the end included, as it was loaded last
  abbrev pub given_loaded : Taker N g → ℕ
  given_loaded t = ends.known_given t.ring

  -- how often `take` was called
  abbrev pub take_calls : Taker N g → ℕ
  take_calls t = ends.taker_loads t.ring

  -- the name of its ring
  abbrev pub taker_name : Taker N g → RingName
  taker_name t = ends.taker_name t.ring

  -- they are the two ends of one ring
  abbrev pub IsPair : Giver N g → Taker N g → Type 0
  IsPair x t = ends.AreEnds x.ring t.ring

  abbrev pub IsSameTaker : Taker N g → Taker N g → Type 0
  IsSameTaker old new = ends.IsSameTakingEnd old.ring new.ring

  -- the end was taken before, or is the one thing taken now
  abbrev pub TakesEnd : List (Item N g) → List (Item N g) → Option ℕ → ℕ → Type 0
  TakesEnd before after reason given = ((after ≡ before) × (end_of before ≡ Some reason))
      ⊎ ((end_of before ≡ None) × (e : Ending N g) × (after ≡ before ++ Last e ∷ []) × (e.place ≡ length before) × (e.reason ≡ reason)
      × (length before < given))

  -- What a take tells, of what was taken before it and after it, and of the count given that it goes by. The end is taken exactly
  -- where Ended is the answer
  abbrev pub Tells : Took N g → List (Item N g) → List (Item N g) → ℕ → Type 0
  Tells (Parcel p) before after given = (after ≡ before ++ One p ∷ []) × (p.place ≡ length before) × (length before < given)
      × (end_of after ≡ None)
  Tells (Ended reason) before after given = TakesEnd before after reason given × (end_of after ≡ Some reason)
  Tells Nothing before after given = (after ≡ before) × (given ≡ length before) × (end_of after ≡ None)

  -- what is taken is for the ring of this name, as its note says
  abbrev pub TakesFor : RingName → Took N g → Type 0
  TakesFor name (Parcel p) = g.fits name p.note
  TakesFor name (Ended reason) = Unit {0}
  TakesFor name Nothing = Unit {0}

  abbrev pub is_nothing : Took N g → Bool
  is_nothing (Parcel p) = false
  is_nothing (Ended reason) = false
  is_nothing Nothing = true
