-- What comes of asking a ring once without waiting long.
use Rattle.std.specs.Prelude.{◌≡◌, ℕ, ◌≤◌, List, [], ◌∷◌, ◌++◌, length, Option}
use Rattle.zr_frame_batch.specs.Framing.{framed}
use Rattle.zr_outside.specs.Counts.{Rose}
use Rattle.zr_outside.specs.Told.{AppendsPrefix}
use Rattle.zr_ring.specs.declared.parcel.Note.{Ghosts}
use Rattle.zr_ring.specs.declared.parcel.Parcel.{Parcel}
use Rattle.zr_ring.specs.declared.parcel.Item.{Item}
use Rattle.zr_ring.specs.declared.parcel.Item.TheVariants.{One}
use Rattle.zr_link_writer.specs.declared.step.Briefly.{Briefly}
use Rattle.zr_link_writer.specs.declared.step.Briefly.TheVariants.{More, Nothing, Waits, Unjoined, Fault}
use Rattle.zr_link_writer.specs.Writing.{GoesOn, EndsIn}

-- the most bytes of a parcel that others than the writer write
abbrev pub most_brief : ℕ
most_brief = 32768

module _ {N : Type 0} {g : Ghosts N} where
  -- one parcel was taken, a short one
  abbrev pub TakesShort : List (Item N g) → List (Item N g) → Type 0
  TakesShort was is = (p : Parcel N g) × (is ≡ was ++ One p ∷ []) × (length p.bytes ≤ most_brief)

  -- the call goes on, a parcel that wasn't joined waits behind the rest; or a write failed, and a prefix was written
  abbrev pub GoesBriefly : Briefly N g → List (Item N g) → List (Item N g) → ℕ → List ℕ → List ℕ → Option (List ℕ) → Option (List ℕ) → Type 0
  GoesBriefly More was is moment waiting waiting' now now' = GoesOn was is moment moment waiting waiting' now now'
  GoesBriefly Nothing was is moment waiting waiting' now now' = GoesOn was is moment moment waiting waiting' now now'
  GoesBriefly Waits was is moment waiting waiting' now now' = GoesOn was is moment moment waiting waiting' now now'
  GoesBriefly (Unjoined p) was is moment waiting waiting' now now' = GoesOn was is moment moment waiting (waiting' ++ framed p.bytes) now now'
  GoesBriefly Fault was is moment waiting waiting' now now' = EndsIn was is moment moment waiting now (λ held text. AppendsPrefix text held now')

  -- the sink's count of faults
  abbrev pub FaultsBriefly : Briefly N g → ℕ → ℕ → Type 0
  FaultsBriefly More before after = after ≡ before
  FaultsBriefly Nothing before after = after ≡ before
  FaultsBriefly Waits before after = after ≡ before
  FaultsBriefly (Unjoined p) before after = after ≡ before
  FaultsBriefly Fault before after = Rose before after
