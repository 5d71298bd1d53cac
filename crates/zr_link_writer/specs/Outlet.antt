-- How an outlet stands, by what was taken of its ring, what its sink held at first and holds now, and what waits.
use Rattle.std.specs.Prelude.{◌≡◌, ℕ, ◌≤◌, List, [], ◌++◌, Option, Some, None}
use Rattle.zr_frame_batch.specs.Framing.{framed}
use Rattle.zr_outside.specs.Counts.{Rose}
use Rattle.zr_outside.specs.Told.{Appends, AppendsPrefix}
use Rattle.zr_ring.specs.declared.parcel.Note.{Ghosts}
use Rattle.zr_ring.specs.declared.parcel.Parcel.{Parcel}
use Rattle.zr_ring.specs.declared.parcel.Item.{Item}
use Rattle.zr_ring.specs.Items.{end_of}
use Rattle.zr_link_writer.specs.declared.end.WriterEnd.{WriterEnd}
use Rattle.zr_link_writer.specs.declared.end.WriterEnd.TheVariants.{Done, WriteFault, Turns, NoMemory}
use Rattle.zr_link_writer.specs.Parts.{close_bytes}
use Rattle.zr_link_writer.specs.Writing.{Goes, Writes}

module _ {N : Type 0} {g : Ghosts N} where
  -- the bytes of a parcel that waits for room
  abbrev pub pending : Option (Parcel N g) → List ℕ
  pending None = []
  pending (Some p) = framed p.bytes

  -- Nothing has ended it: what the sink holds, with what waits behind it, is the text of all that was taken, and no write has failed. Or it has ended, and
  -- then the sink holds that text with the CLOSE, or a prefix; a prefix alone where a write failed or memory ran out.
  abbrev pub Stands : Option WriterEnd → List (Item N g) → ℕ → ℕ → ℕ → List ℕ → Option (List ℕ) → Option (List ℕ) → ℕ → ℕ → Type 0
  Stands None all start moment told waiting held now faults faults' = Goes [] all start moment waiting held now × (moment ≤ told) × (faults' ≡ faults)
  Stands (Some (Done reason)) all start moment told waiting held now faults faults' =
      Writes [] all start told (close_bytes (end_of all)) (λ text. Appends text held now) × (end_of all ≡ Some reason) × (faults' ≡ faults)
  Stands (Some WriteFault) all start moment told waiting held now faults faults' =
      Writes [] all start told (close_bytes (end_of all)) (λ text. AppendsPrefix text held now) × Rose faults faults'
  Stands (Some NoMemory) all start moment told waiting held now faults faults' =
      Writes [] all start told (close_bytes (end_of all)) (λ text. AppendsPrefix text held now) × (faults' ≡ faults)
  Stands (Some Turns) all start moment told waiting held now faults faults' = ⊥
