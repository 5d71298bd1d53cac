-- What a writer writes: parcels, and KEEP_ALIVEs before, between and behind them, each as a batch behind its length; and a CLOSE last.
use Rattle.std.specs.Prelude.{ℕ, ◌+◌, true, List, [], ◌∷◌, Option, Some, None}
use Rattle.std.specs.List.{flat_map}
use Rattle.zr_frame_batch.specs.Framing.{framed}
use Rattle.zr_trans.specs.declared.trans.Trans.TheVariants.{Close, KeepAlive}
use Rattle.zr_trans.specs.Writing.{writes_trans}
use Rattle.zr_ring.specs.declared.parcel.Note.{Ghosts}
use Rattle.zr_ring.specs.declared.parcel.Item.{Item}
use Rattle.zr_ring.specs.declared.parcel.Item.TheVariants.{One, Last}

pub data Part : Type 0 where
  parcel : List ℕ → Part
  keep_alive : Part

-- a KEEP_ALIVE as a batch behind its length (Zenoh protocol 1.0, "KEEP_ALIVE")
abbrev pub keep_alive_bytes : List ℕ
keep_alive_bytes = framed (writes_trans KeepAlive)

abbrev pub bytes_of_part : Part → List ℕ
bytes_of_part (parcel bytes) = framed bytes
bytes_of_part keep_alive = keep_alive_bytes

abbrev pub text_of : List Part → List ℕ
text_of parts = flat_map bytes_of_part parts

-- the parcels among them, in order
abbrev pub parcels_of : List Part → List (List ℕ)
parcels_of [] = []
parcels_of (parcel bytes ∷ parts) = bytes ∷ parcels_of parts
parcels_of (keep_alive ∷ parts) = parcels_of parts

-- how many are KEEP_ALIVEs
abbrev pub keep_alives : List Part → ℕ
keep_alives [] = 0
keep_alives (parcel bytes ∷ parts) = keep_alives parts
keep_alives (keep_alive ∷ parts) = keep_alives parts + 1

-- the CLOSE of the whole session, for a ring that has ended with a reason (Zenoh protocol 1.0, "CLOSE")
abbrev pub close_bytes : Option (Option ℕ) → List ℕ
close_bytes None = []
close_bytes (Some None) = []
close_bytes (Some (Some reason)) = framed (writes_trans (Close true reason))

-- the bytes of the parcels among what was taken
abbrev pub bodies : {N : Type 0} {g : Ghosts N} → List (Item N g) → List (List ℕ)
bodies [] = []
bodies (One p ∷ items) = p.bytes ∷ bodies items
bodies (Last e ∷ items) = bodies items
