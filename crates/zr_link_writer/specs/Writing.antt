-- What a writer has done of what it took.
use Rattle.std.specs.Prelude.{◌≡◌, ℕ, ◌+◌, ◌*◌, ◌≤◌, ◌⊎◌, List, [], ◌++◌, Option}
use Rattle.zr_outside.specs.Told.{Appends, AppendsPrefix}
use Rattle.zr_ring.specs.declared.parcel.Note.{Ghosts}
use Rattle.zr_ring.specs.declared.parcel.Item.{Item}
use Rattle.zr_ring.specs.Items.{end_of}
use Rattle.zr_link_writer.specs.Parts.{Part, keep_alive_bytes, text_of, parcels_of, keep_alives, close_bytes, bodies}

-- how many milliseconds go by without a write before a KEEP_ALIVE
abbrev pub keep_alive_ms : ℕ
keep_alive_ms = 2500

-- the most bytes that are written in one: as many as the longest batch has with its length
abbrev pub most_joined : ℕ
most_joined = 65537

-- Of a text, a prefix was appended to what was held, and the rest waits.
abbrev pub Carries : Option (List ℕ) → Option (List ℕ) → List ℕ → List ℕ → Type 0
Carries before now waiting text = (written : List ℕ) × Appends written before now × (text ≡ written ++ waiting)

-- After Nothing: what waits was written; or nothing waited for a while, and a KEEP_ALIVE was written
abbrev pub Rests : List ℕ → ℕ → ℕ → Option (List ℕ) → Option (List ℕ) → Type 0
Rests waiting moment later held now = Appends waiting held now
    ⊎ ((waiting ≡ []) × (moment + keep_alive_ms ≤ later) × Appends keep_alive_bytes held now)

-- The same where the write failed: a prefix of it was written
abbrev pub Fails : List ℕ → ℕ → ℕ → Option (List ℕ) → Option (List ℕ) → Type 0
Fails waiting moment later held now = AppendsPrefix waiting held now
    ⊎ ((waiting ≡ []) × (moment + keep_alive_ms ≤ later) × AppendsPrefix keep_alive_bytes held now)

module _ {N : Type 0} {g : Ghosts N} where
  -- What was taken by a call, `after` in place of `before`, in parts: its parcels in order, among KEEP_ALIVEs, which are no more than the time from
  -- one moment to the other has room for. Of the bytes of these parts and of the CLOSE behind them `IsWritten` is true
  pub record Writes (before after : List (Item N g)) (start end : ℕ) (close : List ℕ) (IsWritten : List ℕ → Type 0) : Type 0 where
    pub items : List (Item N g)
    pub parts : List Part
    pub taken : after ≡ before ++ items
    pub in_order : parcels_of parts ≡ bodies items
    pub seldom : start + keep_alives parts * keep_alive_ms ≤ end
    pub written : IsWritten (text_of parts ++ close)

  -- The same in the midst of a call: some of the bytes wait.
  pub record Goes (before after : List (Item N g)) (start end : ℕ) (waiting : List ℕ) (held now : Option (List ℕ)) : Type 0 where
    pub items : List (Item N g)
    pub parts : List Part
    pub taken : after ≡ before ++ items
    pub in_order : parcels_of parts ≡ bodies items
    pub seldom : start + keep_alives parts * keep_alive_ms ≤ end
    pub carried : Carries held now waiting (text_of parts)

  -- A step goes on: whatever the call began with, it has gone so far before the step, and so far behind it.
  abbrev pub GoesOn : List (Item N g) → List (Item N g) → ℕ → ℕ → List ℕ → List ℕ → Option (List ℕ) → Option (List ℕ) → Type 0
  GoesOn was is moment later waiting waiting' now now' = (before : List (Item N g)) (start : ℕ) (held : Option (List ℕ))
      → Goes before was start moment waiting held now → Goes before is start later waiting' held now'

  -- A step ends the call: whatever it began with, this is true of what was held then and of the bytes of all parts with the CLOSE behind them.
  abbrev pub EndsIn : List (Item N g) → List (Item N g) → ℕ → ℕ → List ℕ → Option (List ℕ) → (Option (List ℕ) → List ℕ → Type 0) → Type 0
  EndsIn was is moment later waiting now IsWritten = (before : List (Item N g)) (start : ℕ) (held : Option (List ℕ))
      → Goes before was start moment waiting held now → Writes before is start later (close_bytes (end_of is)) (λ text. IsWritten held text)
