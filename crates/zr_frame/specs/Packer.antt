-- What packs messages, between two of them.
use Rattle.std.specs.Prelude.{◌≡◌, ℕ, ◌<◌, ◌≤◌, Bool, true, false, List, [], ◌∷◌, ◌++◌, length, take, drop, Option, Some, None, if◌then◌else◌}
use Rattle.zr_trans.specs.Writing.{writes_trans}
use Rattle.zr_trans.specs.declared.trans.Trans.TheVariants.{Fragment}
use Rattle.zr_frame.specs.Outbox.{OutboxState, advanced}
use Rattle.zr_frame.specs.Packing.{Parcels, before, fits, with_message, room, packed}

-- The batches that are whole, the outbox behind them, and the frame that has begun.
pub record PackerState : Type 0 where
  pub outbox : OutboxState
  pub frame : Option (List ℕ)
  pub batches : List (List ℕ)

-- one batch more
abbrev pub with_batch : PackerState → List ℕ → PackerState
with_batch p batch = record { outbox = advanced p.outbox; frame = p.frame; batches = p.batches ++ batch ∷ [] }

-- parcels more, and no frame has begun
abbrev pub behind : PackerState → Parcels → PackerState
behind p more = record { outbox = more.outbox; frame = None; batches = p.batches ++ more.batches }

-- all parcels, where these messages follow
abbrev pub on_the_way : PackerState → List (List ℕ) → Parcels
on_the_way p messages = before (record { batches = p.batches; outbox = p.outbox }) (λ o. packed o p.frame messages)

-- A frame has the message too exactly where there is room for it.
abbrev pub Extends : Bool → OutboxState → List ℕ → Option (List ℕ) → Option (List ℕ) → Type 0
Extends fit o message old new = (fit ≡ fits o (with_message o old message)) × (new ≡ (if fit then Some (with_message o old message) else old))

abbrev pub Joins : Bool → List ℕ → PackerState → PackerState → Type 0
Joins fit message old new = Extends fit old.outbox message old.frame new.frame × (new.outbox ≡ old.outbox) × (new.batches ≡ old.batches)

-- One fragment was sent: the last one, or one that fills its batch with the others to come.
abbrev pub Cuts : Option (List ℕ) → List ℕ → PackerState → PackerState → Type 0
Cuts None message old new = (length message ≤ room old.outbox) × (new ≡ with_batch old (writes_trans (Fragment true false old.outbox.next message)))
Cuts (Some rest) message old new =
    (room old.outbox < length message) × (length rest < length message) × (rest ≡ drop (room old.outbox) message)
    × (new ≡ with_batch old (writes_trans (Fragment true true old.outbox.next (take (room old.outbox) message))))
