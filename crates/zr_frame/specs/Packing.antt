-- How written messages are packed into batches. Each frame and fragment is reliable and has no extension.
use Rattle.std.specs.Prelude.{ℕ, zero, suc, ◌-◌, Bool, true, false, List, [], ◌∷◌, ◌++◌, length, take, drop, Option, Some, None, if◌then◌else◌, nat_le}
use Rattle.zr_trans.specs.Writing.{writes_trans}
use Rattle.zr_trans.specs.declared.trans.Trans.TheVariants.{Frame, Fragment}
use Rattle.zr_frame.specs.Outbox.{OutboxState, advanced}

-- Batches in order, and the outbox behind them.
pub record Parcels : Type 0 where
  pub batches : List (List ℕ)
  pub outbox : OutboxState

abbrev pub no_parcels : OutboxState → Parcels
no_parcels o = record { batches = []; outbox = o }

abbrev pub one_parcel : OutboxState → List ℕ → Parcels
one_parcel o batch = record { batches = batch ∷ []; outbox = advanced o }

-- parcels, and those that the outbox behind them makes
abbrev pub before : Parcels → (OutboxState → Parcels) → Parcels
before p more = record { batches = p.batches ++ (more p.outbox).batches; outbox = (more p.outbox).outbox }

abbrev pub fits : OutboxState → List ℕ → Bool
fits o batch = nat_le (length batch) o.batch

-- The frame with one more message, where a frame has begun or none.
abbrev pub with_message : OutboxState → Option (List ℕ) → List ℕ → List ℕ
with_message o None message = writes_trans (Frame true o.next) ++ message
with_message o (Some frame) message = frame ++ message

-- the frame that has begun, if one has
abbrev pub closed : OutboxState → Option (List ℕ) → Parcels
closed o None = no_parcels o
closed o (Some frame) = one_parcel o frame

-- how many bytes of a message a fragment has room for
abbrev pub room : OutboxState → ℕ
room o = o.batch - length (writes_trans (Fragment true true o.next []))

-- A message of at most `most` bytes in fragments, each but the last filling its batch.
unfoldable pub fragments : ℕ → OutboxState → List ℕ → Parcels
fragments zero o message = one_parcel o (writes_trans (Fragment true false o.next message))
fragments (suc most) o message =
    if nat_le (length message) (room o) then one_parcel o (writes_trans (Fragment true false o.next message))
    else before (one_parcel o (writes_trans (Fragment true true o.next (take (room o) message)))) (λ p.
    fragments most p (drop (room o) message))

-- Messages in order, where a frame has begun or none. It takes the next message while it fits; one that doesn't fit a
-- frame of its own goes in fragments.
unfoldable pub packed : OutboxState → Option (List ℕ) → List (List ℕ) → Parcels
packed o frame [] = closed o frame
packed o frame (message ∷ messages) =
    if fits o (with_message o frame message) then packed o (Some (with_message o frame message)) messages
    else before (closed o frame) (λ p.
    if fits p (with_message p None message) then packed p (Some (with_message p None message)) messages
    else before (fragments (length message) p message) (λ q. packed q None messages))

-- the parcels of messages
abbrev pub parcels : OutboxState → List (List ℕ) → Parcels
parcels o messages = packed o None messages
