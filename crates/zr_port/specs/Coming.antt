-- How messages come over a link that is up: each is delivered, which adds its entry, or passed over.
use Rattle.std.specs.Prelude.{◌≡◌, ◌≢◌, ℕ, Bool, true, false, List, [], ◌∷◌, ◌++◌, map, Option, None, Result}
use mathlib.Core.List.{IsPrefix}
use Rattle.zr_id.specs.declared.link.LinkNo.{LinkNo}
use Rattle.zr_msg.specs.declared.event.Event.{Event}
use Rattle.zr_msg.specs.declared.event.Event.TheVariants.{From}
use Rattle.zr_msg.specs.declared.msg.Msg.{Msg}
use Rattle.zr_frame.specs.Outbox.{OutboxState}
use Rattle.zr_hist.specs.declared.pass.Pass.{Pass}
use Rattle.zr_hist.specs.Words.{seen, mine}
use Rattle.zr_port.specs.declared.entry.Entry.{Entry}
use Rattle.zr_port.specs.declared.error.DeliverError.{DeliverError}
use Rattle.zr_port.specs.declared.error.DeliverError.TheVariants as deliver
use Rattle.zr_port.specs.declared.error.DownError.{DownError}
use Rattle.zr_port.specs.Adding.{IsEntryOf, IsAdmitted}

-- what a pass has seen at a moment, and the entries that it has added by then
pub record Sight : Type 0 where
  pub seen : List Entry
  pub mine : List Entry

abbrev pub sight : Pass Entry → Sight
sight pass = record { seen = seen pass; mine = mine pass }

-- an entry of this event was added: it stands last among the pass's own, and last in what the pass has seen, of which what it had seen before is a prefix
pub record AddsOne (event : Event) (outbox : Option OutboxState) (reason : Option ℕ) (old new : Sight) : Type 0 where
  pub before : List Entry
  pub entry : Entry
  pub own : new.mine ≡ old.mine ++ entry ∷ []
  pub last : new.seen ≡ before ++ entry ∷ []
  pub prefix : IsPrefix old.seen before
  pub is : IsEntryOf event outbox reason entry

-- nothing was added, and what was seen before is a prefix
abbrev pub Looks : Sight → Sight → Type 0
Looks old new = (new.mine ≡ old.mine) × IsPrefix old.seen new.seen

-- what calls of `down` answer, by the link, the reason, and what was seen and added before and behind them
abbrev pub Answering : Type 1
Answering = LinkNo → Option ℕ → Sight → Sight → Result (Unit {0}) DownError → Type 0

-- A refusal by which a message is passed over, and those behind it come: a rule denies the message, or it takes back what may have been denied
abbrev pub is_passed : DeliverError → Bool
is_passed (deliver.NotUp link) = false
is_passed (deliver.Misplaced role) = false
is_passed (deliver.Denied rule) = true
is_passed (deliver.Ignored id) = true
is_passed (deliver.Node e) = false
is_passed (deliver.Full asked free) = false
is_passed deliver.Worn = false
is_passed deliver.NoMemory = false

-- a message that came, and what was made of it
pub data Came : Type 0 where
  Delivered : Msg → Came
  Passed : Msg → DeliverError → Came

abbrev pub message_of : Came → Msg
message_of (Delivered m) = m
message_of (Passed m e) = m

-- the messages that came, and those of them that were delivered
abbrev pub messages_of : List Came → List Msg
messages_of came = map message_of came

abbrev pub delivered : List Came → List Msg
delivered [] = []
delivered (Delivered m ∷ came) = m ∷ delivered came
delivered (Passed m e ∷ came) = delivered came

-- What one message made of what a pass had seen. One is delivered where there is no cause to refuse it
abbrev pub Makes : LinkNo → (List Entry → Msg → DeliverError → Type 0) → Came → Sight → Sight → Type 0
Makes link refuses (Delivered m) old new = (one : AddsOne (From link m) None None old new) × IsAdmitted (refuses one.before m)
Makes link refuses (Passed m e) old new = Looks old new × (is_passed e ≡ true) × refuses new.seen m e

-- These messages came over a link, one after another. One that was passed over is refused after what the pass had seen by then: that has the entries of
-- all messages that were delivered before it, and those of later ones stand behind it
abbrev pub Through : LinkNo → (List Entry → Msg → DeliverError → Type 0) → List Came → Sight → Sight → Type 0
Through link refuses [] old new = Looks old new
Through link refuses (c ∷ came) old new = (mid : Sight) × Makes link refuses c old mid × Through link refuses came mid new

-- of some messages, those at the front came over a link, and the rest did not
pub record ComesUpTo (link : LinkNo) (refuses : List Entry → Msg → DeliverError → Type 0) (messages rest : List Msg) (old new : Sight) : Type 0 where
  pub came : List Came
  pub are : messages ≡ messages_of came ++ rest
  pub goes : Through link refuses came old new

-- the first of the rest was refused and not passed over, or memory ran out at it
pub record StopsAt (refuses : Msg → DeliverError → Type 0) (rest : List Msg) (error : DeliverError) : Type 0 where
  pub msg : Msg
  pub others : List Msg
  pub first : rest ≡ msg ∷ others
  pub stops : is_passed error ≡ false
  pub refused : error ≢ deliver.NoMemory → refuses msg error
