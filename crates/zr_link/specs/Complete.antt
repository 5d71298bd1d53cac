-- Completeness: which ends of a session its peer, its bytes and its port bring about, and that nothing else does.
use Rattle.std.specs.Prelude.{◌≡◌, ◌⊎◌, ℕ, false, List, ◌∷◌, ◌++◌, Option, Some, None}
use mathlib.Core.List.{IsPrefix}
use Rattle.zr_id.specs.declared.link.LinkNo.{LinkNo}
use Rattle.zr_frame.specs.Outbox.{OutboxState}
use Rattle.zr_hist.specs.declared.pass.Pass.{Pass}
use Rattle.zr_hist.specs.Words.{seen}
use Rattle.zr_msg.specs.declared.event.Event.TheVariants.{Up}
use Rattle.zr_msg.specs.declared.msg.Msg.{Msg}
use Rattle.zr_msg.specs.Peer.{PeerState}
use Rattle.zr_port.specs.Coming.{Sight, sight, AddsOne, Came, messages_of, Through, is_passed}
use Rattle.zr_port.specs.declared.entry.Entry.{Entry}
use Rattle.zr_port.specs.declared.error.DeliverError.{DeliverError}
use Rattle.zr_port.specs.declared.error.UpError.{UpError}
use Rattle.zr_session.specs.Course.{Course}
use Rattle.zr_session.specs.Session.{SessionState}
use Rattle.zr_session.specs.Stream.{Comes}
use Rattle.zr_session.specs.declared.event.SessionEvent.{SessionEvent}
use Rattle.zr_session.specs.declared.event.SessionEvent.TheVariants.{Opened}
use Rattle.zr_session.specs.declared.fate.End.{End}
use Rattle.zr_session.specs.declared.phase.Phase.{Phase}
use Rattle.zr_session.specs.declared.phase.Phase.TheVariants.{Opening}
use Rattle.zr_link.specs.declared.end.LinkEnd.{LinkEnd}
use Rattle.zr_link.specs.declared.end.LinkEnd.TheVariants as end
use Rattle.zr_link.specs.Heard.{Takes, messages, first_of}

-- the ends at which no session is closed: nothing is left to read, a read or a write failed, a thread could not be started, it was read as often as may be, or
-- memory ran out
abbrev pub IsUnclosed : LinkEnd → Type 0
IsUnclosed end.ReadFault = Unit {0}
IsUnclosed end.WriteFault = Unit {0}
IsUnclosed end.PeerEnded = Unit {0}
IsUnclosed (end.Closed reason) = ⊥
IsUnclosed (end.Peer reason) = ⊥
IsUnclosed end.CrewRefused = Unit {0}
IsUnclosed end.Turns = Unit {0}
IsUnclosed end.NoMemory = Unit {0}

-- the port refused the peer with whom the session opened
pub record IsNotTaken (refuses : List Entry → PeerState → UpError → Type 0) (c : Course) (new : Pass Entry) : Type 0 where
  pub peer : PeerState
  pub outbox : OutboxState
  pub events : List SessionEvent
  pub error : UpError
  pub opens : c.events ≡ Opened peer outbox ∷ events
  pub refused : refuses (seen new) peer error

-- The port took the peer, and refused a message otherwise than by passing it over: the next one behind those that had come, after what was seen by then
pub record IsStopped (refuses : List Entry → LinkNo → Msg → DeliverError → Type 0) (c : Course) (old new : Pass Entry) : Type 0 where
  pub link : LinkNo
  pub peer : PeerState
  pub outbox : OutboxState
  pub came : List Came
  pub msg : Msg
  pub others : List Msg
  pub begun : Sight
  pub last : Sight
  pub error : DeliverError
  pub opens : c.events ≡ Opened peer outbox ∷ messages (messages_of came ++ msg ∷ others)
  pub upon : AddsOne (Up link peer) (Some outbox) None (sight old) begun
  pub goes : Through link (λ h m e. refuses h link m e) came begun last
  pub behind : IsPrefix last.seen (seen new)
  pub refused : refuses last.seen link msg error
  pub stops : is_passed error ≡ false

-- why a session is closed: its bytes say so, its peer was silent for its lease, or the port didn't take its peer, or one of its messages
abbrev pub HasCause : Course → (Phase → Type 0) → (List Entry → PeerState → UpError → Type 0) → (List Entry → LinkNo → Msg → DeliverError → Type 0) → Pass Entry → Pass Entry → Type 0
HasCause c Late refuses_up refuses old new =
    ((how : End) × (c.ends ≡ Some how)) ⊎ (Late c.phase ⊎ (IsNotTaken refuses_up c new ⊎ IsStopped refuses c old new))

-- A session is closed for a cause alone. So one that the port takes, whose bytes say nothing of an end, whose messages are delivered or passed over, and which
-- is heard within its lease, goes on until nothing is left to read, something fails, it was read as often as may be, or memory runs out
abbrev pub IsComplete : SessionState → LinkEnd → Option (List ℕ) → Option (List ℕ) → (Phase → Type 0) → (List Entry → PeerState → UpError → Type 0)
    → (List Entry → LinkNo → Msg → DeliverError → Type 0) → Pass Entry → Pass Entry → Type 0
IsComplete s end before after Late refuses_up refuses old new =
    IsUnclosed end
    ⊎ ((bytes : List ℕ) × (c : Course) × (rest : List ℕ) × Takes bytes before after × Comes s.opening (Opening (first_of s.state)) bytes c rest
    × HasCause c Late refuses_up refuses old new)
