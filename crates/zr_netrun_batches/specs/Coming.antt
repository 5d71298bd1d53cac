-- The messages that come of the bytes on a wire.
use Rattle.std.specs.Prelude.{◌≡◌, ◌≤◌, ◌⊎◌, ℕ, List, [], ◌∷◌, ◌++◌, length, None}
use Rattle.std.specs.List.{flat_map}
use Rattle.zr_msg.specs.declared.msg.Msg.{Msg}
use Rattle.zr_msg.specs.declared.peer.Role.{Role}
use Rattle.zr_frame.specs.Outbox.{OutboxState, IsOutbox}
use Rattle.zr_open.specs.declared.expected.Expected.{Expected}
use Rattle.zr_open.specs.Opening.{OpeningState}
use Rattle.zr_session.specs.declared.event.Fed.{Fed}
use Rattle.zr_session.specs.declared.event.SessionEvent.{SessionEvent}
use Rattle.zr_session.specs.declared.event.SessionEvent.TheVariants.{Opened, Message}
use Rattle.zr_session.specs.declared.phase.Established as session
use Rattle.zr_session.specs.declared.phase.Phase.{Phase}
use Rattle.zr_session.specs.declared.phase.Phase.TheVariants.{Opening, Established}
use Rattle.zr_session.specs.declared.state.State.{State}
use Rattle.zr_session.specs.declared.state.State.TheVariants.{Running, Ended, Spent}
use Rattle.zr_session.specs.Course.{Course}
use Rattle.zr_session.specs.Stream.{Comes}
use Rattle.zr_session.specs.Session.{SessionState, IsAt, Feeds}
use Rattle.zr_wire.specs.Sending.{MayBeSent}
use Rattle.zr_session.specs.Sending.{AreNames, hearing}
use Rattle.zr_session.proofs.Pieces.{comes_some}

-- ---- messages

abbrev pub message_of : SessionEvent → List Msg
message_of (Opened peer outbox) = []
message_of (Message m) = m ∷ []

abbrev pub messages_in : List SessionEvent → List Msg
messages_in events = flat_map (λ e. message_of e) events

-- the course to which bytes come, which is one (zr_session's law)
abbrev pub course_of : OpeningState → Phase → List ℕ → Course
course_of o p bytes = (comes_some o p bytes).0

abbrev pub coming_to : OpeningState → State → List ℕ → List ℕ → List Msg
coming_to o (Running p) kept bytes = messages_in (course_of o p (kept ++ bytes)).events
coming_to o (Ended how owed) kept bytes = []
coming_to o Spent kept bytes = []

-- the messages that a session has not given yet, of what it has kept and the bytes on its wire
abbrev pub coming : SessionState → List ℕ → List Msg
coming s bytes = coming_to s.opening s.state s.kept bytes

-- ---- a wire

-- The bytes on the wire to a session lead to no end, and behind them the session expects what this outbox sends next, of an end of this role.
pub record Leads (role : Role) (box : OutboxState) (s : SessionState) (bytes : List ℕ) : Type 0 where
  pub first : Expected
  pub fed : List ℕ
  pub so_far : Course
  pub at : IsAt first s fed so_far
  pub all : Course
  pub comes : Comes s.opening (Opening first) (fed ++ bytes) all []
  pub goes : all.ends ≡ None
  pub known : session.Established
  pub hears : all.phase ≡ Established (hearing known box)
  pub role_is : known.role ≡ role
  pub outbox : IsOutbox box
  pub names : AreNames box.names

-- The session has given these messages with the last bytes that it was fed, 64 at most, behind others or none.
pub record CameLast (s : SessionState) (given : List Msg) : Type 0 where
  pub first : Expected
  pub early : List ℕ
  pub piece : List ℕ
  pub short : length piece ≤ 64
  pub before : Course
  pub kept : List ℕ
  pub comes : Comes s.opening (Opening first) early before kept
  pub so_far : Course
  pub at : IsAt first s (early ++ piece) so_far
  pub others : List Msg
  pub given_are : messages_in so_far.events ≡ messages_in before.events ++ (others ++ given)

-- Nothing is left. Or a session that expects what its peer sends next has given some of the messages with the last bytes that it was fed, and these bytes come
-- to the others.
abbrev pub IsLeftOf : Role → List Msg → List ℕ → Type 0
IsLeftOf role messages bytes =
    ((messages ≡ []) × (bytes ≡ []))
    ⊎ ((box : OutboxState) × (s : SessionState) × (given : List Msg) × Leads role box s bytes × CameLast s given × (messages ≡ given ++ coming s bytes))

-- A message that who sends may send came onto the wire. A session at its other end gives it behind all others.
abbrev pub ComesOn : OutboxState → List ℕ → Msg → OutboxState → List ℕ → Type 0
ComesOn box bytes m next more =
    (role : Role) (s : SessionState) → MayBeSent role m → Leads role box s bytes → Leads role next s more × (coming s more ≡ coming s bytes ++ m ∷ [])

-- a session was fed a piece of its wire, and the messages that it gave came behind others
abbrev pub Hears : SessionState → SessionState → List ℕ → List Msg → List Msg → Type 0
Hears s t piece before behind =
    (old : Fed) × (new : Fed) × Feeds s t piece old new × (old.events.items ≡ []) × (behind ≡ before ++ messages_in new.events.items)

-- What comes is what came and what is coming still, whatever was sent. What the session has given came with its last bytes, if it did before.
abbrev pub GoesOn : SessionState → List ℕ → List Msg → SessionState → List ℕ → List Msg → Type 0
GoesOn s bytes before t rest behind =
    (role : Role) (box : OutboxState) → Leads role box s bytes → Leads role box t rest × (before ++ coming s bytes ≡ behind ++ coming t rest) × (CameLast s before → CameLast t behind)
