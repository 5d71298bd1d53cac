-- A session between two calls, and what each call makes of it.
use Rattle.std.specs.Prelude.{◌≡◌, ℕ, ◌-◌, Bool, true, false, ◌||◌, List, [], ◌∷◌, ◌++◌, Some, None, Result, Ok, is_ok, nat_le, if◌then◌else◌}
use Rattle.std.specs.declared.alloc.AllocError.{AllocError}
use Rattle.zr_frame_batch.specs.Framing.{framed}
use Rattle.zr_trans.specs.declared.trans.Trans.TheVariants as trans
use Rattle.zr_trans.specs.Writing.{writes_trans}
use Rattle.zr_open.specs.declared.error.Reason.TheVariants.{Expired}
use Rattle.zr_open.specs.declared.expected.Expected.{Expected}
use Rattle.zr_open.specs.Opening.{OpeningState}
use Rattle.zr_open.specs.Reason.{byte_of}
use Rattle.zr_open.specs.Table.{greeting}
use Rattle.zr_session.specs.declared.event.Fed.{Fed}
use Rattle.zr_session.specs.declared.event.SessionEvent.{SessionEvent}
use Rattle.zr_session.specs.declared.fate.End.{End}
use Rattle.zr_session.specs.declared.fate.End.TheVariants as end
use Rattle.zr_session.specs.declared.fate.Fate.{Fate}
use Rattle.zr_session.specs.declared.fate.Fate.TheVariants as fate
use Rattle.zr_session.specs.declared.phase.Phase.{Phase}
use Rattle.zr_session.specs.declared.phase.Phase.TheVariants.{Opening, Established}
use Rattle.zr_session.specs.declared.state.State.{State}
use Rattle.zr_session.specs.declared.state.State.TheVariants.{Running, Ended, Spent}
use Rattle.zr_session.specs.Course.{Course, owed_in}
use Rattle.zr_session.specs.Stream.{Comes}

-- The opening; where the session stands; what came of the next batch, with its length; whether the peer was confirmed; and the
-- last moment at which bytes came, in milliseconds.
pub record SessionState : Type 0 where
  pub opening : OpeningState
  pub state : State
  pub kept : List ℕ
  pub confirmed : Bool
  pub heard : ℕ

-- a session that was fed nothing and expects this message
abbrev pub begun : Expected → OpeningState → ℕ → SessionState
begun first o now = record { opening = o; state = Running (Opening first); kept = []; confirmed = false; heard = now }

-- the INIT of a dialling end
abbrev pub greeting_bytes : OpeningState → List ℕ
greeting_bytes o = framed (writes_trans (greeting o))

-- ---- where it stands in its stream

abbrev pub Stands : Expected → OpeningState → State → List ℕ → List ℕ → Course → Type 0
Stands first o (Running p) kept bytes c = Comes o (Opening first) bytes c kept × (c.ends ≡ None) × (c.phase ≡ p)
Stands first o (Ended how owed) kept bytes c = (rest : List ℕ) × Comes o (Opening first) bytes c rest × (c.ends ≡ Some how) × (owed_in c.phase ≡ owed)
Stands first o Spent kept bytes c = ⊥

-- A session that first expected this message stands where these bytes, which come to this course, have led it.
abbrev pub IsAt : Expected → SessionState → List ℕ → Course → Type 0
IsAt first s bytes c = Stands first s.opening s.state s.kept bytes c

-- ---- what it answers

abbrev pub fate_of : End → Fate
fate_of (end.Closed reason) = fate.Closed reason
fate_of (end.Peer reason) = fate.Peer reason

abbrev pub Answers : State → Fate → Type 0
Answers (Running p) f = f ≡ fate.Going
Answers (Ended how owed) f = f ≡ fate_of how
Answers Spent f = ⊥

-- The CLOSE of the whole session with a reason of this end. A peer's CLOSE is not answered.
abbrev pub close_of : End → List ℕ
close_of (end.Closed reason) = framed (writes_trans (trans.Close true (byte_of reason)))
close_of (end.Peer reason) = []

-- the CLOSE of a call that was the first to end the session
abbrev pub close_between : State → State → List ℕ
close_between (Running p) (Running q) = []
close_between (Running p) (Ended how owed) = close_of how
close_between (Running p) Spent = []
close_between (Ended how owed) new = []
close_between Spent new = []

-- ---- feed

-- A call's events and bytes lead from the one course to the other, with the CLOSE last.
pub record Gains (before after : Course) (close : List ℕ) (old new : Fed) : Type 0 where
  pub events : List SessionEvent
  pub bytes : List ℕ
  pub are_events : after.events ≡ before.events ++ events
  pub are_bytes : after.bytes ≡ before.bytes ++ bytes
  pub new_events : new.events.items ≡ old.events.items ++ events
  pub new_bytes : new.bytes.items ≡ old.bytes.items ++ (bytes ++ close)

-- Prefixes of what leads from the one course to the other: no CLOSE is among them.
pub record GainsPrefixes (before after : Course) (old new : Fed) : Type 0 where
  pub events : List SessionEvent
  pub other_events : List SessionEvent
  pub bytes : List ℕ
  pub other_bytes : List ℕ
  pub are_events : after.events ≡ before.events ++ (events ++ other_events)
  pub are_bytes : after.bytes ≡ before.bytes ++ (bytes ++ other_bytes)
  pub new_events : new.events.items ≡ old.events.items ++ events
  pub new_bytes : new.bytes.items ≡ old.bytes.items ++ bytes

-- bytes were heard at this moment, where there are any
abbrev pub heard_with : List ℕ → ℕ → ℕ → ℕ
heard_with [] before now = before
heard_with (b ∷ bytes) before now = now

-- A session that stands at some bytes then stands at these and the piece.
pub record Feeds (s t : SessionState) (piece : List ℕ) (old new : Fed) : Type 0 where
  pub on : (first : Expected) (bytes : List ℕ) (c : Course) → IsAt first s bytes c →
      (d : Course) × IsAt first t (bytes ++ piece) d × Gains c d (close_between s.state t.state) old new
  pub opening : t.opening ≡ s.opening
  pub confirmed : t.confirmed ≡ s.confirmed

-- Out of memory it has given prefixes of what it would have come to.
abbrev pub Stalls : SessionState → List ℕ → Fed → Fed → Type 0
Stalls s piece old new = (first : Expected) (bytes : List ℕ) (c : Course) → IsAt first s bytes c →
    (d : Course) × (rest : List ℕ) × Comes s.opening (Opening first) (bytes ++ piece) d rest × GainsPrefixes c d old new

-- A session that has ended answers the same and reads nothing, and one that ran out of memory says so again.
abbrev pub Idles : State → Result Fate AllocError → SessionState → SessionState → Type 0
Idles (Running p) result s t = Unit {0}
Idles (Ended how owed) result s t = (result ≡ Ok (fate_of how)) × (t ≡ s)
Idles Spent result s t = (is_ok result ≡ false) × (t ≡ s)

abbrev pub is_running : State → Bool
is_running (Running p) = true
is_running (Ended how owed) = false
is_running Spent = false

-- ---- confirm

abbrev pub owed_by : State → List ℕ
owed_by (Running p) = owed_in p
owed_by (Ended how owed) = owed
owed_by Spent = []

-- The answer to OPEN, until the peer is confirmed.
abbrev pub owed_bytes : SessionState → List ℕ
owed_bytes s = if s.confirmed then [] else owed_by s.state

abbrev pub has_bytes : List ℕ → Bool
has_bytes [] = false
has_bytes (b ∷ bytes) = true

-- The answer was written, where one was owed.
abbrev pub with_confirmed : SessionState → SessionState
with_confirmed s = record { opening = s.opening; state = s.state; kept = s.kept; confirmed = s.confirmed || has_bytes (owed_by s.state); heard = s.heard }

-- ---- tick

-- how long the peer may be silent, in milliseconds: ten seconds until it has told
abbrev pub lease_in : Phase → ℕ
lease_in (Opening expected) = 10000
lease_in (Established s) = s.lease

-- the lease has passed since bytes came last
abbrev pub is_late : Phase → ℕ → ℕ → Bool
is_late p heard now = nat_le (lease_in p) (now - heard)

-- it has ended so, and this is owed
abbrev pub ended : SessionState → End → List ℕ → SessionState
ended s how owed = record { opening = s.opening; state = Ended how owed; kept = []; confirmed = s.confirmed; heard = s.heard }

-- the session behind a tick
abbrev pub ticked : State → SessionState → ℕ → SessionState
ticked (Running p) s now = if is_late p s.heard now then ended s (end.Closed Expired) (owed_in p) else s
ticked (Ended how owed) s now = s
ticked Spent s now = s

-- what it appends
abbrev pub tick_bytes : State → SessionState → ℕ → List ℕ
tick_bytes (Running p) s now = if is_late p s.heard now then close_of (end.Closed Expired) else []
tick_bytes (Ended how owed) s now = []
tick_bytes Spent s now = []
