-- The laws of sessions.
use Rattle.std.specs.Prelude.{◌≡◌, ℕ, List, [], ◌∷◌, ◌++◌, Option, Some, None}
use Rattle.std.specs.List.{AllByRecursion, flat_map}
use Rattle.zr_frame_batch.specs.Framing.{framed}
use Rattle.zr_msg.specs.declared.msg.Msg.{Msg}
use Rattle.zr_frame.specs.Outbox.{OutboxState, IsOutbox}
use Rattle.zr_open.specs.declared.expected.Expected.{Expected}
use Rattle.zr_open.specs.declared.expected.Opened.{Opened}
use Rattle.zr_open.specs.Opening.{OpeningState}
use Rattle.zr_session.specs.declared.event.Fed.{Fed}
use Rattle.zr_session.specs.declared.event.SessionEvent.{SessionEvent}
use Rattle.zr_session.specs.declared.fate.End.{End}
use Rattle.zr_session.specs.declared.fate.Fate.{Fate}
use Rattle.zr_session.specs.declared.fate.Fate.TheVariants.{Going}
use Rattle.zr_session.specs.declared.phase.Established as session
use Rattle.zr_session.specs.declared.phase.Phase.{Phase}
use Rattle.zr_session.specs.declared.phase.Phase.TheVariants.{Opening, Established}
use Rattle.zr_session.specs.Course.{Course, owed_in}
use Rattle.zr_session.specs.Step.{established}
use Rattle.zr_session.specs.Stream.{Comes}
use Rattle.zr_session.specs.Session.{SessionState, begun, Feeds, Answers, fate_of, close_between, with_confirmed, owed_bytes, ticked}
use Rattle.zr_wire.specs.Sending.{MayBeSent}
use Rattle.zr_session.specs.Sending.{AreNames, packed_in, outbox_of_peer, hearing, with_messages}

-- All bytes come to a course, and to one alone.
pub record BytesHaveOneCourse : Type 0 where
  pub some : (o : OpeningState) (p : Phase) (bytes : List ℕ) → (c : Course) × (rest : List ℕ) × Comes o p bytes c rest
  pub one : (o : OpeningState) (p : Phase) (bytes rest left : List ℕ) (c d : Course) → Comes o p bytes c rest → Comes o p bytes d left → (c ≡ d) × (rest ≡ left)

-- a call of a session
pub data Call : Type 0 where
  feed : List ℕ → Call
  tick : ℕ → Call
  confirm : Call

-- What a call that answered did, as its contract says: the events and the bytes that it appended, the CLOSE left out. Of ticks
-- those that leave the session as it was.
abbrev pub Does : Call → SessionState → SessionState → List SessionEvent → List ℕ → Type 0
Does (feed piece) s t events bytes =
    (old : Fed) × (new : Fed) × Feeds s t piece old new × (new.events.items ≡ old.events.items ++ events) × (new.bytes.items ≡ old.bytes.items ++ (bytes ++ close_between s.state t.state))
Does (tick now) s t events bytes = (ticked s.state s now ≡ s) × (t ≡ s) × (events ≡ []) × (bytes ≡ [])
Does confirm s t events bytes = (t ≡ with_confirmed s) × (events ≡ []) × (bytes ≡ owed_bytes s)

-- what several calls one behind another did
abbrev pub DoAll : List Call → SessionState → SessionState → List SessionEvent → List ℕ → Type 0
DoAll [] s last events bytes = (last ≡ s) × (events ≡ []) × (bytes ≡ [])
DoAll (call ∷ calls) s last events bytes =
    (next : SessionState) × (here : List SessionEvent) × (more : List SessionEvent) × (now : List ℕ) × (later : List ℕ)
    × (events ≡ here ++ more) × (bytes ≡ now ++ later) × Does call s next here now × DoAll calls next last more later

-- all bytes that were fed
abbrev pub fed_by : List Call → List ℕ
fed_by [] = []
fed_by (feed piece ∷ calls) = piece ++ fed_by calls
fed_by (tick now ∷ calls) = fed_by calls
fed_by (confirm ∷ calls) = fed_by calls

abbrev pub fate_in : Option End → Fate
fate_in None = Going
fate_in (Some how) = fate_of how

-- After any calls the events, the bytes and the fate are those that all bytes that were fed come to in one piece; until the peer is
-- confirmed the answer to OPEN is owed. So no cut matters, and nothing but the bytes does.
pub record AreThoseOf (c : Course) (last : SessionState) (events : List SessionEvent) (bytes : List ℕ) : Type 0 where
  pub events_are : events ≡ c.events
  pub bytes_are : bytes ++ owed_bytes last ≡ c.bytes ++ owed_in c.phase
  pub fate : (f : Fate) → Answers last.state f → f ≡ fate_in c.ends

abbrev pub NoCutMatters : Type 0
NoCutMatters = (first : Expected) (o : OpeningState) (now : ℕ) (calls : List Call) (last : SessionState) (events : List SessionEvent) (bytes : List ℕ) →
    DoAll calls (begun first o now) last events bytes →
    (c : Course) × (rest : List ℕ) × Comes o (Opening first) (fed_by calls) c rest × AreThoseOf c last events bytes

-- Behind whole bytes that established a session, the batches of messages that the peer may send come to exactly these messages, in order, and to
-- no end, in however many calls they were packed. The session then expects what the outbox behind them sends, and knows the numbers that it has given, so this
-- holds of more messages again.
pub record PackedMessagesAreReadBack : Type 0 where
  -- a session that has just opened expects what its peer packs first, which has given no number
  pub at_first : (o : Opened) → (established o ≡ hearing (established o) (outbox_of_peer o)) × AreNames (outbox_of_peer o).names
  pub read_back : (first : Expected) (o : OpeningState) (bytes : List ℕ) (c : Course) (s : session.Established) (box : OutboxState) (calls : List (List Msg)) →
      IsOutbox box → AreNames box.names → Comes o (Opening first) bytes c [] → c.ends ≡ None → c.phase ≡ Established (hearing s box) →
      AllByRecursion (λ m. MayBeSent s.role m) (flat_map (λ messages. messages) calls) →
      Comes o (Opening first) (bytes ++ flat_map (λ batch. framed batch) (packed_in box calls).batches)
      (with_messages c s (packed_in box calls).outbox (flat_map (λ messages. messages) calls)) []
  -- what is said of the outbox holds of the one behind them
  pub behind : (box : OutboxState) (calls : List (List Msg)) → IsOutbox box → AreNames box.names →
      IsOutbox (packed_in box calls).outbox × AreNames (packed_in box calls).outbox.names
