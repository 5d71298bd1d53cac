-- What a reader makes of a link, from its begin to its end.
use Rattle.std.specs.Prelude.{◌≡◌, ◌≢◌, ◌⊎◌, ℕ, List, [], ◌∷◌, ◌++◌, Option, Some, None, Result, Ok, Err}
use mathlib.Core.List.{IsPrefix}
use Rattle.zr_id.specs.declared.link.LinkNo.{LinkNo}
use Rattle.zr_frame.specs.Outbox.{OutboxState}
use Rattle.zr_msg.specs.declared.event.Event.TheVariants.{Up, Down}
use Rattle.zr_msg.specs.declared.msg.Msg.{Msg}
use Rattle.zr_msg.specs.Peer.{PeerState}
use Rattle.zr_open.specs.declared.error.Reason.{Reason}
use Rattle.zr_outside_crew.specs.Told.{with_last}
use Rattle.zr_hist.specs.declared.pass.Pass.{Pass}
use Rattle.zr_hist.specs.Words.{seen, mine}
use Rattle.zr_port.specs.declared.entry.Entry.{Entry}
use Rattle.zr_port.specs.declared.error.UpError.{UpError}
use Rattle.zr_port.specs.declared.error.UpError.TheVariants as up_error
use Rattle.zr_port.specs.declared.error.DeliverError.{DeliverError}
use Rattle.zr_port.specs.declared.error.DeliverError.TheVariants as deliver
use Rattle.zr_port.specs.declared.error.DownError.{DownError}
use Rattle.zr_port.specs.declared.error.DownError.TheVariants as down_error
use Rattle.zr_session.specs.declared.event.SessionEvent.{SessionEvent}
use Rattle.zr_session.specs.declared.event.SessionEvent.TheVariants.{Opened, Message}
use Rattle.zr_session.specs.declared.fate.End.TheVariants as how
use Rattle.zr_session.specs.declared.fate.Fate.{Fate}
use Rattle.zr_session.specs.declared.fate.Fate.TheVariants as fate
use Rattle.zr_session.specs.declared.phase.Phase.{Phase}
use Rattle.zr_session.specs.declared.phase.Phase.TheVariants.{Opening}
use Rattle.zr_session.specs.Course.{Course, owed_in}
use Rattle.zr_session.specs.Stream.{Comes}
use Rattle.zr_session.specs.Session.{SessionState, IsAt, owed_bytes}
use Rattle.zr_open.specs.declared.expected.Expected.{Expected}
use Rattle.zr_link.specs.declared.end.LinkEnd.{LinkEnd}
use Rattle.zr_link.specs.declared.end.LinkEnd.TheVariants as end
use Rattle.zr_link.specs.Ends.{end_of_up, end_of_delivery, reason_of, IsEarly}
use Rattle.zr_link.specs.Heard.{AreBytes, Takes, Heard, Closes, FateIs, messages, first_of, IsOpen}
use Rattle.zr_link.specs.Acts.{Act, Does, up, down, froms}
use Rattle.zr_link.specs.Gone.{IsGone}
use Rattle.zr_port.specs.Coming.{Answering, Sight, sight, AddsOne, Looks, Came, messages_of, delivered, Through}

-- ---- messages that are delivered on a link

-- Of some events, the messages at the front came, each delivered or passed over, and the rest was not looked at
pub record Delivers (link : LinkNo) (refuses : List Entry → Msg → DeliverError → Type 0) (events rest : List SessionEvent) (old new : Sight) : Type 0 where
  pub came : List Came
  pub are : events ≡ messages (messages_of came) ++ rest
  pub goes : Through link refuses came old new

-- the first of the rest was refused, and so the reader ends
pub record Stops (refuses : Msg → DeliverError → Type 0) (rest : List SessionEvent) (end : LinkEnd) : Type 0 where
  pub msg : Msg
  pub others : List SessionEvent
  pub error : DeliverError
  pub first : rest ≡ Message msg ∷ others
  pub refused : error ≢ deliver.NoMemory → refuses msg error
  pub ends : end_of_delivery error ≡ Some end

-- The first of these messages was refused, and so this end closes the session
pub record Refuses (refuses : Msg → DeliverError → Type 0) (others : List Msg) (reason : Reason) : Type 0 where
  pub msg : Msg
  pub rest : List Msg
  pub error : DeliverError
  pub first : others ≡ msg ∷ rest
  pub refused : refuses msg error
  pub ends : end_of_delivery error ≡ Some (end.Closed reason)

-- Why a reader ends whose link is up, by what was heard and by the messages that were not delivered. `Early` is told of ends that come before the
-- writer was started, `Late` of a silent peer, and `Refused` of a message that was refused
abbrev pub UpEnds : LinkEnd → Course → List Msg → Type 0 → (Phase → Type 0) → (Reason → Type 0) → Type 0
UpEnds end.ReadFault c others Early Late Refused = (c.ends ≡ None) × (others ≡ [])
UpEnds end.WriteFault c others Early Late Refused = Early
UpEnds end.PeerEnded c others Early Late Refused = (c.ends ≡ None) × (others ≡ [])
UpEnds (end.Closed reason) c others Early Late Refused = (Closes reason c Late × (others ≡ [])) ⊎ Refused reason
UpEnds (end.Peer reason) c others Early Late Refused = (c.ends ≡ Some (how.Peer reason)) × (others ≡ [])
UpEnds end.CrewRefused c others Early Late Refused = Early
UpEnds end.Turns c others Early Late Refused = (c.ends ≡ None) × (others ≡ [])
UpEnds end.NoMemory c others Early Late Refused = Unit {0}

-- how a reader ends where the session has ended so
abbrev pub EndIs : Fate → LinkEnd → Type 0
EndIs fate.Going e = ⊥
EndIs (fate.Closed reason) e = e ≡ end.Closed reason
EndIs (fate.Peer reason) e = e ≡ end.Peer reason

-- A reader whose link is up went on until an end, from where bytes have led the session and some events still wait: these messages of what waited and of
-- what was heard since came, in order. The next one was looked at after the pass had seen `last`
abbrev pub Follows : LinkNo → List Came → SessionState → List SessionEvent → Fate → LinkEnd → Option (List ℕ) → Option (List ℕ) → (Phase → Type 0)
    → (List Entry → LinkNo → Msg → DeliverError → Type 0) → List Entry → Type 0
Follows link came s waiting f end before after Late refuses last =
    (first : Expected) (bytes rest : List ℕ) (c : Course) → AreBytes bytes → Comes s.opening (Opening first) bytes c rest → IsOpen c.phase → FateIs f c (λ p. ⊥)
    → (f ≡ fate.Going → IsAt first s bytes c)
    → (later : List SessionEvent) × (others : List Msg) × (h : Heard first s.opening bytes c later before after) × (waiting ++ later ≡ messages (messages_of came ++ others))
    × UpEnds end h.course others ⊥ Late (λ reason. Refuses (λ m e. refuses last link m e) others reason)

-- ---- a whole run

-- Why a reader ends before its link is up, by what was heard. `Refused` is told of a peer that isn't taken
abbrev pub EarlyEnds : LinkEnd → Course → List SessionEvent → (Phase → Type 0) → (Reason → Type 0) → Type 0
EarlyEnds end.ReadFault c events Late Refused = (c.ends ≡ None) × (events ≡ [])
EarlyEnds end.WriteFault c events Late Refused = events ≡ []
EarlyEnds end.PeerEnded c events Late Refused = (c.ends ≡ None) × (events ≡ [])
EarlyEnds (end.Closed reason) c events Late Refused = (Closes reason c Late × (events ≡ [])) ⊎ Refused reason
EarlyEnds (end.Peer reason) c events Late Refused = (c.ends ≡ Some (how.Peer reason)) × (events ≡ [])
EarlyEnds end.CrewRefused c events Late Refused = ⊥
EarlyEnds end.Turns c events Late Refused = (c.ends ≡ None) × (events ≡ [])
EarlyEnds end.NoMemory c events Late Refused = Unit {0}

-- The session opened with a peer that the port refused
pub record NotTaken (refuses : List Entry → PeerState → UpError → Type 0) (seen : List Entry) (events : List SessionEvent) (reason : Reason) : Type 0 where
  pub peer : PeerState
  pub outbox : OutboxState
  pub msgs : List Msg
  pub error : UpError
  pub opens : events ≡ Opened peer outbox ∷ messages msgs
  pub refused : refuses seen peer error
  pub ends : end_of_up error ≡ end.Closed reason

-- the link never came up: nothing was added, and what the session answered at once was written
pub record StaysDown (end : LinkEnd) (c : Course) (Late : Phase → Type 0) (Writes : List ℕ → Type 0) (refuses : List Entry → PeerState → UpError → Type 0) (old new : Pass Entry) : Type 0 where
  pub does : mine new ≡ mine old
  pub why : EarlyEnds end c c.events Late (λ reason. NotTaken refuses (seen new) c.events reason)
  pub writes : Writes c.bytes

-- what `down` answers, and by which acts: the link goes down with the reason of the reader's end, behind all that was seen and added before, or that is refused
abbrev pub IsDown : LinkNo → LinkEnd → (DownError → Type 0) → List Act → Sight → Sight → Result (Unit {0}) DownError → Type 0
IsDown link end refuses downs old new (Ok _) = (downs ≡ down link (reason_of end) ∷ []) × AddsOne (Down link) None (reason_of end) old new
IsDown link end refuses downs old new (Err error) = (downs ≡ []) × Looks old new × (error ≢ down_error.NoMemory → refuses error)

-- `down` was called once, with the reason of the reader's end. It wasn't where the link is gone: another caller has taken it down, as a message over it told
abbrev pub GoesDown : LinkNo → LinkEnd → (DownError → Type 0) → Answering → Type 0 → List Act → Sight → Sight → Type 0
GoesDown link end refuses called Gone downs old new =
    ((answer : Result (Unit {0}) DownError) × called link (reason_of end) old new answer × IsDown link end refuses downs old new answer)
    ⊎ ((downs ≡ []) × (new ≡ old) × Gone)

-- The link came up with the peer and the outbox with which the session opened, then messages came, in order, each delivered or passed over, and at last
-- it went down. The
-- answer to OPEN was written behind what the session answered at once
pub record ComesUp (end : LinkEnd) (c : Course) (Late : Phase → Type 0) (Writes : List ℕ → Type 0) (refuses : List Entry → LinkNo → Msg → DeliverError → Type 0) (refuses_down : List Entry → LinkNo → DownError → Type 0) (called : Answering) (old new : Pass Entry) : Type 0 where
  pub link : LinkNo
  pub peer : PeerState
  pub outbox : OutboxState
  pub came : List Came
  pub others : List Msg
  pub downs : List Act
  pub begun : Sight
  pub last : Sight
  pub events_are : c.events ≡ Opened peer outbox ∷ messages (messages_of came ++ others)
  pub upon : AddsOne (Up link peer) (Some outbox) None (sight old) begun
  pub goes : Through link (λ h m e. refuses h link m e) came begun last
  pub behind : IsPrefix last.seen (seen new)
  pub own : IsPrefix last.mine (mine new)
  pub does : Does (up link peer outbox ∷ (froms link (delivered came) ++ downs)) (mine old) (mine new)
  pub goes_down : GoesDown link end (λ e. refuses_down (seen new) link e) called (IsGone (λ m e. refuses last.seen link m e)) downs last (sight new)
  pub why : UpEnds end c others (came ≡ []) Late (λ reason. Refuses (λ m e. refuses last.seen link m e) others reason)
  pub writes : Writes (c.bytes ++ owed_in c.phase)

-- Either the sink came back, and the crew tells what it told before; or the writer was started, and the crew tells it last, by the link that came up
abbrev pub Starts : {K : Type 0} → Option K → Option (List LinkNo) → Option (List LinkNo) → List Entry → List Entry → Type 0
Starts (Some sink) told told_now old new = told_now ≡ told
Starts None told told_now old new =
    (link : LinkNo) × (peer : PeerState) × (outbox : OutboxState) × (acts : List Act) × Does (up link peer outbox ∷ acts) old new × (told_now ≡ with_last link told)

-- The session has opened, and the port refuses the peer
abbrev pub EndsRefused : PeerState → LinkEnd → Option (List ℕ) → Option (List ℕ) → (List ℕ → Type 0) → (List Entry → PeerState → UpError → Type 0) → Pass Entry → Pass Entry → Type 0
EndsRefused peer end before after Writes refuses_up old new =
    (mine new ≡ mine old) × (after ≡ before) × ((error : UpError) × (error ≢ up_error.NoMemory → refuses_up (seen new) peer error) × (end ≡ end_of_up error)) × Writes []

-- The port takes it, and no writer is started: the answer to OPEN is written, and the link goes down
abbrev pub EndsEarly : PeerState → OutboxState → SessionState → LinkEnd → Option (List ℕ) → Option (List ℕ) → (List ℕ → Type 0) → (List Entry → LinkNo → DownError → Type 0) → Answering → Pass Entry → Pass Entry → Type 0
EndsEarly peer outbox s end before after Writes refuses_down called old new =
    (link : LinkNo) × (downs : List Act) × Does (up link peer outbox ∷ downs) (mine old) (mine new)
    × IsEarly end × (after ≡ before) × Writes (owed_bytes s) × ((begun : Sight) × AddsOne (Up link peer) (Some outbox) None (sight old) begun × IsPrefix begun.seen (seen new) × IsPrefix begun.mine (mine new)
    × GoesDown link end (λ e. refuses_down (seen new) link e) called ⊥ downs begun (sight new))

-- The port takes it, and its writer is started: messages are delivered, and the link goes down. The sink is handed on once the answer to OPEN is written
abbrev pub EndsStarted : PeerState → OutboxState → SessionState → List SessionEvent → Fate → LinkEnd → Option (List ℕ) → Option (List ℕ) → (Phase → Type 0) → (List ℕ → Type 0)
    → (List Entry → LinkNo → Msg → DeliverError → Type 0) → (List Entry → LinkNo → DownError → Type 0) → Answering → Pass Entry → Pass Entry → Type 0
EndsStarted peer outbox s waiting f end before after Late Writes refuses refuses_down called old new =
    (link : LinkNo) × (came : List Came) × (downs : List Act) × Does (up link peer outbox ∷ (froms link (delivered came) ++ downs)) (mine old) (mine new)
    × Writes (owed_bytes s)
    × ((begun : Sight) × (last : Sight) × AddsOne (Up link peer) (Some outbox) None (sight old) begun × Through link (λ h m e. refuses h link m e) came begun last
    × IsPrefix last.seen (seen new) × IsPrefix last.mine (mine new) × Follows link came s waiting f end before after Late refuses last.seen
    × GoesDown link end (λ e. refuses_down (seen new) link e) called (IsGone (λ m e. refuses last.seen link m e)) downs last (sight new))

-- The session has opened, and the port takes the peer or not. `Writes` is told of the answer to OPEN, where it is written
abbrev pub Enters : PeerState → OutboxState → SessionState → List SessionEvent → Fate → LinkEnd → Option (List ℕ) → Option (List ℕ) → (Phase → Type 0) → (List ℕ → Type 0)
    → (List Entry → PeerState → UpError → Type 0) → (List Entry → LinkNo → Msg → DeliverError → Type 0) → (List Entry → LinkNo → DownError → Type 0) → Answering → Pass Entry → Pass Entry → Type 0
Enters peer outbox s waiting f end before after Late Writes refuses_up refuses refuses_down called old new =
    EndsRefused peer end before after Writes refuses_up old new
    ⊎ (EndsEarly peer outbox s end before after Writes refuses_down called old new
    ⊎ EndsStarted peer outbox s waiting f end before after Late Writes refuses refuses_down called old new)

-- All that a reader read, the course to which it comes, and what it made of the link. `Writes` is told of what it answered
pub record Runs (s : SessionState) (end : LinkEnd) (before after : Option (List ℕ)) (Late : Phase → Type 0) (Writes : List ℕ → Type 0) (refuses_up : List Entry → PeerState → UpError → Type 0) (refuses : List Entry → LinkNo → Msg → DeliverError → Type 0) (refuses_down : List Entry → LinkNo → DownError → Type 0) (called : Answering) (old new : Pass Entry) : Type 0 where
  pub bytes : List ℕ
  pub course : Course
  pub rest : List ℕ
  pub taken : Takes bytes before after
  pub comes : Comes s.opening (Opening (first_of s.state)) bytes course rest
  pub made : StaysDown end course Late Writes refuses_up old new ⊎ ComesUp end course Late Writes refuses refuses_down called old new
