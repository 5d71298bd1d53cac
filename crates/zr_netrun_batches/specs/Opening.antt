-- Sessions of a script's network, as they open.
use Rattle.std.specs.Prelude.{◌≡◌, ℕ, ◌%◌, ◌<◌, ◌^◌, true, false, List, [], ◌∷◌, length, Option, Some, None}
use Rattle.zr_frame_batch.specs.Framing.{framed}
use Rattle.zr_id.specs.Zid.{is_zid}
use Rattle.zr_msg.specs.Peer.{PeerState}
use Rattle.zr_msg.specs.declared.peer.Role.TheVariants.{Client, Router}
use Rattle.zr_trans.specs.declared.trans.Trans.{Trans}
use Rattle.zr_trans.specs.declared.trans.Trans.TheVariants.{Init, Open, Close, KeepAlive, Frame, Fragment}
use Rattle.zr_trans.specs.Writing.{writes_trans, HasFields}
use Rattle.zr_frame.specs.Outbox.{OutboxState}
use Rattle.zr_frame.specs.Turn.{modulus_of}
use Rattle.zr_open.specs.declared.expected.Expected.{Expected}
use Rattle.zr_open.specs.declared.expected.Expected.TheVariants as expects
use Rattle.zr_open.specs.declared.expected.Opened as opened
use Rattle.zr_open.specs.Cookie.{cookie_of}
use Rattle.zr_open.specs.Opening.{OpeningState}
use Rattle.zr_open.specs.Sizes.{usual}
use Rattle.zr_open.specs.Table.{greeting, init_answer, outbox_of}
use Rattle.zr_session.specs.declared.event.SessionEvent.{SessionEvent}
use Rattle.zr_session.specs.declared.event.SessionEvent.TheVariants.{Opened}
use Rattle.zr_session.specs.declared.phase.Phase.{Phase}
use Rattle.zr_session.specs.declared.phase.Phase.TheVariants.{Opening, Established}
use Rattle.zr_session.specs.declared.state.State.TheVariants.{Running}
use Rattle.zr_session.specs.Course.{Course}
use Rattle.zr_session.specs.Stream.{Comes}
use Rattle.zr_session.specs.Step.{on_trans, established}
use Rattle.zr_session.specs.Session.{SessionState}

-- The session is in this phase, behind whole batches.
pub record Stands (s : SessionState) (o : OpeningState) (p : Phase) : Type 0 where
  pub opening : s.opening ≡ o
  pub state : s.state ≡ Running p
  pub kept : s.kept ≡ []
  pub first : Expected
  pub fed : List ℕ
  pub course : Course
  pub comes : Comes o (Opening first) fed course []
  pub goes : course.ends ≡ None
  pub at : course.phase ≡ p

-- A transport message led to no end, and the session stands behind it: what it gave and answered.
pub record Takes (s : SessionState) (o : OpeningState) (p : Phase) (t : Trans) (events : List SessionEvent) (bytes : List ℕ) : Type 0 where
  pub goes : (on_trans o p t).ends ≡ None
  pub stands : Stands s o (on_trans o p t).phase
  pub events_are : events ≡ (on_trans o p t).events
  pub bytes_are : bytes ≡ (on_trans o p t).bytes

-- the message is one, and a batch has room for it
pub record IsBatch (t : Trans) : Type 0 where
  pub fields : HasFields t
  pub short : length (writes_trans t) < 2 ^ 16

-- A session that was fed a batch has taken its message, if the batch is one.
abbrev pub TakesBatch : SessionState → SessionState → List ℕ → List SessionEvent → List ℕ → Type 0
TakesBatch s u batch events bytes =
    (u.confirmed ≡ s.confirmed)
    × ((o : OpeningState) (p : Phase) (t : Trans) → Stands s o p → batch ≡ framed (writes_trans t) → IsBatch t → Takes u o p t events bytes)

-- Such an event tells what this end sends by.
abbrev pub Tells : List SessionEvent → OutboxState → Type 0
Tells events box = (peer : PeerState) (o : OutboxState) → events ≡ Opened peer o ∷ [] → box ≡ o

-- A session was fed a batch. Where it has opened with it, this is what its end sends by.
abbrev pub OpensBy : SessionState → SessionState → List ℕ → OutboxState → Type 0
OpensBy s u batch box = (events : List SessionEvent) × (bytes : List ℕ) × TakesBatch s u batch events bytes × Tells events box

-- ---- the messages

-- the router that dials, and the one that accepts, as the other end sees it
abbrev pub caller : OpeningState → OpeningState → PeerState
caller a d = record { id = d.me; role = Router; weight = a.weight }

abbrev pub host : OpeningState → OpeningState → PeerState
host a d = record { id = a.me; role = Router; weight = d.weight }

abbrev pub host_answer : OpeningState → OpeningState → Trans
host_answer a d = init_answer a (caller a d) usual

abbrev pub open_of : ℕ → OpeningState → List ℕ → Trans
open_of number a id = Open false true 10 number (Some (cookie_of a id))

abbrev pub first_of : OpeningState → ℕ
first_of o = o.word % modulus_of 2

abbrev pub open_answer : OpeningState → Trans
open_answer a = Open true true 10 (first_of a) None

-- a client of this identifier
abbrev pub guest : List ℕ → PeerState
guest id = record { id = id; role = Client; weight = 1 }

abbrev pub client_init : List ℕ → Trans
client_init id = Init false 9 2 id None None None

abbrev pub guest_answer : OpeningState → List ℕ → Trans
guest_answer a id = init_answer a (guest id) usual

-- the cookie that an answer to INIT brings
abbrev pub told_cookie : Trans → Option (List ℕ)
told_cookie (Init true version role id sizes cookie speaks) = cookie
told_cookie (Init false version role id sizes cookie speaks) = None
told_cookie (Open answer seconds lease number cookie) = None
told_cookie (Close session reason) = None
told_cookie KeepAlive = None
told_cookie (Frame reliable number) = None
told_cookie (Fragment reliable more number piece) = None

-- the cookie of a client, where these bytes are the answer to its INIT
abbrev pub IsCookieIn : List ℕ → List ℕ → Type 0
IsCookieIn bytes cookie = (a : OpeningState) (id : List ℕ) → bytes ≡ framed (writes_trans (guest_answer a id)) → IsBatch (guest_answer a id) → cookie ≡ cookie_of a id

-- ---- where both ends are open

abbrev pub accepted : OpeningState → OpeningState → opened.Opened
accepted a d = record { peer = caller a d; outbox = outbox_of a Router usual; first = first_of d; lease = 10000; answer = Some (open_answer a) }

abbrev pub dialled : OpeningState → OpeningState → opened.Opened
dialled a d = record { peer = host a d; outbox = outbox_of d Router usual; first = first_of a; lease = 10000; answer = None }

abbrev pub admitted : OpeningState → List ℕ → opened.Opened
admitted a id = record { peer = guest id; outbox = outbox_of a Client usual; first = 0; lease = 10000; answer = Some (open_answer a) }

-- Two sessions have opened with each other: the one that has accepted and the one that has dialled, and what each sends by.
abbrev pub AreOpened : SessionState → SessionState → SessionState → SessionState → List ℕ → OutboxState → OutboxState → Type 0
AreOpened acc acc' dial dial' init accepting dialling =
    (a d : OpeningState) → is_zid a.me ≡ true → is_zid d.me ≡ true → Stands acc a (Opening expects.Init) → acc.confirmed ≡ false → Stands dial d (Opening expects.InitAnswer) →
    init ≡ framed (writes_trans (greeting d)) →
    Stands acc' a (Established (established (accepted a d))) × Stands dial' d (Established (established (dialled a d)))
    × (accepting ≡ outbox_of a Router usual) × (dialling ≡ outbox_of d Router usual)

-- A session has opened for a client.
abbrev pub IsOpenedFor : List ℕ → SessionState → SessionState → Type 0
IsOpenedFor client acc acc' =
    (a : OpeningState) → is_zid a.me ≡ true → Stands acc a (Opening expects.Init) → Stands acc' a (Established (established (admitted a client)))
