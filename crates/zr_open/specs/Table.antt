-- How a session opens: one table for both ends (Zenoh protocol 1.0, "Session establishment"). An accepting end expects
-- INIT, answers it, expects OPEN, and then the session is open. A dialling end sends INIT, expects its answer, sends OPEN,
-- expects its answer, and then the session is open.
use Rattle.std.specs.Prelude.{◌≡◌, ℕ, ◌%◌, ◌*◌, ◌^◌, ◌-◌, ◌<◌, ◌==◌, min, Bool, true, false, not, ◌&&◌, List, [], length, Option, Some, None, Result, Ok, Err, nat_lt, nat_eq, if◌then◌else◌}
use Rattle.std.specs.Cmp.Lexicographic.{pointwise}
use Rattle.zr_trans.specs.declared.trans.Sizes.{Sizes}
use Rattle.zr_trans.specs.declared.trans.Trans.{Trans}
use Rattle.zr_trans.specs.declared.trans.Trans.TheVariants.{Init, Open, Close, KeepAlive, Frame, Fragment}
use Rattle.zr_trans.specs.Writing.{writes_trans, Fits}
use Rattle.zr_msg.specs.declared.peer.Role.{Role}
use Rattle.zr_msg.specs.declared.peer.Role.TheVariants.{Client, Router}
use Rattle.zr_wirekey.specs.Names.{NameList}
use Rattle.zr_frame.specs.Turn.{modulus_of}
use Rattle.zr_frame.specs.Outbox.{OutboxState}
use Rattle.zr_open.specs.declared.error.OpenError.{OpenError}
use Rattle.zr_open.specs.declared.error.OpenError.TheVariants.{Closed, Peer, NoMemory}
use Rattle.zr_open.specs.declared.error.Reason.TheVariants.{Unsupported, Invalid}
use Rattle.zr_msg.specs.Peer as peer
use Rattle.zr_open.specs.declared.expected.Expected.{Expected}
use Rattle.zr_open.specs.declared.expected.Expected.TheVariants as expects
use Rattle.zr_open.specs.declared.expected.Progress.{Progress}
use Rattle.zr_open.specs.declared.expected.Progress.TheVariants as progress
use Rattle.zr_open.specs.Opening.{OpeningState}
use Rattle.zr_open.specs.Cookie.{cookie_of}
use Rattle.zr_open.specs.Sizes.{frame_bits, offered, agreed, is_within, told}

-- ---- what both ends judge

abbrev pub tells_links : Option ℕ → Bool
tells_links None = false
tells_links (Some value) = value == 2

-- Version 9 alone is spoken. A peer is a client, or a router that tells its links with their weights, which it says by the value 2; the two
-- other roles are not taken.
abbrev pub role_in : ℕ → ℕ → Option ℕ → Option Role
role_in version bits speaks =
    if not (version == 9) then None
    else (if bits == 2 then Some Client
    else (if bits == 0 && tells_links speaks then Some Router else None))

-- What the link to a peer weighs: a client's 1, and a router's as much as this end brings to the opening.
abbrev pub weight_for : ℕ → Role → ℕ
weight_for weight Client = 1
weight_for weight Router = weight

-- A peer that isn't taken is refused first, and then a batch size below 64.
abbrev pub peer_in : Option Role → List ℕ → ℕ → ℕ → Result peer.PeerState OpenError
peer_in None id batch weight = Err (Closed Unsupported)
peer_in (Some role) id batch weight =
    if nat_lt batch 64 then Err (Closed Invalid) else Ok (record { id = id; role = role; weight = weight_for weight role })

-- Between routers each end gives numbers to the texts of keys, and none has one yet. A client is sent whole keys.
abbrev pub names_for : Role → Option NameList
names_for Client = None
names_for Router = Some []

-- What this end sends by: its first frame has the random word as its number, within the modulus.
abbrev pub outbox_of : OpeningState → Role → Sizes → OutboxState
outbox_of o role s = record { batch = s.batch; bits = frame_bits s; next = o.word % modulus_of (frame_bits s); names = names_for role }

-- A session doesn't open with a lease of nothing, or a first number that is none.
abbrev pub may_open : OutboxState → ℕ → ℕ → Bool
may_open box lease first = nat_lt 0 lease && nat_lt first (modulus_of box.bits)

-- a lease in milliseconds
abbrev pub milliseconds : Bool → ℕ → ℕ
milliseconds seconds lease = if seconds then min (lease * 1000) (2 ^ 64 - 1) else lease

abbrev pub opened : peer.PeerState → OutboxState → Bool → ℕ → ℕ → Option Trans → Result Progress OpenError
opened who box seconds lease first answer =
    if may_open box lease first then Ok (progress.Opened (record { peer = who; outbox = box; first = first; lease = milliseconds seconds lease; answer = answer }))
    else Err (Closed Invalid)

-- A CLOSE is the peer's; every other message that isn't expected is out of place.
abbrev pub unexpected : Trans → OpenError
unexpected (Init answer version role id sizes cookie speaks) = Closed Invalid
unexpected (Open answer seconds lease number cookie) = Closed Invalid
unexpected (Close session reason) = Peer reason
unexpected KeepAlive = Closed Invalid
unexpected (Frame reliable number) = Closed Invalid
unexpected (Fragment reliable more number piece) = Closed Invalid

-- ---- the accepting end

-- A router is told that this one tells its links with their weights too; a client is told nothing.
abbrev pub speaks_to : Role → Option ℕ
speaks_to Client = None
speaks_to Router = Some 2

abbrev pub init_answer : OpeningState → peer.PeerState → Sizes → Trans
init_answer o who s = Init true 9 0 o.me (told s) (Some (cookie_of o who.id)) (speaks_to who.role)

abbrev pub greeted : OpeningState → Sizes → Result peer.PeerState OpenError → Result Progress OpenError
greeted o s (Err e) = Err e
greeted o s (Ok who) = Ok (progress.Answers (expects.Open who (outbox_of o who.role s)) (init_answer o who s))

-- INIT is judged by the sizes on which both agree.
abbrev pub on_init : OpeningState → Trans → Result Progress OpenError
on_init o (Init false version bits id sizes cookie speaks) =
    greeted o (agreed (offered sizes)) (peer_in (role_in version bits speaks) id (agreed (offered sizes)).batch o.weight)
on_init o other = Err (unexpected other)

abbrev pub is_cookie : OpeningState → List ℕ → Option (List ℕ) → Bool
is_cookie o id None = false
is_cookie o id (Some cookie) = pointwise nat_eq cookie (cookie_of o id)

-- OPEN brings the cookie back. Its answer is owed until the peer is taken.
abbrev pub on_open : OpeningState → peer.PeerState → OutboxState → Trans → Result Progress OpenError
on_open o who box (Open false seconds lease first cookie) =
    if is_cookie o who.id cookie then opened who box seconds lease first (Some (Open true true 10 box.next None)) else Err (Closed Invalid)
on_open o who box other = Err (unexpected other)

-- ---- the dialling end

-- the INIT with which it begins: the usual sizes
abbrev pub greeting : OpeningState → Trans
greeting o = Init false 9 0 o.me None None (Some 2)

abbrev pub dialled : OpeningState → Sizes → Option (List ℕ) → Result peer.PeerState OpenError → Result Progress OpenError
dialled o s cookie (Err e) = Err e
dialled o s cookie (Ok who) =
    if is_within s then Ok (progress.Answers (expects.OpenAnswer who (outbox_of o who.role s)) (Open false true 10 (outbox_of o who.role s).next cookie))
    else Err (Closed Invalid)

-- The answer to INIT: sizes above those that were offered are refused last.
abbrev pub on_init_answer : OpeningState → Trans → Result Progress OpenError
on_init_answer o (Init true version bits id sizes cookie speaks) =
    dialled o (offered sizes) cookie (peer_in (role_in version bits speaks) id (offered sizes).batch o.weight)
on_init_answer o other = Err (unexpected other)

abbrev pub on_open_answer : peer.PeerState → OutboxState → Trans → Result Progress OpenError
on_open_answer who box (Open true seconds lease first cookie) = opened who box seconds lease first None
on_open_answer who box other = Err (unexpected other)

-- ---- the table

abbrev pub received : OpeningState → Expected → Trans → Result Progress OpenError
received o expects.Init t = on_init o t
received o (expects.Open who box) t = on_open o who box t
received o expects.InitAnswer t = on_init_answer o t
received o (expects.OpenAnswer who box) t = on_open_answer who box t

-- ---- what a call says of it

-- An end is the one that is said, unless memory ran out.
abbrev pub IsEndedBy : OpenError → Result Progress OpenError → Type 0
IsEndedBy (Closed reason) said = said ≡ Err (Closed reason)
IsEndedBy (Peer reason) said = said ≡ Err (Peer reason)
IsEndedBy NoMemory said = Unit {0}

-- A call led to what is said.
abbrev pub LeadsTo : Result Progress OpenError → Result Progress OpenError → Type 0
LeadsTo (Ok p) said = said ≡ Ok p
LeadsTo (Err e) said = IsEndedBy e said

-- An answer to OPEN can be written, as a batch.
abbrev pub AnswerFits : Option Trans → Type 0
AnswerFits None = Unit {0}
AnswerFits (Some t) = Fits t × (length (writes_trans t) < 2 ^ 16)

-- Answers can be written, and a session that opened counts its frames within the modulus.
abbrev pub IsSound : Progress → Type 0
IsSound (progress.Answers expected answer) = Fits answer
IsSound (progress.Opened o) = (o.first < modulus_of o.outbox.bits) × (0 < o.lease) × AnswerFits o.answer
