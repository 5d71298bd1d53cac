-- Sessions open: of two routers, and of a client and a router.
use Rattle.std.proofs.Common.{◌≡◌, ◌∙◌, ap, refl, sym, subst, ℕ, ◌-◌, ◌<◌, ◌≤◌, ◌^◌, Bool, true, false, cond, List, [], ◌∷◌, ◌++◌, length, length-append, append-nil, drop, Option, Some, None, Ok, Err, nat_lt, mod-lt, arith}
use Rattle.std.specs.Prelude.{if◌then◌else◌}
use Rattle.std.proofs.lemmas.Bool.Decides.{nat_tests}
use Rattle.sha2.proofs.Facts256.{length-sha256}
use Rattle.zr_bytes.specs.Reading.{Read}
use Rattle.zr_bytes.specs.Number.{writes}
use Rattle.zr_bytes.specs.Text.{writes_text}
use Rattle.zr_frame.proofs.Heads.{length-writes}
use Rattle.zr_frame_batch.specs.Framing.{framed}
use Rattle.zr_id.specs.Zid.{is_zid}
use Rattle.zr_oam.proofs.Keys.{zid_small}
use Rattle.zr_trans.specs.declared.trans.Trans.{Trans}
use Rattle.zr_trans.specs.declared.trans.Trans.TheVariants.{Init, Open}
use Rattle.zr_trans.specs.Laws.{WrittenMessagesAreRead}
use Rattle.zr_trans.specs.Reading.{trans_of}
use Rattle.zr_trans.specs.Writing.{writes_trans, writes_speaks}
use Rattle.zr_msg.specs.Peer.{PeerState}
use Rattle.zr_msg.specs.declared.peer.Role.TheVariants.{Client, Router}
use Rattle.zr_frame.specs.Outbox.{OutboxState, IsOutbox}
use Rattle.zr_open.specs.declared.expected.Expected.{Expected}
use Rattle.zr_open.specs.declared.expected.Expected.TheVariants as expects
use Rattle.zr_open.specs.declared.expected.Opened as opened
use Rattle.zr_open.specs.Opening.{OpeningState}
use Rattle.zr_open.specs.Cookie.{cookie_of}
use Rattle.zr_open.specs.Sizes.{usual}
use Rattle.zr_open.specs.Table.{greeting, init_answer, outbox_of}
use Rattle.zr_open.proofs.Short.{opening_answer_short}
use Rattle.zr_open.specs.declared.error.Reason.TheVariants.{Invalid}
use Rattle.zr_open.proofs.Opens.{same_bytes, word_below}
use Rattle.zr_session.specs.declared.event.SessionEvent.{SessionEvent}
use Rattle.zr_session.specs.declared.event.SessionEvent.TheVariants as event
use Rattle.zr_session.specs.declared.fate.End.TheVariants.{Closed}
use Rattle.zr_session.specs.declared.phase.Phase.{Phase}
use Rattle.zr_session.specs.declared.phase.Phase.TheVariants.{Opening, Established}
use Rattle.zr_session.specs.Course.{Course, answers, gives, stops}
use Rattle.zr_session.specs.Laws.{PackedMessagesAreReadBack}
use Rattle.zr_session.specs.Sending.{AreNames, hearing, outbox_of_peer}
use Rattle.zr_session.specs.Session.{SessionState, begun, owed_by, owed_bytes}
use Rattle.zr_session.specs.Step.{on_trans, answered, established, written}
use Rattle.zr_session.specs.Stream.{Comes}
use Rattle.zr_netrun_batches.specs.Coming.{Leads}
use Rattle.zr_netrun_batches.proofs.Batch.{begun_stands, read_again}
use Rattle.zr_netrun_batches.specs.Opening.{Stands, Takes, TakesBatch, IsBatch, caller, host, host_answer, open_of, first_of, open_answer, guest, client_init, guest_answer, accepted, dialled, admitted, AreOpened, IsOpenedFor, IsCookieIn, told_cookie}

-- ---- each message is one, and short

cookie_fits : (a : OpeningState) (id : List ℕ) → length (cookie_of a id) ≤ 2 ^ 16 - 1
cookie_fits a id = let long : length (cookie_of a id) ≡ 32 = length-sha256 _ in omega (arith, long)

speaking_short : (role : ℕ) (id : List ℕ) → length id ≤ 255 → length (writes_trans (Init false 9 role id None None (Some 2))) < 2 ^ 16
speaking_short role id h =
    let a = length-writes 2 in
    let all = length-append id (writes_speaks (Some 2)) in
    omega (arith, a, all, h)

silent_short : (role : ℕ) (id : List ℕ) → length id ≤ 255 → length (writes_trans (Init false 9 role id None None None)) < 2 ^ 16
silent_short role id h = let all = length-append id [] in omega (arith, all, h)

opening_short : (number : ℕ) (cookie : List ℕ) → length cookie ≡ 32 → length (writes_trans (Open false true 10 number (Some cookie))) < 2 ^ 16
opening_short number cookie h =
    let a = length-writes 10 in
    let b = length-writes number in
    let c = length-writes (length cookie) in
    let all = length-append (writes 10) (writes number ++ writes_text cookie) in
    let more = length-append (writes number) (writes_text cookie) in
    let text = length-append (writes (length cookie)) cookie in
    omega (arith, a, b, c, all, more, text, h)

pub greeting_batch : (d : OpeningState) → is_zid d.me ≡ true → IsBatch (greeting d)
greeting_batch d is = record { fields = ((omega arith, tt, refl), is); short = speaking_short 0 d.me (zid_small d.me is) }

client_batch : (id : List ℕ) → is_zid id ≡ true → IsBatch (client_init id)
client_batch id is = record { fields = ((omega arith, tt, refl), is); short = silent_short 2 id (zid_small id is) }

answer_batch : (a : OpeningState) (who : PeerState) → is_zid a.me ≡ true → length (writes_trans (init_answer a who usual)) < 2 ^ 16 → IsBatch (init_answer a who usual)
answer_batch a who is short = record { fields = ((omega arith, tt, (refl, cookie_fits a who.id)), is); short = short }

open_batch : (number : ℕ) (a : OpeningState) (id : List ℕ) → IsBatch (open_of number a id)
open_batch number a id = record { fields = ((refl, cookie_fits a id), tt); short = opening_short number (cookie_of a id) (length-sha256 _) }

reply_batch : (a : OpeningState) → IsBatch (open_answer a)
reply_batch a = record { fields = (refl, tt); short = opening_answer_short 10 (first_of a) }

-- ---- what each leads to

-- an answer that leads to no end has room in a batch
answers_if : (expected next : Expected) (batch : List ℕ) → (answered expected next batch).ends ≡ None →
    (answered expected next batch ≡ answers (Opening next) (framed batch)) × (length batch < 2 ^ 16)
answers_if expected next batch goes = by (nat_lt (length batch) (2 ^ 16)) refl goes
  where
    by : (b : Bool) → nat_lt (length batch) (2 ^ 16) ≡ b → (cond b (answers (Opening next) (framed batch)) (stops (Opening expected) (Closed Invalid))).ends ≡ None →
        (cond b (answers (Opening next) (framed batch)) (stops (Opening expected) (Closed Invalid)) ≡ answers (Opening next) (framed batch)) × (length batch < 2 ^ 16)
    by true e goes = (refl, grind (arith, nat_tests, e))
    by false e goes = absurd cc

on_greeting : (a d : OpeningState) →
    on_trans a (Opening expects.Init) (greeting d) ≡ answered expects.Init (expects.Open (caller a d) (outbox_of a Router usual)) (writes_trans (host_answer a d))
on_greeting a d = refl

on_host_answer : (a d : OpeningState) →
    on_trans d (Opening expects.InitAnswer) (host_answer a d)
    ≡ answered expects.InitAnswer (expects.OpenAnswer (host a d) (outbox_of d Router usual)) (writes_trans (open_of (first_of d) a d.me))
on_host_answer a d = refl

on_open : (a d : OpeningState) →
    on_trans a (Opening (expects.Open (caller a d) (outbox_of a Router usual))) (open_of (first_of d) a d.me)
    ≡ gives (Established (established (accepted a d))) (event.Opened (caller a d) (outbox_of a Router usual))
on_open a d = rw (same_bytes (cookie_of a d.me), word_below d.word) refl

on_reply : (a d : OpeningState) →
    on_trans d (Opening (expects.OpenAnswer (host a d) (outbox_of d Router usual))) (open_answer a)
    ≡ gives (Established (established (dialled a d))) (event.Opened (host a d) (outbox_of d Router usual))
on_reply a d = rw (word_below a.word) refl

on_client_init : (a : OpeningState) (id : List ℕ) →
    on_trans a (Opening expects.Init) (client_init id) ≡ answered expects.Init (expects.Open (guest id) (outbox_of a Client usual)) (writes_trans (guest_answer a id))
on_client_init a id = refl

on_client_open : (a : OpeningState) (id : List ℕ) →
    on_trans a (Opening (expects.Open (guest id) (outbox_of a Client usual))) (open_of 0 a id)
    ≡ gives (Established (established (admitted a id))) (event.Opened (guest id) (outbox_of a Client usual))
on_client_open a id = rw (same_bytes (cookie_of a id)) refl

-- ---- a session that takes them

-- a message that is answered
answer_taken : (u : SessionState) (o : OpeningState) (expected next : Expected) (t : Trans) (batch : List ℕ) (events : List SessionEvent) (bytes : List ℕ) →
    on_trans o (Opening expected) t ≡ answered expected next batch → Takes u o (Opening expected) t events bytes →
    Stands u o (Opening next) × (bytes ≡ framed batch) × (length batch < 2 ^ 16)
answer_taken u o expected next t batch events bytes is h =
    let k = answers_if expected next batch (ap (λ (z : Course). z.ends) (sym is) ∙ h.goes) in
    let all : on_trans o (Opening expected) t ≡ answers (Opening next) (framed batch) = is ∙ k.0 in
    (subst (λ (z : Course). Stands u o z.phase) all h.stands, h.bytes_are ∙ ap (λ (z : Course). z.bytes) all, k.1)

-- one with which the session is open
opening_taken : (u : SessionState) (o : OpeningState) (p : Phase) (t : Trans) (at : opened.Opened) (events : List SessionEvent) (bytes : List ℕ) →
    on_trans o p t ≡ gives (Established (established at)) (event.Opened at.peer at.outbox) → Takes u o p t events bytes →
    Stands u o (Established (established at)) × (events ≡ event.Opened at.peer at.outbox ∷ [])
opening_taken u o p t at events bytes is h =
    (subst (λ (z : Course). Stands u o z.phase) is h.stands, h.events_are ∙ ap (λ (z : Course). z.events) is)

-- the answer to OPEN, which is owed by a session that has just opened
owed_reply : (u : SessionState) (o : OpeningState) (at : opened.Opened) (t : Trans) → u.confirmed ≡ false → Stands u o (Established (established at)) → at.answer ≡ Some t →
    owed_bytes u ≡ framed (writes_trans t)
owed_reply u o at t not h is = ap (λ b. if b then [] else owed_by u.state) not ∙ ap owed_by h.state ∙ ap written is

-- TWO ROUTERS open with each other.
pub routers_open : (a d : OpeningState) (acc acc1 acc2 dial dial1 dial2 : SessionState) (init init_answer opens b3 reply b4 : List ℕ) (e1 e2 e3 e4 : List SessionEvent) →
    is_zid a.me ≡ true → is_zid d.me ≡ true → Stands acc a (Opening expects.Init) → acc.confirmed ≡ false → Stands dial d (Opening expects.InitAnswer) →
    init ≡ framed (writes_trans (greeting d)) → TakesBatch acc acc1 init e1 init_answer → TakesBatch dial dial1 init_answer e2 opens → TakesBatch acc1 acc2 opens e3 b3 →
    reply ≡ owed_bytes acc2 → TakesBatch dial1 dial2 reply e4 b4 →
    Stands acc2 a (Established (established (accepted a d))) × Stands dial2 d (Established (established (dialled a d)))
    × (e3 ≡ event.Opened (caller a d) (outbox_of a Router usual) ∷ []) × (e4 ≡ event.Opened (host a d) (outbox_of d Router usual) ∷ [])
routers_open a d acc acc1 acc2 dial dial1 dial2 init init_answer opens b3 reply b4 e1 e2 e3 e4 a_is d_is acc_at not dial_at init_is one two three reply_is four =
    let first = answer_taken acc1 a expects.Init (expects.Open (caller a d) (outbox_of a Router usual)) (greeting d) (writes_trans (host_answer a d)) e1 init_answer (on_greeting a d)
    (one.1 a (Opening expects.Init) (greeting d) acc_at init_is (greeting_batch d d_is)) in
    let second = answer_taken dial1 d expects.InitAnswer (expects.OpenAnswer (host a d) (outbox_of d Router usual)) (host_answer a d)
    (writes_trans (open_of (first_of d) a d.me)) e2 opens (on_host_answer a d)
    (two.1 d (Opening expects.InitAnswer) (host_answer a d) dial_at first.1 (answer_batch a (caller a d) a_is first.2)) in
    let third = opening_taken acc2 a (Opening (expects.Open (caller a d) (outbox_of a Router usual))) (open_of (first_of d) a d.me) (accepted a d) e3 b3 (on_open a d)
    (three.1 a (Opening (expects.Open (caller a d) (outbox_of a Router usual))) (open_of (first_of d) a d.me) first.0 second.1 (open_batch (first_of d) a d.me)) in
    let owed : reply ≡ framed (writes_trans (open_answer a)) =
    reply_is ∙ owed_reply acc2 a (accepted a d) (open_answer a) (three.0 ∙ one.0 ∙ not) third.0 refl in
    let fourth = opening_taken dial2 d (Opening (expects.OpenAnswer (host a d) (outbox_of d Router usual))) (open_answer a) (dialled a d) e4 b4 (on_reply a d)
    (four.1 d (Opening (expects.OpenAnswer (host a d) (outbox_of d Router usual))) (open_answer a) second.0 owed (reply_batch a)) in
    (third.0, fourth.0, third.1, fourth.1)

-- A CLIENT opens with a router.
pub client_greeted : (a : OpeningState) (id : List ℕ) (acc acc1 : SessionState) (init init_answer : List ℕ) (e1 : List SessionEvent) →
    is_zid a.me ≡ true → is_zid id ≡ true → Stands acc a (Opening expects.Init) → init ≡ framed (writes_trans (client_init id)) → TakesBatch acc acc1 init e1 init_answer →
    Stands acc1 a (Opening (expects.Open (guest id) (outbox_of a Client usual))) × (init_answer ≡ framed (writes_trans (guest_answer a id))) × IsBatch (guest_answer a id)
client_greeted a id acc acc1 init init_answer e1 a_is id_is acc_at init_is one =
    let first = answer_taken acc1 a expects.Init (expects.Open (guest id) (outbox_of a Client usual)) (client_init id) (writes_trans (guest_answer a id)) e1 init_answer
    (on_client_init a id) (one.1 a (Opening expects.Init) (client_init id) acc_at init_is (client_batch id id_is)) in
    (first.0, first.1, answer_batch a (guest id) a_is first.2)

pub client_opens : (a : OpeningState) (id : List ℕ) (acc1 acc2 : SessionState) (opens b3 : List ℕ) (e3 : List SessionEvent) →
    Stands acc1 a (Opening (expects.Open (guest id) (outbox_of a Client usual))) → opens ≡ framed (writes_trans (open_of 0 a id)) → TakesBatch acc1 acc2 opens e3 b3 →
    Stands acc2 a (Established (established (admitted a id)))
client_opens a id acc1 acc2 opens b3 e3 acc_at open_is three =
    (opening_taken acc2 a (Opening (expects.Open (guest id) (outbox_of a Client usual))) (open_of 0 a id) (admitted a id) e3 b3 (on_client_open a id)
    (three.1 a (Opening (expects.Open (guest id) (outbox_of a Client usual))) (open_of 0 a id) acc_at open_is (open_batch 0 a id))).0

-- ---- a wire on which nothing is

-- Its session has just opened, and nothing was sent.
pub opened_leads : PackedMessagesAreReadBack → (u : SessionState) (o : OpeningState) (at : opened.Opened) (box : OutboxState) →
    Stands u o (Established (established at)) → box ≡ outbox_of_peer at → IsOutbox box → Leads at.peer.role box u []
opened_leads law u o at box h is outbox =
    let first = law.at_first at in
    let bytes : Comes u.opening (Opening h.first) (h.fed ++ []) h.course [] = rw (h.opening, append-nil h.fed) h.comes in record {
      first = h.first;
      fed = h.fed;
      so_far = h.course;
      at = rw (h.opening, h.state, h.kept) (h.comes, h.goes, h.at);
      all = h.course;
      comes = bytes;
      goes = h.goes;
      known = established at;
      hears = h.at ∙ ap (λ z. Established z) first.0 ∙ ap (λ (z : OutboxState). Established (hearing (established at) z)) (sym is);
      role_is = refl;
      outbox = outbox;
      names = subst (λ (z : OutboxState). AreNames z.names) (sym is) first.1;
    }

-- what an end sends by with the usual sizes is an outbox
usual_outbox : (o : OpeningState) → IsOutbox (outbox_of o Router usual)
usual_outbox o = record { large = omega arith; small = omega arith; two_bits = omega arith; in_range = mod-lt o.word (omega arith) }

-- TWO ROUTERS whose sessions have opened: each hears what the other sends by its outbox.
pub both_lead : PackedMessagesAreReadBack → (a d : OpeningState) (now : ℕ) (acc acc' dial dial' : SessionState) (init : List ℕ) (accepting dialling : OutboxState) →
    AreOpened acc acc' dial dial' init accepting dialling → is_zid a.me ≡ true → is_zid d.me ≡ true → acc ≡ begun expects.Init a now → dial ≡ begun expects.InitAnswer d now →
    init ≡ framed (writes_trans (greeting d)) → Leads Router dialling acc' [] × Leads Router accepting dial' []
both_lead law a d now acc acc' dial dial' init accepting dialling opens a_is d_is acc_is dial_is init_is =
    let acc_at : Stands acc a (Opening expects.Init) = subst (λ (z : SessionState). Stands z a (Opening expects.Init)) (sym acc_is) (begun_stands expects.Init a now) in
    let dial_at : Stands dial d (Opening expects.InitAnswer) = subst (λ (z : SessionState). Stands z d (Opening expects.InitAnswer)) (sym dial_is) (begun_stands expects.InitAnswer d now) in
    let k = opens a d a_is d_is acc_at (ap (λ (z : SessionState). z.confirmed) acc_is) dial_at init_is in (
      opened_leads law acc' a (accepted a d) dialling k.0 k.3 (subst (λ (z : OutboxState). IsOutbox z) (sym k.3) (usual_outbox d)),
      opened_leads law dial' d (dialled a d) accepting k.1 k.2 (subst (λ (z : OutboxState). IsOutbox z) (sym k.2) (usual_outbox a)),
    )

-- what a client sends by
abbrev guest_outbox : OutboxState
guest_outbox = record { batch = 65535; bits = 2; next = 0; names = None }

guest_is_outbox : IsOutbox guest_outbox
guest_is_outbox = record { large = omega arith; small = omega arith; two_bits = omega arith; in_range = omega arith }

-- A CLIENT for which a session has opened is heard.
pub client_leads : PackedMessagesAreReadBack → (a : OpeningState) (now : ℕ) (id : List ℕ) (acc acc' : SessionState) (box : OutboxState) → IsOpenedFor id acc acc' → is_zid a.me ≡ true →
    acc ≡ begun expects.Init a now → box ≡ guest_outbox → Leads Client box acc' []
client_leads law a now id acc acc' box opens a_is acc_is is =
    let acc_at : Stands acc a (Opening expects.Init) = subst (λ (z : SessionState). Stands z a (Opening expects.Init)) (sym acc_is) (begun_stands expects.Init a now) in
    opened_leads law acc' a (admitted a id) box (opens a a_is acc_at) is (subst (λ (z : OutboxState). IsOutbox z) (sym is) guest_is_outbox)

-- ---- a cookie

abbrev told_of : Read Trans → Option (List ℕ)
told_of (Ok r) = told_cookie r.0
told_of (Err e) = None

same_value : (x y : List ℕ) → Some x ≡ Some y → x ≡ y
same_value x y e = cc

-- The cookie of a client is the one in the answer to its INIT.
pub cookie_known : WrittenMessagesAreRead → (bytes batch after : List ℕ) (t : Trans) (k : List ℕ) → batch ≡ drop 2 bytes → trans_of batch ≡ Ok (t, after) → told_cookie t ≡ Some k →
    IsCookieIn bytes k
cookie_known law bytes batch after t k front read told a id is one =
    let whole : batch ≡ writes_trans (guest_answer a id) = front ∙ ap (λ z. drop 2 z) is in
    let again : trans_of batch ≡ Ok (guest_answer a id, []) = ap (λ z. trans_of z) whole ∙ read_again law (guest_answer a id) one in
    same_value k (cookie_of a id) (sym told ∙ ap (λ z. told_of z) (sym read ∙ again))
