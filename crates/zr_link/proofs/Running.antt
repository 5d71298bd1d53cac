-- A whole run, from its parts.
use Rattle.std.proofs.Common.{◌≡◌, ◌≢◌, ℕ, ◌≤◌, true, false, List, [], ◌∷◌, ◌++◌, Option, Some, None, Result, Ok, Err, IfOk, IfErr, OnErr, refl, sym, ap, subst, ◌∙◌, inl, inr, append_assoc, arith}
use Rattle.std.proofs.lemmas.List.{append-nil}
use mathlib.Core.List.{IsPrefix}
use Rattle.zr_id.specs.declared.link.LinkNo.{LinkNo}
use Rattle.zr_frame.specs.Outbox.{OutboxState}
use Rattle.zr_msg.specs.declared.event.Event.TheVariants as event
use Rattle.zr_msg.specs.declared.msg.Msg.{Msg}
use Rattle.zr_msg.specs.Peer.{PeerState}
use Rattle.zr_open.specs.declared.error.Reason.{Reason}
use Rattle.zr_open.specs.declared.expected.Expected.{Expected}
use Rattle.zr_open.specs.declared.expected.Expected.TheVariants.{Init, InitAnswer}
use Rattle.zr_open.specs.Opening.{OpeningState}
use Rattle.zr_hist.specs.declared.pass.Pass.{Pass}
use Rattle.zr_hist.specs.Words.{seen, mine}
use Rattle.zr_port.specs.declared.entry.Entry.{Entry}
use Rattle.zr_port.specs.declared.error.UpError.{UpError}
use Rattle.zr_port.specs.declared.error.UpError.TheVariants as up_error
use Rattle.zr_port.specs.declared.error.DeliverError.{DeliverError}
use Rattle.zr_port.specs.declared.error.DownError.{DownError}
use Rattle.zr_port.specs.declared.error.DownError.TheVariants as down_error
use Rattle.zr_port.specs.Adding.{Adds, IsEntryOf, IsAdmitted}
use Rattle.zr_session.specs.declared.event.SessionEvent.{SessionEvent}
use Rattle.zr_session.specs.declared.event.SessionEvent.TheVariants.{Opened}
use Rattle.zr_session.specs.declared.fate.Fate.{Fate}
use Rattle.zr_session.specs.declared.phase.Phase.{Phase}
use Rattle.zr_session.specs.declared.phase.Phase.TheVariants.{Opening}
use Rattle.zr_session.specs.Course.{Course, going, owed_in}
use Rattle.zr_session.specs.Stream.{Comes}
use Rattle.zr_session.specs.Session.{SessionState, IsAt, begun, is_running, owed_by, owed_bytes}
use Rattle.zr_session.proofs.Feeding.{comes_nothing}
use Rattle.zr_wire.specs.Writing.{IsSpelled}
use Rattle.zr_link.specs.declared.end.LinkEnd.{LinkEnd}
use Rattle.zr_link.specs.declared.end.LinkEnd.TheVariants as end
use Rattle.zr_link.specs.Ends.{end_of_up, reason_of, IsEarly}
use Rattle.zr_link.specs.Acts.{Act, Does, up, down, froms}
use Rattle.zr_port.specs.Coming.{Answering, Sight, sight, AddsOne, delivered}
use Rattle.zr_outside.specs.Told.{Appends}
use Rattle.zr_outside.proofs.Appending.{appends_both}
use Rattle.zr_outside.proofs.Counting.{rose_since}
use Rattle.zr_link.specs.Heard.{Takes, AreMessages, messages, HearsOn, HearsSomeOn, IsOpen, IsUnopened, IsIn, IsBegun, first_of}
use Rattle.zr_link.specs.Written.{Gives, Answered, IsWritten, Wrote, WroteAnswers, close_with}
use Rattle.zr_link.specs.Gone.{IsGone}
use Rattle.zr_link.specs.Run.{EarlyEnds, NotTaken, Enters, GoesDown, Runs}
use Rattle.zr_link.proofs.Hearing.{takes_none, takes_then, as_before, answers_stay}
use Rattle.zr_link.proofs.Unopened.{written_more}
use Rattle.zr_port.proofs.Coming.{looks_self, adds_one}
use Rattle.zr_link.proofs.Going.{does_none, does_then, added_does, through_does, does_entry, are_messages, ends_map, early_ends, Followed}

-- ---- the begin

begun_is : (P : SessionState → Type 0) (s : SessionState) (first : List ℕ) → ((e : Expected) (o : OpeningState) (now : ℕ) → P (begun e o now)) → IsBegun s first → P s
begun_is P s first h (now, inl is) = subst P (sym is.0) (h Init s.opening now)
begun_is P s first h (now, inr is) = subst P (sym is.0) (h InitAnswer s.opening now)

pub begun_at : (s : SessionState) (first : List ℕ) → IsBegun s first → IsAt (first_of s.state) s [] (going (Opening (first_of s.state)))
begun_at s first = begun_is (λ z. IsAt (first_of z.state) z [] (going (Opening (first_of z.state)))) s first (λ e o now. (comes_nothing o (Opening e), refl, refl))

pub begun_runs : (s : SessionState) (first : List ℕ) → IsBegun s first → is_running s.state ≡ true
begun_runs s first = begun_is (λ z. is_running z.state ≡ true) s first (λ e o now. refl)

pub begun_unopened : (s : SessionState) (first : List ℕ) → IsBegun s first → IsIn IsUnopened s
begun_unopened s first h = (first_of s.state, [], going (Opening (first_of s.state)), tt, begun_at s first h, tt)

pub begun_unconfirmed : (s : SessionState) (first : List ℕ) → IsBegun s first → s.confirmed ≡ false
begun_unconfirmed s first = begun_is (λ z. z.confirmed ≡ false) s first (λ e o now. refl)

-- what a session that no peer has confirmed owes
owed_is : (s : SessionState) (p : Phase) → s.confirmed ≡ false → owed_by s.state ≡ owed_in p → owed_bytes s ≡ owed_in p
owed_is s p none is = rw none is

-- ---- what was written

-- what was written before, and this behind it
pub wrote_more : {K : Type 0} (held : K → Option (List ℕ)) (faults : K → ℕ) (e : LinkEnd) (xs ys : List ℕ) (old mid : K) (r : Option K) → Appends xs (held old) (held mid) → faults mid ≡ faults old
    → Wrote held faults e ys mid r → Wrote held faults e (xs ++ ys) old r
wrote_more held faults e xs ys old mid None a same h = (h.0, appends_both xs ys (held old) (held mid) (held h.0) a h.1, h.2 ∙ same)
wrote_more held faults e xs ys old mid (Some new) a same h =
    written_more e xs ys (held old) (held mid) (held new) _ _ a (λ k. rose_since (faults old) (faults mid) (faults new) (omega (arith, same)) k) h

-- the same in three parts
pub wrote_parts : {K : Type 0} (held : K → Option (List ℕ)) (faults : K → ℕ) (e : LinkEnd) (first xs ys owed : List ℕ) (old mid last : K) (r : Option K) → Appends first (held old) (held mid) → faults mid ≡ faults old
    → Appends xs (held mid) (held last) → faults last ≡ faults mid → Wrote held faults e (ys ++ owed) last r → Wrote held faults e (first ++ ((xs ++ ys) ++ owed)) old r
wrote_parts held faults e first xs ys owed old mid last r a same b more h =
    subst (λ z. Wrote held faults e (first ++ z) old r) (sym (append_assoc xs ys owed))
    (wrote_more held faults e first (xs ++ (ys ++ owed)) old mid r a same (wrote_more held faults e xs (ys ++ owed) mid last r b more h))

-- ---- down

-- `down` was called, and answered
pub leaves : (link : LinkNo) (e : LinkEnd) (old new : Pass Entry) (refuses : List Entry → LinkNo → DownError → Type 0) (called : Answering) (Gone : Type 0) (r : Result (Unit {0}) DownError)
    → called link (reason_of e) (sight old) (sight new) r
    → IfOk r (λ _. Adds old new (λ before x. IsEntryOf (event.Down link) None (reason_of e) x × IsAdmitted (refuses before link)))
    → IfErr r (λ x. x ≢ down_error.NoMemory → refuses (seen new) link x) → OnErr r (mine new ≡ mine old) → IsPrefix (seen old) (seen new)
    → (downs : List Act) × GoesDown link e (λ x. refuses (seen new) link x) called Gone downs (sight old) (sight new) × Does downs (mine old) (mine new)
leaves link e old new refuses called Gone (Ok u) a h k same p =
    (down link (reason_of e) ∷ [], inl (Ok u, a, (refl, adds_one old new (event.Down link) None (reason_of e) _ h (λ b x q. q.0))), does_entry (mine old) (mine new) h.entry (event.Down link) None (reason_of e) h.own h.says.0)
leaves link e old new refuses called Gone (Err x) a h k same p = ([], inl (Err x, a, (refl, (same, p), k)), subst (λ z. Does [] (mine old) z) (sym same) (does_none (mine old)))

-- why the link is gone is told otherwise
pub goes_map : (link : LinkNo) (e : LinkEnd) (refuses : DownError → Type 0) (called : Answering) (G H : Type 0) (downs : List Act) (a b : Sight) → (G → H)
    → GoesDown link e refuses called G downs a b → GoesDown link e refuses called H downs a b
goes_map link e refuses called G H downs a b f (inl call) = inl call
goes_map link e refuses called G H downs a b f (inr gone) = inr (gone.0, gone.1, f gone.2)

-- ---- a link that came up

-- it went on until it went down
pub enters_followed : (peer : PeerState) (outbox : OutboxState) (s : SessionState) (waiting : List SessionEvent) (f : Fate) (e : LinkEnd) (before after : Option (List ℕ)) (L : Phase → Type 0) (W : List ℕ → Type 0)
    (refuses_up : List Entry → PeerState → UpError → Type 0) (refuses : List Entry → LinkNo → Msg → DeliverError → Type 0) (refuses_down : List Entry → LinkNo → DownError → Type 0) (called : Answering)
    (old mid last new : Pass Entry) (link : LinkNo) → AddsOne (event.Up link peer) (Some outbox) None (sight old) (sight mid) → Followed link s waiting f e before after L refuses (sight mid) (sight last)
    → IsPrefix (seen last) (seen new) → (downs : List Act)
    → GoesDown link e (λ x. refuses_down (seen new) link x) called (IsGone (λ m x. refuses (seen last) link m x)) downs (sight last) (sight new) → Does downs (mine last) (mine new)
    → W (owed_bytes s) → Enters peer outbox s waiting f e before after L W refuses_up refuses refuses_down called old new
enters_followed peer outbox s waiting f e before after L W refuses_up refuses refuses_down called old mid last new link upon g prefix downs goes does handed =
    inr (inr (
      link,
      g.came,
      downs,
      does_then (up link peer outbox ∷ []) (froms link (delivered g.came) ++ downs) (mine old) (mine mid) (mine new) (added_does (event.Up link peer) (Some outbox) None (sight old) (sight mid) upon)
          (does_then (froms link (delivered g.came)) downs (mine mid) (mine last) (mine new) (through_does link (λ h m x. refuses h link m x) g.came (sight mid) (sight last) g.goes) does),
      handed,
      (
        sight mid,
        sight last,
        upon,
        g.goes,
        prefix,
        (does.0, sym does.1),
        g.follows,
        goes,
      ),
    ))

-- its writer wasn't started. Of what was given to be written the CLOSE was left out
pub enters_early : (peer : PeerState) (outbox : OutboxState) (s : SessionState) (waiting : List SessionEvent) (f : Fate) (e : LinkEnd) (before : Option (List ℕ)) (L : Phase → Type 0)
    (refuses_up : List Entry → PeerState → UpError → Type 0) (refuses : List Entry → LinkNo → Msg → DeliverError → Type 0) (refuses_down : List Entry → LinkNo → DownError → Type 0) (called : Answering)
    (old mid new : Pass Entry) (link : LinkNo) (fed left : List ℕ) (held now : Option (List ℕ)) (F : Type 0) → AddsOne (event.Up link peer) (Some outbox) None (sight old) (sight mid) → IsPrefix (seen mid) (seen new) → IsEarly e
    → (downs : List Act) → GoesDown link e (λ x. refuses_down (seen new) link x) called ⊥ downs (sight mid) (sight new) → Does downs (mine mid) (mine new)
    → ((answers : List ℕ) → fed ≡ answers ++ close_with f → left ≡ answers) → IsWritten e (left ++ owed_bytes s) held now F
    → Enters peer outbox s waiting f e before before L (λ owed. (answers : List ℕ) → fed ≡ answers ++ close_with f → IsWritten e (answers ++ owed) held now F) refuses_up refuses refuses_down called old new
enters_early peer outbox s waiting f e before L refuses_up refuses refuses_down called old mid new link fed left held now F upon prefix early downs goes does without writes =
    inr (inl (
      link,
      downs,
      does_then (up link peer outbox ∷ []) downs (mine old) (mine mid) (mine new) (added_does (event.Up link peer) (Some outbox) None (sight old) (sight mid) upon) does,
      early,
      refl,
      λ answers is. subst (λ z. IsWritten e (z ++ owed_bytes s) held now F) (without answers is) writes,
      (sight mid, upon, prefix, (does.0, sym does.1), goes),
    ))

-- ---- the whole

early_map : (e : LinkEnd) (c : Course) (events : List SessionEvent) (L M : Phase → Type 0) (R : Reason → Type 0) → ((p : Phase) → L p → M p) → c.events ≡ events → EarlyEnds e c events L (λ r. ⊥) → EarlyEnds e c c.events M R
early_map e c events L M R late is h = subst (λ z. EarlyEnds e c z M R) (sym is) (by e h)
  where
    by : (e : LinkEnd) → EarlyEnds e c events L (λ r. ⊥) → EarlyEnds e c events M R
    by end.ReadFault h = h
    by end.WriteFault h = h
    by end.PeerEnded h = h
    by (end.Closed reason) (inl (inl k, none)) = inl (inl k, none)
    by (end.Closed reason) (inl (inr k, none)) = inl (inr (k.0, k.1, late c.phase k.2), none)
    by (end.Closed reason) (inr h) = absurd h
    by (end.Peer reason) h = h
    by end.CrewRefused h = absurd h
    by end.Turns h = h
    by end.NoMemory h = tt

-- it ended before the session opened
pub runs_early : (s : SessionState) (text : List ℕ) (e : LinkEnd) (before after held now : Option (List ℕ)) (L : Phase → Type 0) (W : List ℕ → Type 0) (F : Type 0)
    (refuses_up : List Entry → PeerState → UpError → Type 0) (refuses : List Entry → LinkNo → Msg → DeliverError → Type 0) (refuses_down : List Entry → LinkNo → DownError → Type 0) (called : Answering) (pass : Pass Entry)
    → IsBegun s text → HearsSomeOn s before after (λ c d events. EarlyEnds e d events L (λ r. ⊥) × WroteAnswers e c d held now F) → ((answers : List ℕ) → IsWritten e answers held now F → W answers)
    → Runs s e before after L W refuses_up refuses refuses_down called pass pass
runs_early s text e before after held now L W F refuses_up refuses refuses_down called pass begins h writes =
    let x = h (first_of s.state) [] (going (Opening (first_of s.state))) tt (begun_at s text begins) in
    record {
      bytes = x.1.piece;
      course = x.1.course;
      rest = x.1.rest;
      taken = x.1.taken;
      comes = x.1.comes;
      made = inl (record { does = refl; why = early_map e x.1.course x.0 L L _ (λ p k. k) x.1.events_are x.2.0; writes = subst W (sym x.2.1.1) (writes x.2.1.0 x.2.1.2) });
    }

-- no reader ends for its crew before the session opens
pub early_not_refused : (s : SessionState) (text : List ℕ) (e : LinkEnd) (before after held now : Option (List ℕ)) (L : Phase → Type 0) (R : Reason → Type 0) (F : Type 0)
    → IsBegun s text → HearsSomeOn s before after (λ c d events. EarlyEnds e d events L R × WroteAnswers e c d held now F) → e ≡ end.CrewRefused → ⊥
early_not_refused s text e before after held now L R F begins h is =
    let x = h (first_of s.state) [] (going (Opening (first_of s.state))) tt (begun_at s text begins) in
    subst (λ z. EarlyEnds z x.1.course x.0 L R) is x.2.0

-- nothing was read
pub runs_nothing : (s : SessionState) (text : List ℕ) (e : LinkEnd) (before : Option (List ℕ)) (L : Phase → Type 0) (W : List ℕ → Type 0)
    (refuses_up : List Entry → PeerState → UpError → Type 0) (refuses : List Entry → LinkNo → Msg → DeliverError → Type 0) (refuses_down : List Entry → LinkNo → DownError → Type 0) (called : Answering) (pass : Pass Entry)
    → IsBegun s text → EarlyEnds e (going (Opening (first_of s.state))) [] L (λ r. NotTaken refuses_up (seen pass) [] r) → W [] → Runs s e before before L W refuses_up refuses refuses_down called pass pass
runs_nothing s text e before L W refuses_up refuses refuses_down called pass begins why writes = record {
  bytes = [];
  course = going (Opening (first_of s.state));
  rest = [];
  taken = takes_none before before (as_before before);
  comes = comes_nothing s.opening (Opening (first_of s.state));
  made = inl (record { does = refl; why = why; writes = writes });
}

not_taken : (error : UpError) (c : Course) (peer : PeerState) (outbox : OutboxState) (ms : List Msg) (L : Phase → Type 0) (refuses_up : List Entry → PeerState → UpError → Type 0) (sees : List Entry)
    → c.events ≡ Opened peer outbox ∷ messages ms → (error ≢ up_error.NoMemory → refuses_up sees peer error) → EarlyEnds (end_of_up error) c c.events L (λ r. NotTaken refuses_up sees c.events r)
not_taken (up_error.Full sessions routers) c peer outbox ms L refuses_up sees is r =
    inr (record { peer = peer; outbox = outbox; msgs = ms; error = up_error.Full sessions routers; opens = is; refused = r (λ e. absurd cc); ends = refl })
not_taken up_error.Twice c peer outbox ms L refuses_up sees is r =
    inr (record { peer = peer; outbox = outbox; msgs = ms; error = up_error.Twice; opens = is; refused = r (λ e. absurd cc); ends = refl })
not_taken up_error.Worn c peer outbox ms L refuses_up sees is r =
    inr (record { peer = peer; outbox = outbox; msgs = ms; error = up_error.Worn; opens = is; refused = r (λ e. absurd cc); ends = refl })
not_taken up_error.NoMemory c peer outbox ms L refuses_up sees is r = tt

-- what was answered at once and the answer to OPEN
answers_are : (c m d : Course) (xs ys : List ℕ) → c.bytes ≡ [] → m.bytes ≡ c.bytes ++ xs → d.bytes ≡ m.bytes ++ ys → xs ++ ys ≡ d.bytes
answers_are c m d xs ys none a b = sym (b ∙ ap (λ z. z ++ ys) (a ∙ ap (λ z. z ++ xs) none))

-- the same with the answer to OPEN behind them, which an open session owes to its end
answers_behind : (t : SessionState) (c m d : Course) (xs ys : List ℕ) → t.confirmed ≡ false → owed_by t.state ≡ owed_in d.phase → c.bytes ≡ [] → m.bytes ≡ c.bytes ++ xs → d.bytes ≡ m.bytes ++ ys
    → (xs ++ ys) ++ owed_bytes t ≡ d.bytes ++ owed_in d.phase
answers_behind t c m d xs ys none owes empty a b = ap (λ z. z ++ owed_bytes t) (answers_are c m d xs ys empty a b) ∙ ap (λ z. d.bytes ++ z) (owed_is t d.phase none owes)

-- the session opened
pub runs_entered : (s t : SessionState) (text fed : List ℕ) (peer : PeerState) (outbox : OutboxState) (waiting : List SessionEvent) (f : Fate) (e : LinkEnd) (before mid after held now : Option (List ℕ)) (L M : Phase → Type 0) (V W : List ℕ → Type 0)
    (refuses_up : List Entry → PeerState → UpError → Type 0) (refuses : List Entry → LinkNo → Msg → DeliverError → Type 0) (refuses_down : List Entry → LinkNo → DownError → Type 0) (called : Answering) (old new : Pass Entry)
    → IsBegun s text → t.opening ≡ s.opening → t.confirmed ≡ s.confirmed → ((p : Phase) → L p → M p) → AreMessages IsSpelled waiting
    → HearsOn s (Opened peer outbox ∷ waiting) before mid (λ first bytes c d. IsOpen d.phase × ((m : Course) × Answered c m held now × Gives f t fed (λ p. ⊥) first bytes m d))
    → ((xs ys owed : List ℕ) → Appends xs held now → fed ≡ ys ++ close_with f → V owed → W ((xs ++ ys) ++ owed))
    → Enters peer outbox t waiting f e mid after L V refuses_up refuses refuses_down called old new → Runs s e before after M W refuses_up refuses refuses_down called old new
runs_entered s t text fed peer outbox waiting f e before mid after held now L M V W refuses_up refuses refuses_down called old new begins same unconfirmed late are h writes (inl taken_) =
    let x = h (first_of s.state) [] (going (Opening (first_of s.state))) tt (begun_at s text begins) in
    let ms = are_messages IsSpelled waiting are in
    let is : x.0.course.events ≡ Opened peer outbox ∷ messages ms.0 = x.0.events_are ∙ ap (λ z. Opened peer outbox ∷ z) ms.1 in
    let a = x.1.1.1 in
    let b = x.1.1.2 in
    let all = answers_are (going (Opening (first_of s.state))) x.1.1.0 x.0.course a.0 b.answers refl a.1 b.answered in
    record {
      bytes = x.0.piece;
      course = x.0.course;
      rest = x.0.rest;
      taken = subst (λ z. Takes x.0.piece before z) (sym taken_.1) x.0.taken;
      comes = x.0.comes;
      made = inl (record {
        does = taken_.0;
        why = subst (λ z. EarlyEnds z x.0.course x.0.course.events M (λ r. NotTaken refuses_up (seen new) x.0.course.events r)) (sym taken_.2.2) (not_taken taken_.2.0 x.0.course peer outbox ms.0 M refuses_up (seen new) is taken_.2.1);
        writes = subst W (append-nil (a.0 ++ b.answers) ∙ all) (writes a.0 b.answers [] a.2 b.fed_are taken_.3);
      });
    }
runs_entered s t text fed peer outbox waiting f e before mid after held now L M V W refuses_up refuses refuses_down called old new begins same unconfirmed late are h writes (inr (inl on)) =
    let x = h (first_of s.state) [] (going (Opening (first_of s.state))) tt (begun_at s text begins) in
    let ms = are_messages IsSpelled waiting are in
    let a = x.1.1.1 in
    let b = x.1.1.2 in
    let behind = answers_behind t (going (Opening (first_of s.state))) x.1.1.0 x.0.course a.0 b.answers (unconfirmed ∙ begun_unconfirmed s text begins) b.owes refl a.1 b.answered in
    record {
      bytes = x.0.piece;
      course = x.0.course;
      rest = x.0.rest;
      taken = subst (λ z. Takes x.0.piece before z) (sym on.4) x.0.taken;
      comes = x.0.comes;
      made = inr (record {
        link = on.0;
        peer = peer;
        outbox = outbox;
        came = [];
        others = ms.0;
        downs = on.1;
        begun = on.6.0;
        last = on.6.0;
        upon = on.6.1;
        goes = looks_self on.6.0;
        behind = on.6.2;
        own = on.6.3;
        events_are = x.0.events_are ∙ ap (λ z. Opened peer outbox ∷ z) ms.1;
        does = on.2;
        goes_down = goes_map on.0 e _ called ⊥ _ on.1 on.6.0 (sight new) (λ z. absurd z) on.6.4;
        why = early_ends e x.0.course ms.0 ([] ≡ []) M _ on.3 refl;
        writes = subst W behind (writes a.0 b.answers (owed_bytes t) a.2 b.fed_are on.5);
      });
    }
runs_entered s t text fed peer outbox waiting f e before mid after held now L M V W refuses_up refuses refuses_down called old new begins same unconfirmed late are h writes (inr (inr on)) =
    let x = h (first_of s.state) [] (going (Opening (first_of s.state))) tt (begun_at s text begins) in
    let come = subst (λ z. Comes z (Opening (first_of s.state)) x.0.piece x.0.course x.0.rest) (sym same) x.0.comes in
    let a = x.1.1.1 in
    let b = x.1.1.2 in
    let behind = answers_behind t (going (Opening (first_of s.state))) x.1.1.0 x.0.course a.0 b.answers (unconfirmed ∙ begun_unconfirmed s text begins) b.owes refl a.1 b.answered in
    let y = on.5.6 (first_of s.state) x.0.piece x.0.rest x.0.course x.0.are_bytes come x.1.0 x.1.1.2.fate_is x.1.1.2.stands in
    record {
      bytes = x.0.piece ++ y.2.piece;
      course = y.2.course;
      rest = y.2.rest;
      taken = takes_then x.0.piece y.2.piece before mid after x.0.taken y.2.taken;
      comes = subst (λ z. Comes z (Opening (first_of s.state)) (x.0.piece ++ y.2.piece) y.2.course y.2.rest) same y.2.comes;
      made = inr (record {
        link = on.0;
        peer = peer;
        outbox = outbox;
        came = on.1;
        others = y.1;
        downs = on.2;
        begun = on.5.0;
        last = on.5.1;
        upon = on.5.2;
        goes = on.5.3;
        behind = on.5.4;
        own = on.5.5;
        events_are = y.2.events_are ∙ ap (λ z. z ++ y.0) x.0.events_are ∙ ap (λ z. Opened peer outbox ∷ z) y.3;
        does = on.3;
        goes_down = on.5.7;
        why = ends_map e y.2.course y.1 ⊥ (on.1 ≡ []) L M _ _ (λ z. absurd z) late (λ r z. z) y.4;
        writes = subst W (behind ∙ sym (answers_stay (first_of s.state) t.opening x.0.piece y.2.piece x.0.rest y.2.rest x.0.course y.2.course come x.1.0 y.2.comes)) (writes a.0 b.answers (owed_bytes t) a.2 b.fed_are on.4);
      });
    }
