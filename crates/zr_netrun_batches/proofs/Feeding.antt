-- A session reads on along its wire.
use Rattle.std.proofs.Common.{◌≡◌, ◌∙◌, ap, refl, sym, subst, ℕ, ◌≤◌, length, arith, Bool, true, false, List, [], ◌∷◌, ◌++◌, drop, append_assoc, append-nil, Option, Some, None, Result, Ok, Err}
use Rattle.std.specs.Option.{option_to_list}
use Rattle.std.specs.Prelude.{slice_get, is_err, OnOk}
use Rattle.std.proofs.lemmas.List.{append_cancel_left}
use Rattle.std.proofs.lemmas.Grind.{flat_map-append}
use Rattle.zr_msg.specs.declared.msg.Msg.{Msg}
use Rattle.zr_msg.specs.declared.peer.Role.{Role}
use Rattle.zr_frame.specs.Outbox.{OutboxState}
use Rattle.zr_open.specs.declared.expected.Expected.{Expected}
use Rattle.zr_open.specs.Opening.{OpeningState}
use Rattle.zr_session.specs.declared.event.Fed.{Fed}
use Rattle.zr_session.specs.declared.event.SessionEvent.{SessionEvent}
use Rattle.zr_session.specs.declared.fate.End.{End}
use Rattle.zr_session.specs.declared.phase.Phase.{Phase}
use Rattle.zr_session.specs.declared.phase.Phase.TheVariants.{Opening}
use Rattle.zr_session.specs.declared.state.State.{State}
use Rattle.zr_session.specs.declared.state.State.TheVariants.{Running, Ended, Spent}
use Rattle.zr_session.specs.Course.{Course, joined}
use Rattle.zr_session.specs.Stream.{Comes}
use Rattle.zr_session.specs.Session.{SessionState, IsAt, Stands, Feeds}
use Rattle.zr_session.proofs.Pieces.{comes_more, comes_ended, comes_some}
use Rattle.zr_session.proofs.Calls.{comes_at, comes_one}
use Rattle.zr_netrun_batches.specs.Coming.{message_of, messages_in, course_of, coming_to, coming, Leads, CameLast, Hears, GoesOn}
use Rattle.zr_netrun_batches.specs.Line.{LineState, line_of, with_sent, without_first}

pub messages_append : (xs ys : List SessionEvent) → messages_in (xs ++ ys) ≡ messages_in xs ++ messages_in ys
messages_append xs ys = flat_map-append (λ e. message_of e) xs ys

-- ---- what is left of all bytes

-- it leads where all lead
pub left : (first : Expected) (o : OpeningState) (p : Phase) (kept fed bytes : List ℕ) (c all : Course) →
    Stands first o (Running p) kept fed c → Comes o (Opening first) (fed ++ bytes) all [] → joined None c (course_of o p (kept ++ bytes)) ≡ all
left first o p kept fed bytes c all h k =
    let x = comes_some o p (kept ++ bytes) in
    let next : Comes o c.phase (kept ++ bytes) x.0 x.1 = rw h.2 x.2 in
    let whole : Comes o (Opening first) (fed ++ bytes) (joined None c x.0) x.1 = comes_more o (Opening first) fed bytes kept x.1 c x.0 h.0 h.1 next in
    (comes_one o (Opening first) (fed ++ bytes) x.1 [] (joined None c x.0) all whole k).0

-- a stream that is within another one, which leads to no end, has not ended
pub not_ended : (first : Expected) (o : OpeningState) (fed bytes rest : List ℕ) (c all : Course) (how : End) (G : Type 0) →
    Comes o (Opening first) fed c rest → c.ends ≡ Some how → Comes o (Opening first) (fed ++ bytes) all [] → all.ends ≡ None → G
not_ended first o fed bytes rest c all how G h e k goes =
    let whole = comes_ended o (Opening first) fed bytes rest c how h e in
    let same : c ≡ all = (comes_one o (Opening first) (fed ++ bytes) whole.0 [] c all whole.1 k).0 in
    let ends : Some how ≡ None = sym e ∙ ap (λ (z : Course). z.ends) same ∙ goes in
    absurd cc

-- ---- one piece

-- what was coming is what was given, and what is coming still
piece_by : (first : Expected) (o : OpeningState) (st t : State) (kept after fed piece bytes : List ℕ) (c d all : Course) (events : List SessionEvent) →
    Stands first o st kept fed c → Stands first o t after (fed ++ piece) d → Comes o (Opening first) ((fed ++ piece) ++ bytes) all [] → all.ends ≡ None →
    d.events ≡ c.events ++ events → coming_to o st kept (piece ++ bytes) ≡ messages_in events ++ coming_to o t after bytes
piece_by first o (Running p) (Running q) kept after fed piece bytes c d all events h k whole goes given =
    let before = left first o p kept fed (piece ++ bytes) c all h (rw (sym (append_assoc fed piece bytes)) whole) in
    let behind = left first o q after (fed ++ piece) bytes d all k whole in
    let x : Course = course_of o p (kept ++ (piece ++ bytes)) in
    let y : Course = course_of o q (after ++ bytes) in
    let all_events : c.events ++ x.events ≡ c.events ++ (events ++ y.events) =
    ap (λ (z : Course). z.events) (before ∙ sym behind) ∙ ap (λ z. z ++ y.events) given ∙ append_assoc c.events events y.events in
    ap (λ z. messages_in z) (append_cancel_left c.events x.events (events ++ y.events) all_events) ∙ messages_append events y.events
piece_by first o (Running p) (Ended how owed) kept after fed piece bytes c d all events h k whole goes given =
    not_ended first o (fed ++ piece) bytes k.0 d all how _ k.1 k.2 whole goes
piece_by first o (Running p) Spent kept after fed piece bytes c d all events h k whole goes given = absurd k
piece_by first o (Ended how owed) t kept after fed piece bytes c d all events h k whole goes given =
    not_ended first o fed (piece ++ bytes) h.0 c all how _ h.1 h.2 (rw (sym (append_assoc fed piece bytes)) whole) goes
piece_by first o Spent t kept after fed piece bytes c d all events h k whole goes given = absurd h

-- A PIECE of the wire was fed.
pub piece_fed : (role : Role) (box : OutboxState) (s t : SessionState) (piece bytes : List ℕ) (old new : Fed) →
    Leads role box s (piece ++ bytes) → Feeds s t piece old new → old.events.items ≡ [] →
    Leads role box t bytes × (coming s (piece ++ bytes) ≡ messages_in new.events.items ++ coming t bytes)
piece_fed role box s t piece bytes old new h f none =
    let on = f.on h.first h.fed h.so_far h.at in
    let d : Course = on.0 in
    let g = on.2 in
    let whole : Comes s.opening (Opening h.first) ((h.fed ++ piece) ++ bytes) h.all [] = rw (append_assoc h.fed piece bytes) h.comes in
    let there : Stands h.first s.opening t.state t.kept (h.fed ++ piece) d = subst (λ (z : OpeningState). Stands h.first z t.state t.kept (h.fed ++ piece) d) f.opening on.1 in
    let given : new.events.items ≡ g.events = g.new_events ∙ ap (λ z. z ++ g.events) none in (
      record {
        first = h.first;
        fed = h.fed ++ piece;
        so_far = d;
        at = on.1;
        all = h.all;
        comes = subst (λ (z : OpeningState). Comes z (Opening h.first) ((h.fed ++ piece) ++ bytes) h.all []) (sym f.opening) whole;
        goes = h.goes;
        known = h.known;
        hears = h.hears;
        role_is = h.role_is;
        outbox = h.outbox;
        names = h.names;
      },
      piece_by h.first s.opening s.state t.state s.kept t.kept h.fed piece bytes h.so_far d h.all g.events h.at there whole h.goes g.are_events
          ∙ ap (λ z. messages_in z ++ coming_to s.opening t.state t.kept bytes) (sym given)
          ∙ ap (λ (z : OpeningState). messages_in new.events.items ++ coming_to z t.state t.kept bytes) (sym f.opening),
    )

-- what it gave came with its last bytes
pub piece_came : (role : Role) (box : OutboxState) (s t : SessionState) (piece bytes : List ℕ) (old new : Fed) →
    Leads role box s bytes → Feeds s t piece old new → old.events.items ≡ [] → length piece ≤ 64 → CameLast t (messages_in new.events.items)
piece_came role box s t piece bytes old new h f none short =
    let on = f.on h.first h.fed h.so_far h.at in
    let g = on.2 in
    let early = comes_at h.first s.opening s.state s.kept h.fed h.so_far h.at in
    let given : new.events.items ≡ g.events = g.new_events ∙ ap (λ z. z ++ g.events) none in
    record {
      first = h.first;
      early = h.fed;
      piece = piece;
      short = short;
      before = h.so_far;
      kept = early.0;
      comes = subst (λ (z : OpeningState). Comes z (Opening h.first) h.fed h.so_far early.0) (sym f.opening) early.1;
      so_far = on.0;
      at = on.1;
      others = [];
      given_are = ap (λ z. messages_in z) g.are_events ∙ messages_append h.so_far.events g.events ∙ ap (λ z. messages_in h.so_far.events ++ messages_in z) (sym given);
    }

-- a session that has given nothing
pub nothing_came : (role : Role) (box : OutboxState) (s : SessionState) (bytes : List ℕ) → Leads role box s bytes → CameLast s []
nothing_came role box s bytes h =
    let early = comes_at h.first s.opening s.state s.kept h.fed h.so_far h.at in
    record {
      first = h.first;
      early = h.fed;
      piece = [];
      short = omega arith;
      before = h.so_far;
      kept = early.0;
      comes = early.1;
      so_far = h.so_far;
      at = subst (λ z. IsAt h.first s z h.so_far) (sym (append-nil h.fed)) h.at;
      others = [];
      given_are = sym (append-nil (messages_in h.so_far.events));
    }

-- the oldest message was taken
pub came_but_oldest : (s : SessionState) (r : Option Msg) (ready left : List Msg) → ready ≡ option_to_list r ++ left → CameLast s ready → CameLast s left
came_but_oldest s r ready left is h = record {
  first = h.first;
  early = h.early;
  piece = h.piece;
  short = h.short;
  before = h.before;
  kept = h.kept;
  comes = h.comes;
  so_far = h.so_far;
  at = h.at;
  others = h.others ++ option_to_list r;
  given_are = h.given_are ∙ ap (λ z. messages_in h.before.events ++ (h.others ++ z)) is
      ∙ ap (λ z. messages_in h.before.events ++ z) (sym (append_assoc h.others (option_to_list r) left));
}

-- nothing was fed
pub goes_nowhere : (s : SessionState) (bytes : List ℕ) (before : List Msg) → GoesOn s bytes before s bytes before
goes_nowhere s bytes before role box h = (h, refl, λ k. k)

-- one piece more, where all messages that the session had given were taken
pub goes_more : (first s t : SessionState) (all bytes piece rest : List ℕ) (before behind later : List Msg) → bytes ≡ piece ++ rest → length piece ≤ 64 → behind ≡ [] →
    GoesOn first all before s bytes behind → Hears s t piece behind later → GoesOn first all before t rest later
goes_more first s t all bytes piece rest before behind later split short none so_far heard role box h =
    let k = so_far role box h in
    let mine : Leads role box s (piece ++ rest) = subst (λ z. Leads role box s z) split k.0 in
    let next = piece_fed role box s t piece rest heard.0 heard.1 mine heard.2 heard.3 in (
      next.0,
      k.1 ∙ ap (λ z. behind ++ coming s z) split ∙ ap (λ z. behind ++ z) next.1
          ∙ sym (append_assoc behind (messages_in heard.1.events.items) (coming t rest)) ∙ ap (λ z. z ++ coming t rest) (sym heard.4),
      λ _. subst (λ z. CameLast t z) (sym (heard.4 ∙ ap (λ z. z ++ messages_in heard.1.events.items) none))
          (piece_came role box s t piece bytes heard.0 heard.1 k.0 heard.2 heard.3 short),
    )

-- ---- the end of the wire

end_by : (first : Expected) (o : OpeningState) (st : State) (kept fed : List ℕ) (c all : Course) →
    Stands first o st kept fed c → Comes o (Opening first) (fed ++ []) all [] → all.ends ≡ None → coming_to o st kept [] ≡ []
end_by first o (Running p) kept fed c all h k goes =
    let x : Course = course_of o p (kept ++ []) in
    let whole = left first o p kept fed [] c all h k in
    let here : Comes o (Opening first) fed all [] = subst (λ z. Comes o (Opening first) z all []) (append-nil fed) k in
    let same : c ≡ all = (comes_one o (Opening first) fed kept [] c all h.0 here).0 in
    let events : c.events ++ x.events ≡ c.events ++ [] = ap (λ (z : Course). z.events) (whole ∙ sym same) ∙ sym (append-nil c.events) in
    ap (λ z. messages_in z) (append_cancel_left c.events x.events [] events)
end_by first o (Ended how owed) kept fed c all h k goes = refl
end_by first o Spent kept fed c all h k goes = refl

-- Where no bytes are left, no message is coming.
pub nothing_coming : (role : Role) (box : OutboxState) (s : SessionState) → Leads role box s [] → coming s [] ≡ []
nothing_coming role box s h = end_by h.first s.opening s.state s.kept h.fed h.so_far h.all h.at h.comes h.goes

-- nor where none is left once the session has given nothing
pub nothing_left : (role : Role) (box : OutboxState) (s : SessionState) (wire : List ℕ) (ready : List Msg) → Leads role box s wire → (ready ≡ [] → wire ≡ []) →
    ready ≡ [] → coming s wire ≡ []
nothing_left role box s wire ready h whole e =
    ap (λ z. coming s z) (whole e) ∙ nothing_coming role box s (subst (λ z. Leads role box s z) (whole e) h)

-- ---- as a line is seen

pub line_sent : (role : Role) (spent : Bool) (ready was now : List Msg) (m : Msg) (l : LineState) → spent ≡ false → line_of role spent ready was ≡ l → now ≡ was ++ m ∷ [] →
    line_of role spent ready now ≡ with_sent l m
line_sent role spent ready was now m l off is more =
    ap (λ b. line_of role b ready now) off
    ∙ ap {B = LineState} (λ z. record { role = role; messages = z }) (ap (λ z. ready ++ z) more ∙ sym (append_assoc ready was (m ∷ [])))
    ∙ ap (λ (z : LineState). with_sent z m) (ap (λ b. line_of role b ready was) (sym off) ∙ is)

pub line_received : (role : Role) (spent : Bool) (ready was behind new left : List Msg) (l : LineState) (r : Option Msg) → spent ≡ false → line_of role spent ready was ≡ l →
    ready ++ was ≡ behind ++ left → (r ≡ slice_get (behind ++ left) 0) × (new ++ left ≡ drop 1 (behind ++ left)) →
    (r ≡ slice_get l.messages 0) × (line_of role spent new left ≡ without_first l)
line_received role spent ready was behind new left l r off is goes k =
    let seen : line_of role false ready was ≡ l = ap (λ b. line_of role b ready was) (sym off) ∙ is in
    let all : behind ++ left ≡ l.messages = sym goes ∙ ap (λ (z : LineState). z.messages) seen in (
      k.0 ∙ ap (λ z. slice_get z 0) all,
      ap (λ b. line_of role b new left) off
          ∙ ap {B = LineState} (λ z. record { role = role; messages = z }) (k.1 ∙ ap (λ z. drop 1 z) all)
          ∙ ap {B = LineState} (λ z. record { role = z; messages = drop 1 l.messages }) (ap (λ (z : LineState). z.role) seen),
    )

pub on_ok_given : {X E P : Type 0} (r : Result X E) → is_err r ≡ false → OnOk r P → P
on_ok_given (Ok x) e p = p
on_ok_given (Err y) e p = let bad : true ≡ false = e in absurd cc
