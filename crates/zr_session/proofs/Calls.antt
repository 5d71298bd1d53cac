-- Calls one behind another.
use Rattle.std.proofs.Common.{◌≡◌, ◌∙◌, ap, refl, sym, subst, ℕ, Bool, true, false, ◌||◌, if◌then◌else◌, List, [], ◌∷◌, ◌++◌, append_assoc, append-nil, None}
use Rattle.std.proofs.lemmas.List.{append_cancel_left, append_cancel_right}
use Rattle.zr_frame_batch.proofs.Cutting.{cut_one}
use Rattle.zr_open.specs.declared.expected.Expected.{Expected}
use Rattle.zr_open.specs.Opening.{OpeningState}
use Rattle.zr_session.specs.declared.event.SessionEvent.{SessionEvent}
use Rattle.zr_session.specs.declared.fate.Fate.{Fate}
use Rattle.zr_session.specs.declared.phase.Phase.{Phase}
use Rattle.zr_session.specs.declared.phase.Phase.TheVariants.{Opening, Established}
use Rattle.zr_session.specs.declared.state.State.{State}
use Rattle.zr_session.specs.declared.state.State.TheVariants.{Running, Ended, Spent}
use Rattle.zr_session.specs.Course.{Course, going, joined, owed_in}
use Rattle.zr_session.specs.Stream.{Comes, on_batches}
use Rattle.zr_session.specs.Session.{SessionState, IsAt, Stands, Answers, close_between, has_bytes, owed_by, owed_bytes, with_confirmed, begun}
use Rattle.zr_session.specs.Laws.{Call, Does, DoAll, fed_by, fate_in, AreThoseOf}
use Rattle.zr_session.specs.Laws.Call.{feed, tick, confirm}
use Rattle.zr_session.proofs.Pieces.{comes_more, comes_ended, comes_some}
use Rattle.zr_session.proofs.Feeding.{comes_nothing}
use Rattle.zr_session.proofs.Quiet.{Owes, quiet_batches}

pub comes_one : (o : OpeningState) (p : Phase) (bytes rest left : List ℕ) (c d : Course) → Comes o p bytes c rest → Comes o p bytes d left → (c ≡ d) × (rest ≡ left)
comes_one o p bytes rest left c d h k =
    let same = cut_one bytes rest left h.batches k.batches h.are h.partial k.are k.partial in
    (sym h.course ∙ ap (λ z. on_batches o p z) same.0 ∙ k.course, same.1)

-- Where a session stands, and what it owes is written or not.
pub record Stood (first : Expected) (o : OpeningState) (s : SessionState) (bytes : List ℕ) (c : Course) (events : List SessionEvent) (answered : List ℕ) : Type 0 where
  pub opening : s.opening ≡ o
  pub at : IsAt first s bytes c
  pub events_are : events ≡ c.events
  pub before : s.confirmed ≡ false → answered ≡ c.bytes
  pub behind : s.confirmed ≡ true → (answered ≡ c.bytes ++ owed_in c.phase) × Owes (owed_in c.phase) c.phase

-- what is owed by a session is what its course owes
pub owed_is : (first : Expected) (o : OpeningState) (st : State) (kept bytes : List ℕ) (c : Course) → Stands first o st kept bytes c → owed_by st ≡ owed_in c.phase
owed_is first o (Running p) kept bytes c h = ap owed_in (sym h.2)
owed_is first o (Ended how owed) kept bytes c h = sym h.3
owed_is first o Spent kept bytes c h = absurd h

-- where something is owed the session is established
some_owed : (p : Phase) → has_bytes (owed_in p) ≡ true → Owes (owed_in p) p
some_owed (Opening expected) h = absurd cc
some_owed (Established s) h = refl

pub owes_is : (owed : List ℕ) (p : Phase) → Owes owed p → owed_in p ≡ owed
owes_is owed (Opening expected) h = absurd h
owes_is owed (Established s) h = h

owes_same : (owed : List ℕ) (p : Phase) → Owes owed p → Owes (owed_in p) p
owes_same owed (Opening expected) h = absurd h
owes_same owed (Established s) h = refl

pub comes_at : (first : Expected) (o : OpeningState) (st : State) (kept bytes : List ℕ) (c : Course) → Stands first o st kept bytes c →
    (rest : List ℕ) × Comes o (Opening first) bytes c rest
comes_at first o (Running p) kept bytes c h = (kept, h.0)
comes_at first o (Ended how owed) kept bytes c h = (h.0, h.1)
comes_at first o Spent kept bytes c h = absurd h

-- what goes on from an established session: nothing is answered, and the same is owed
abbrev GoesQuiet : Course → Course → Type 0
GoesQuiet c d = (d.bytes ≡ c.bytes) × (owed_in d.phase ≡ owed_in c.phase) × Owes (owed_in d.phase) d.phase

quiet_more : (o : OpeningState) (c x : Course) (bytes rest : List ℕ) → Owes (owed_in c.phase) c.phase → Comes o c.phase bytes x rest → GoesQuiet c (joined None c x)
quiet_more o c x bytes rest owes h =
    let q = subst (λ (z : Course). (z.bytes ≡ []) × Owes (owed_in c.phase) z.phase) h.course (quiet_batches o (owed_in c.phase) c.phase h.batches owes) in
    (ap (λ z. c.bytes ++ z) q.0 ∙ append-nil c.bytes, owes_is (owed_in c.phase) x.phase q.1, owes_same (owed_in c.phase) x.phase q.1)

gone_on : (first : Expected) (o : OpeningState) (st t : State) (kept after bytes piece : List ℕ) (c d : Course) → Owes (owed_in c.phase) c.phase →
    Stands first o st kept bytes c → Stands first o t after (bytes ++ piece) d → GoesQuiet c d
gone_on first o (Running p) t kept after bytes piece c d owes h k =
    let x = comes_some o c.phase (kept ++ piece) in
    let whole = comes_more o (Opening first) bytes piece kept x.1 c x.0 h.0 h.1 x.2 in
    let there = comes_at first o t after (bytes ++ piece) d k in
    let same = comes_one o (Opening first) (bytes ++ piece) x.1 there.0 (joined None c x.0) d whole there.1 in
    subst (λ (z : Course). GoesQuiet c z) same.0 (quiet_more o c x.0 (kept ++ piece) x.1 owes x.2)
gone_on first o (Ended how owed) t kept after bytes piece c d owes h k =
    let whole = comes_ended o (Opening first) bytes piece h.0 c how h.1 h.2 in
    let there = comes_at first o t after (bytes ++ piece) d k in
    let same = comes_one o (Opening first) (bytes ++ piece) whole.0 there.0 c d whole.1 there.1 in
    subst (λ (z : Course). GoesQuiet c z) same.0 (refl, refl, owes)
gone_on first o Spent t kept after bytes piece c d owes h k = absurd h

abbrev Then : Expected → OpeningState → SessionState → List ℕ → List SessionEvent → List ℕ → Type 0
Then first o t bytes events answered = (d : Course) × Stood first o t bytes d events answered

after_feed : (first : Expected) (o : OpeningState) (s t : SessionState) (bytes piece : List ℕ) (c : Course) (events here : List SessionEvent) (answered now : List ℕ) →
    Stood first o s bytes c events answered → Does (feed piece) s t here now → Then first o t (bytes ++ piece) (events ++ here) (answered ++ now)
after_feed first o s t bytes piece c events here answered now h does =
    let f = does.2 in
    let on = f.on first bytes c h.at in
    let d = on.0 in
    let g = on.2 in
    let close = close_between s.state t.state in
    let here_is : here ≡ g.events = append_cancel_left does.0.events.items here g.events (sym does.3 ∙ g.new_events) in
    let now_is : now ≡ g.bytes = append_cancel_right now g.bytes close (append_cancel_left does.0.bytes.items (now ++ close) (g.bytes ++ close) (sym does.4 ∙ g.new_bytes)) in
    let there : Stands first s.opening t.state t.kept (bytes ++ piece) d = subst (λ (z : OpeningState). Stands first z t.state t.kept (bytes ++ piece) d) f.opening on.1 in (
      d,
      record {
        opening = f.opening ∙ h.opening;
        at = on.1;
        events_are = ap (λ z. z ++ here) h.events_are ∙ ap (λ z. c.events ++ z) here_is ∙ sym g.are_events;
        before = λ e. ap (λ z. z ++ now) (h.before (sym f.confirmed ∙ e)) ∙ ap (λ z. c.bytes ++ z) now_is ∙ sym g.are_bytes;
        behind = λ e.
            let k = h.behind (sym f.confirmed ∙ e) in
            let q = gone_on first s.opening s.state t.state s.kept t.kept bytes piece c d k.1 h.at there in
            let none : now ≡ [] = now_is ∙ append_cancel_left c.bytes g.bytes [] (sym g.are_bytes ∙ q.0 ∙ sym (append-nil c.bytes)) in
            (ap (λ z. answered ++ z) none ∙ append-nil answered ∙ k.0 ∙ ap (λ z. z ++ owed_in c.phase) (sym q.0) ∙ ap (λ z. d.bytes ++ z) (sym q.1), q.2);
      },
    )

-- the answer is written where it is owed
confirmed_by : (b : Bool) (owed answered bytes : List ℕ) (p : Phase) → owed ≡ owed_in p → (b ≡ false → answered ≡ bytes) →
    (b ≡ true → (answered ≡ bytes ++ owed_in p) × Owes (owed_in p) p) →
    (((b || has_bytes owed) ≡ false → answered ++ (if b then [] else owed) ≡ bytes)
    × ((b || has_bytes owed) ≡ true → (answered ++ (if b then [] else owed) ≡ bytes ++ owed_in p) × Owes (owed_in p) p))
confirmed_by true owed answered bytes p is h k = (λ e. absurd cc, λ e. (append-nil answered ∙ (k refl).0, (k refl).1))
confirmed_by false [] answered bytes p is h k = (λ e. append-nil answered ∙ h refl, λ e. absurd cc)
confirmed_by false (x ∷ owed) answered bytes p is h k =
    (λ e. absurd cc, λ e. (ap (λ z. z ++ x ∷ owed) (h refl) ∙ ap (λ z. bytes ++ z) is, some_owed p (ap has_bytes (sym is))))

after_confirm : (first : Expected) (o : OpeningState) (s t : SessionState) (bytes : List ℕ) (c : Course) (events here : List SessionEvent) (answered now : List ℕ) →
    Stood first o s bytes c events answered → Does confirm s t here now → Then first o t bytes (events ++ here) (answered ++ now)
after_confirm first o s t bytes c events here answered now h does =
    let is = owed_is first s.opening s.state s.kept bytes c h.at in
    let k = confirmed_by s.confirmed (owed_by s.state) answered c.bytes c.phase is h.before h.behind in
    let stood : Stood first o (with_confirmed s) bytes c (events ++ []) (answered ++ owed_bytes s) =
    record { opening = h.opening; at = h.at; events_are = append-nil events ∙ h.events_are; before = k.0; behind = k.1 } in
    rw (does.0, does.1, does.2) (c, stood)

after_tick : (first : Expected) (o : OpeningState) (s t : SessionState) (bytes : List ℕ) (c : Course) (events here : List SessionEvent) (answered now : List ℕ) (moment : ℕ) →
    Stood first o s bytes c events answered → Does (tick moment) s t here now → Then first o t bytes (events ++ here) (answered ++ now)
after_tick first o s t bytes c events here answered now moment h does =
    let stood : Stood first o s bytes c (events ++ []) (answered ++ []) = rw (append-nil events, append-nil answered) h in
    rw (does.1, does.2, does.3) (c, stood)

after_all : (first : Expected) (o : OpeningState) (calls : List Call) (s last : SessionState) (bytes : List ℕ) (c : Course) (events more : List SessionEvent) (answered later : List ℕ) →
    Stood first o s bytes c events answered → DoAll calls s last more later → Then first o last (bytes ++ fed_by calls) (events ++ more) (answered ++ later)
after_all first o [] s last bytes c events more answered later h does =
    let stood : Stood first o s (bytes ++ []) c (events ++ []) (answered ++ []) = rw (append-nil bytes, append-nil events, append-nil answered) h in
    rw (does.0, does.1, does.2) (c, stood)
after_all first o (feed piece ∷ calls) s last bytes c events more answered later h does =
    let next = after_feed first o s does.0 bytes piece c events does.1 answered does.3 h does.7 in
    let all = after_all first o calls does.0 last (bytes ++ piece) next.0 (events ++ does.1) does.2 (answered ++ does.3) does.4 next.1 does.8 in
    rw (does.5, does.6, sym (append_assoc bytes piece (fed_by calls)), sym (append_assoc events does.1 does.2), sym (append_assoc answered does.3 does.4)) all
after_all first o (tick moment ∷ calls) s last bytes c events more answered later h does =
    let next = after_tick first o s does.0 bytes c events does.1 answered does.3 moment h does.7 in
    let all = after_all first o calls does.0 last bytes next.0 (events ++ does.1) does.2 (answered ++ does.3) does.4 next.1 does.8 in
    rw (does.5, does.6, sym (append_assoc events does.1 does.2), sym (append_assoc answered does.3 does.4)) all
after_all first o (confirm ∷ calls) s last bytes c events more answered later h does =
    let next = after_confirm first o s does.0 bytes c events does.1 answered does.3 h does.7 in
    let all = after_all first o calls does.0 last bytes next.0 (events ++ does.1) does.2 (answered ++ does.3) does.4 next.1 does.8 in
    rw (does.5, does.6, sym (append_assoc events does.1 does.2), sym (append_assoc answered does.3 does.4)) all

-- ---- the law

fate_is : (first : Expected) (o : OpeningState) (st : State) (kept bytes : List ℕ) (c : Course) (f : Fate) → Stands first o st kept bytes c → Answers st f → f ≡ fate_in c.ends
fate_is first o (Running p) kept bytes c f h a = a ∙ ap fate_in (sym h.1)
fate_is first o (Ended how owed) kept bytes c f h a = a ∙ ap fate_in (sym h.2)
fate_is first o Spent kept bytes c f h a = absurd h

bytes_by : (b : Bool) (owed answered bytes : List ℕ) (p : Phase) → owed ≡ owed_in p → (b ≡ false → answered ≡ bytes) →
    (b ≡ true → (answered ≡ bytes ++ owed_in p) × Owes (owed_in p) p) → answered ++ (if b then [] else owed) ≡ bytes ++ owed_in p
bytes_by true owed answered bytes p is h k = append-nil answered ∙ (k refl).0
bytes_by false owed answered bytes p is h k = ap (λ z. z ++ owed) (h refl) ∙ ap (λ z. bytes ++ z) is

pub no_cut : (first : Expected) (o : OpeningState) (now : ℕ) (calls : List Call) (last : SessionState) (events : List SessionEvent) (bytes : List ℕ) →
    DoAll calls (begun first o now) last events bytes → (c : Course) × (rest : List ℕ) × Comes o (Opening first) (fed_by calls) c rest × AreThoseOf c last events bytes
no_cut first o now calls last events bytes does =
    let start : Stood first o (begun first o now) [] (going (Opening first)) [] [] = record {
      opening = refl;
      at = (comes_nothing o (Opening first), refl, refl);
      events_are = refl;
      before = λ e. refl;
      behind = λ e. absurd cc;
    } in
    let all = after_all first o calls (begun first o now) last [] (going (Opening first)) [] events [] bytes start does in
    let h = all.1 in
    let there = comes_at first last.opening last.state last.kept (fed_by calls) all.0 h.at in (
      all.0,
      there.0,
      subst (λ (z : OpeningState). Comes z (Opening first) (fed_by calls) all.0 there.0) h.opening there.1,
      record {
        events_are = h.events_are;
        bytes_are = bytes_by last.confirmed (owed_by last.state) bytes all.0.bytes all.0.phase (owed_is first last.opening last.state last.kept (fed_by calls) all.0 h.at) h.before h.behind;
        fate = λ f a. fate_is first last.opening last.state last.kept (fed_by calls) all.0 f h.at a;
      },
    )
