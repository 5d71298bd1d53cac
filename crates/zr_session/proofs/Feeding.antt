-- What a call of a session did, behind any bytes.
use Rattle.std.proofs.Common.{◌≡◌, ◌∙◌, ap, refl, sym, subst, ℕ, List, [], ◌++◌, append_assoc, append-nil, None, Result, Ok, Err, OnOk, OnErr, arith}
use Rattle.zr_open.specs.declared.expected.Expected.{Expected}
use Rattle.zr_open.specs.Opening.{OpeningState}
use Rattle.zr_session.specs.declared.event.Fed.{Fed}
use Rattle.zr_session.specs.declared.fate.End.{End}
use Rattle.zr_session.specs.declared.phase.Phase.{Phase}
use Rattle.zr_session.specs.declared.phase.Phase.TheVariants.{Opening}
use Rattle.zr_session.specs.declared.state.State.{State}
use Rattle.zr_session.specs.declared.state.State.TheVariants.{Running, Ended}
use Rattle.zr_session.specs.declared.stop.ReadStop.{ReadStop}
use Rattle.zr_session.specs.declared.stop.ReadStop.TheVariants as stop
use Rattle.zr_session.specs.Course.{Course, going, joined, owed_in}
use Rattle.zr_session.specs.Stream.{Comes, on_batches}
use Rattle.zr_session.specs.Done.{Adds, AddsPrefixes, Takes}
use Rattle.zr_session.specs.Session.{SessionState, Feeds, Stalls, Stands, Gains, GainsPrefixes, close_of, close_between}
use Rattle.zr_session.proofs.Pieces.{comes_more, comes_ended}

-- no bytes come to nothing
pub comes_nothing : (o : OpeningState) (p : Phase) → Comes o p [] (going p) []
unfolding on_batches
comes_nothing o p = record { batches = []; are = refl; partial = omega arith; course = refl }

-- a course behind another one, with what was appended
gains_more : (c x : Course) (close : List ℕ) (a b d : Fed) → Adds x a b → d.events.items ≡ b.events.items → d.bytes.items ≡ b.bytes.items ++ close → Gains c (joined None c x) close a d
gains_more c x close a b d h e k = record {
  events = x.events;
  bytes = x.bytes;
  are_events = refl;
  are_bytes = refl;
  new_events = e ∙ h.events;
  new_bytes = k ∙ ap (λ z. z ++ close) h.bytes ∙ append_assoc a.bytes.items x.bytes close;
}

gains_prefixes : (c x : Course) (a b : Fed) → AddsPrefixes x a b → GainsPrefixes c (joined None c x) a b
gains_prefixes c x a b h = record {
  events = h.events;
  other_events = h.other_events;
  bytes = h.bytes;
  other_bytes = h.other_bytes;
  are_events = ap (λ z. c.events ++ z) h.are_events;
  are_bytes = ap (λ z. c.bytes ++ z) h.are_bytes;
  new_events = h.new_events;
  new_bytes = h.new_bytes;
}

-- what a session that stands at some bytes does with a piece
abbrev pub On : OpeningState → State → List ℕ → OpeningState → State → List ℕ → List ℕ → Fed → Fed → Type 0
On o s kept new_o t after piece old new =
    (first : Expected) (bytes : List ℕ) (c : Course) → Stands first o s kept bytes c →
    (d : Course) × Stands first new_o t after (bytes ++ piece) d × Gains c d (close_between s t) old new

abbrev pub OnPrefixes : OpeningState → State → List ℕ → List ℕ → Fed → Fed → Type 0
OnPrefixes o s kept piece old new =
    (first : Expected) (bytes : List ℕ) (c : Course) → Stands first o s kept bytes c →
    (d : Course) × (rest : List ℕ) × Comes o (Opening first) (bytes ++ piece) d rest × GainsPrefixes c d old new

-- a piece was read, and the session goes on
pub fed_more : (o : OpeningState) (p q : Phase) (kept after piece : List ℕ) (a b : Fed) →
    Takes (Ok tt) o p (kept ++ piece) q after a b → On o (Running p) kept o (Running q) after piece a b
fed_more o p q kept after piece a b h first bytes c at =
    let next : Comes o c.phase (kept ++ piece) h.0 after = rw at.2 h.1 in
    let whole : Comes o (Opening first) (bytes ++ piece) (joined None c h.0) after = comes_more o (Opening first) bytes piece kept after c h.0 at.0 at.1 next in
    (joined None c h.0, (whole, h.2, h.3), gains_more c h.0 [] a b b h.4 refl (sym (append-nil b.bytes.items)))

-- a piece was read that ended the session
pub fed_last : (o : OpeningState) (p q : Phase) (kept after gone piece owed : List ℕ) (how : End) (a b d : Fed) →
    Takes (Err (stop.Ended how)) o p (kept ++ piece) q after a b → owed ≡ owed_in q → d.events.items ≡ b.events.items → d.bytes.items ≡ b.bytes.items ++ close_of how →
    On o (Running p) kept o (Ended how owed) gone piece a d
fed_last o p q kept after gone piece owed how a b d h e events bytes_are first bytes c at =
    let next : Comes o c.phase (kept ++ piece) h.0 h.1 = rw at.2 h.2 in
    let whole : Comes o (Opening first) (bytes ++ piece) (joined None c h.0) h.1 = comes_more o (Opening first) bytes piece kept h.1 c h.0 at.0 at.1 next in
    (joined None c h.0, (h.1, whole, h.3.ends, h.3.owed ∙ sym e), gains_more c h.0 (close_of how) a b d h.4 events bytes_are)

-- memory ran out
pub fed_out : (o : OpeningState) (p q : Phase) (kept after piece : List ℕ) (a b : Fed) →
    Takes (Err stop.NoMemory) o p (kept ++ piece) q after a b → OnPrefixes o (Running p) kept piece a b
fed_out o p q kept after piece a b h first bytes c at =
    let next : Comes o c.phase (kept ++ piece) h.0 h.1 = rw at.2 h.2 in
    let whole : Comes o (Opening first) (bytes ++ piece) (joined None c h.0) h.1 = comes_more o (Opening first) bytes piece kept h.1 c h.0 at.0 at.1 next in
    (joined None c h.0, h.1, whole, gains_prefixes c h.0 a b h.3)

-- memory ran out for the CLOSE
pub fed_close_out : (o : OpeningState) (p q : Phase) (kept after piece : List ℕ) (how : End) (a b d : Fed) →
    Takes (Err (stop.Ended how)) o p (kept ++ piece) q after a b → d.events.items ≡ b.events.items → d.bytes.items ≡ b.bytes.items →
    OnPrefixes o (Running p) kept piece a d
fed_close_out o p q kept after piece how a b d h events bytes_are first bytes c at =
    let next : Comes o c.phase (kept ++ piece) h.0 h.1 = rw at.2 h.2 in
    let whole : Comes o (Opening first) (bytes ++ piece) (joined None c h.0) h.1 = comes_more o (Opening first) bytes piece kept h.1 c h.0 at.0 at.1 next in (
      joined None c h.0,
      h.1,
      whole,
      record {
        events = h.0.events;
        other_events = [];
        bytes = h.0.bytes;
        other_bytes = [];
        are_events = ap (λ z. c.events ++ z) (sym (append-nil h.0.events));
        are_bytes = ap (λ z. c.bytes ++ z) (sym (append-nil h.0.bytes));
        new_events = events ∙ h.4.events;
        new_bytes = bytes_are ∙ h.4.bytes;
      },
    )

-- a session that has ended reads nothing
pub fed_over : (o : OpeningState) (kept piece owed : List ℕ) (how : End) (a b : Fed) → b.events.items ≡ a.events.items → b.bytes.items ≡ a.bytes.items →
    On o (Ended how owed) kept o (Ended how owed) kept piece a b
fed_over o kept piece owed how a b events bytes_are first bytes c at =
    let k = comes_ended o (Opening first) bytes piece at.0 c how at.1 at.2 in (
      c,
      (k.0, k.1, at.2, at.3),
      record {
        events = [];
        bytes = [];
        are_events = sym (append-nil _);
        are_bytes = sym (append-nil _);
        new_events = events ∙ sym (append-nil _);
        new_bytes = bytes_are ∙ sym (append-nil _);
      },
    )

-- ---- whole sessions

pub feeds_more : (s : SessionState) (p q : Phase) (after piece : List ℕ) (heard : ℕ) (a b : Fed) → s.state ≡ Running p →
    Takes (Ok tt) s.opening p (s.kept ++ piece) q after a b →
    Feeds s (record { opening = s.opening; state = Running q; kept = after; confirmed = s.confirmed; heard = heard }) piece a b
feeds_more s p q after piece heard a b e h = record {
  on = subst (λ (z : State). On s.opening z s.kept s.opening (Running q) after piece a b) (sym e) (fed_more s.opening p q s.kept after piece a b h);
  opening = refl;
  confirmed = refl;
}

pub feeds_last : (s : SessionState) (p q : Phase) (after piece owed : List ℕ) (how : End) (heard : ℕ) (a b d : Fed) → s.state ≡ Running p →
    Takes (Err (stop.Ended how)) s.opening p (s.kept ++ piece) q after a b → owed ≡ owed_in q → d.events.items ≡ b.events.items → d.bytes.items ≡ b.bytes.items ++ close_of how →
    Feeds s (record { opening = s.opening; state = Ended how owed; kept = []; confirmed = s.confirmed; heard = heard }) piece a d
feeds_last s p q after piece owed how heard a b d e h is_owed events bytes = record {
  on = subst (λ (z : State). On s.opening z s.kept s.opening (Ended how owed) [] piece a d) (sym e)
      (fed_last s.opening p q s.kept after [] piece owed how a b d h is_owed events bytes);
  opening = refl;
  confirmed = refl;
}

pub feeds_over : (s : SessionState) (piece owed : List ℕ) (how : End) (a : Fed) → s.state ≡ Ended how owed →
    Feeds s (record { opening = s.opening; state = Ended how owed; kept = s.kept; confirmed = s.confirmed; heard = s.heard }) piece a a
feeds_over s piece owed how a e = record {
  on = subst (λ (z : State). On s.opening z s.kept s.opening (Ended how owed) s.kept piece a a) (sym e) (fed_over s.opening s.kept piece owed how a a refl refl);
  opening = refl;
  confirmed = refl;
}

pub stalls_at : (s : SessionState) (p : Phase) (piece : List ℕ) (a b : Fed) → s.state ≡ Running p → OnPrefixes s.opening (Running p) s.kept piece a b → Stalls s piece a b
stalls_at s p piece a b e h = subst (λ (z : State). OnPrefixes s.opening z s.kept piece a b) (sym e) h

pub on_ok : {A E P Q : Type 0} (r : Result A E) → OnOk r P → (P → Q) → OnOk r Q
on_ok (Ok x) h f = f h
on_ok (Err e) h f = tt

pub on_err : {A E P Q : Type 0} (r : Result A E) → OnErr r P → (P → Q) → OnErr r Q
on_err (Ok x) h f = tt
on_err (Err e) h f = f h

-- what a call of `end` made of it
pub ends_feed : (s t : SessionState) (p q : Phase) (after piece : List ℕ) (why : ReadStop) (how : End) (heard : ℕ) (a b d : Fed) → s.state ≡ Running p → why ≡ stop.Ended how →
    Takes (Err why) s.opening p (s.kept ++ piece) q after a b →
    t ≡ record { opening = s.opening; state = Ended how (owed_in q); kept = []; confirmed = s.confirmed; heard = heard } →
    d.events.items ≡ b.events.items → d.bytes.items ≡ b.bytes.items ++ close_of how → Feeds s t piece a d
ends_feed s t p q after piece why how heard a b d e is h t_is events bytes =
    let k : Takes (Err (stop.Ended how)) s.opening p (s.kept ++ piece) q after a b = subst (λ (z : ReadStop). Takes (Err z) s.opening p (s.kept ++ piece) q after a b) is h in
    subst (λ (z : SessionState). Feeds s z piece a d) (sym t_is) (feeds_last s p q after piece (owed_in q) how heard a b d e k refl events bytes)

pub stalls_feed : (s : SessionState) (p q : Phase) (after piece : List ℕ) (why : ReadStop) (a b : Fed) → s.state ≡ Running p → why ≡ stop.NoMemory →
    Takes (Err why) s.opening p (s.kept ++ piece) q after a b → Stalls s piece a b
stalls_feed s p q after piece why a b e is h =
    let k : Takes (Err stop.NoMemory) s.opening p (s.kept ++ piece) q after a b = subst (λ (z : ReadStop). Takes (Err z) s.opening p (s.kept ++ piece) q after a b) is h in
    stalls_at s p piece a b e (fed_out s.opening p q s.kept after piece a b k)

pub stalls_end : (s : SessionState) (p q : Phase) (after piece : List ℕ) (why : ReadStop) (how : End) (a b d : Fed) → s.state ≡ Running p → why ≡ stop.Ended how →
    Takes (Err why) s.opening p (s.kept ++ piece) q after a b → d.events.items ≡ b.events.items → d.bytes.items ≡ b.bytes.items → Stalls s piece a d
stalls_end s p q after piece why how a b d e is h events bytes =
    let k : Takes (Err (stop.Ended how)) s.opening p (s.kept ++ piece) q after a b = subst (λ (z : ReadStop). Takes (Err z) s.opening p (s.kept ++ piece) q after a b) is h in
    stalls_at s p piece a d e (fed_close_out s.opening p q s.kept after piece how a b d k events bytes)
