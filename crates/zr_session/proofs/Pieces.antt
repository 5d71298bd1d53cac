-- Batches in pieces.
use Rattle.std.proofs.Common.{◌≡◌, ◌∙◌, ap, refl, sym, ℕ, ◌<◌, ◌≤◌, List, [], ◌∷◌, ◌++◌, length, length-append, append_assoc, append-nil, Option, Some, None, Ok, Err, arith}
use Rattle.zr_frame_batch.specs.Framing.{IsFramed, BeginsWith, lacks}
use Rattle.zr_frame_batch.proofs.Cutting.{are_more, cut_some}
use Rattle.zr_open.specs.Opening.{OpeningState}
use Rattle.zr_session.specs.declared.phase.Phase.{Phase}
use Rattle.zr_session.specs.declared.event.Fed.{Fed}
use Rattle.zr_session.specs.declared.fate.End.{End}
use Rattle.zr_session.specs.declared.stop.ReadStop.{ReadStop}
use Rattle.zr_session.specs.declared.stop.ReadStop.TheVariants.{Ended, NoMemory}
use Rattle.zr_session.specs.Course.{Course, going, joined, and_then}
use Rattle.zr_session.specs.Stream.{Comes, on_batch, on_batches}
use Rattle.zr_session.specs.Done.{Adds, AddsPrefixes, Goes, Takes}
use Rattle.zr_session.proofs.Courses.{then_open, then_ended, then_nothing, batches_append}
use Rattle.zr_session.proofs.Reading.{adds_nothing, adds_more, prefixes_more}

-- THE JOINING LEMMA: what a stream comes to in two parts.
pub comes_more : (o : OpeningState) (p : Phase) (bytes more mid rest : List ℕ) (c x : Course) →
    Comes o p bytes c mid → c.ends ≡ None → Comes o c.phase (mid ++ more) x rest → Comes o p (bytes ++ more) (joined None c x) rest
comes_more o p bytes more mid rest c x h goes k = record {
  batches = h.batches ++ k.batches;
  are = are_more bytes more mid rest h.batches k.batches h.are k.are;
  partial = k.partial;
  course = batches_append o p h.batches k.batches ∙ ap (λ z. and_then z (λ q. on_batches o q k.batches)) h.course
      ∙ then_open c (λ q. on_batches o q k.batches) goes ∙ ap (λ z. joined None c z) k.course;
}

-- Whatever follows a stream that ended: it comes to the same.
pub comes_ended : (o : OpeningState) (p : Phase) (bytes more mid : List ℕ) (c : Course) (how : End) →
    Comes o p bytes c mid → c.ends ≡ Some how → (rest : List ℕ) × Comes o p (bytes ++ more) c rest
comes_ended o p bytes more mid c how h e =
    let cut = cut_some (length (mid ++ more)) (mid ++ more) (omega arith) in (
      cut.1,
      record {
        batches = h.batches ++ cut.0;
        are = are_more bytes more mid cut.1 h.batches cut.0 h.are cut.2;
        partial = cut.3;
        course = batches_append o p h.batches cut.0 ∙ ap (λ z. and_then z (λ q. on_batches o q cut.0)) h.course ∙ then_ended c (λ q. on_batches o q cut.0) how e;
      },
    )

-- some bytes come to some course
pub comes_some : (o : OpeningState) (p : Phase) (bytes : List ℕ) → (c : Course) × (rest : List ℕ) × Comes o p bytes c rest
comes_some o p bytes =
    let cut = cut_some (length bytes) bytes (omega arith) in
    (on_batches o p cut.0, cut.1, record { batches = cut.0; are = cut.2; partial = cut.3; course = refl })

-- one batch
comes_batch : (o : OpeningState) (p : Phase) (bytes batch : List ℕ) → IsFramed bytes batch → Comes o p bytes (on_batch o p batch) []
unfolding on_batches
comes_batch o p bytes batch h = record {
  batches = batch ∷ [];
  are = (bytes, [], sym (append-nil bytes), h, refl);
  partial = omega arith;
  course = then_nothing (on_batch o p batch);
}

-- what is kept grows, and is no batch yet
comes_kept : (o : OpeningState) (p : Phase) (bytes t mid : List ℕ) (c : Course) →
    Comes o p bytes c mid → 0 < lacks (mid ++ t) → Comes o p (bytes ++ t) c (mid ++ t)
comes_kept o p bytes t mid c h e = record {
  batches = h.batches ++ [];
  are = are_more bytes t mid (mid ++ t) h.batches [] h.are refl;
  partial = e;
  course = rw (append-nil h.batches) h.course;
}

-- A prefix of the piece was read: it comes to a course that goes on, and what is kept is what is left of its bytes.
pub record AtRest (o : OpeningState) (p : Phase) (first piece rest kept : List ℕ) (phase : Phase) (old new : Fed) : Type 0 where
  pub begin : List ℕ
  pub split : piece ≡ begin ++ rest
  pub course : Course
  pub comes : Comes o p (first ++ begin) course kept
  pub goes : course.ends ≡ None
  pub at : course.phase ≡ phase
  pub adds : Adds course old new

pub rest_first : (o : OpeningState) (p : Phase) (kept piece : List ℕ) (out : Fed) → 0 < lacks kept → AtRest o p kept piece piece kept p out out
unfolding on_batches
rest_first o p kept piece out e = record {
  begin = [];
  split = refl;
  course = going p;
  comes = record { batches = []; are = append-nil kept; partial = e; course = refl };
  goes = refl;
  at = refl;
  adds = adds_nothing p out;
}

pub rest_partial : (o : OpeningState) (p : Phase) (first piece rest kept : List ℕ) (phase : Phase) (a b : Fed) →
    AtRest o p first piece rest kept phase a b → 0 < lacks kept
rest_partial o p first piece rest kept phase a b h = h.comes.partial

-- the bytes that were taken: what is kept is then what was kept and these
taken_of : (rest kept grown more : List ℕ) → grown ++ more ≡ kept ++ rest → length more ≤ length rest → (t : List ℕ) × (rest ≡ t ++ more) × (grown ≡ kept ++ t)
taken_of rest [] grown more e few = (grown, sym e, refl)
taken_of rest (k ∷ kept) [] more e few =
    let len : length more ≡ length ((k ∷ kept) ++ rest) = ap length e in
    absurd (omega (arith, len, few, length-append (k ∷ kept) rest))
taken_of rest (k ∷ kept) (g ∷ grown) more e few =
    let head : g ≡ k = cc in
    let tail : grown ++ more ≡ kept ++ rest = cc in
    let h = taken_of rest kept grown more tail few in
    (h.0, h.1, ap (λ z. z ∷ grown) head ∙ ap (λ z. k ∷ z) h.2)

pub rest_kept : (o : OpeningState) (p : Phase) (first piece rest kept grown more : List ℕ) (phase : Phase) (a b : Fed) →
    AtRest o p first piece rest kept phase a b → grown ++ more ≡ kept ++ rest → length more ≤ length rest → 0 < lacks grown → AtRest o p first piece more grown phase a b
rest_kept o p first piece rest kept grown more phase a b h e few some =
    let t = taken_of rest kept grown more e few in
    let lacking : 0 < lacks (kept ++ t.0) = rw (sym t.2) some in
    rw t.2 (record {
      begin = h.begin ++ t.0;
      split = h.split ∙ ap (λ z. h.begin ++ z) t.1 ∙ sym (append_assoc h.begin t.0 more);
      course = h.course;
      comes = rw (sym (append_assoc first h.begin t.0)) (comes_kept o p (first ++ h.begin) t.0 kept h.course h.comes lacking);
      goes = h.goes;
      at = h.at;
      adds = h.adds;
    })

batch_comes : (o : OpeningState) (p : Phase) (first begin kept t batch : List ℕ) (c : Course) →
    Comes o p (first ++ begin) c kept → c.ends ≡ None → IsFramed (kept ++ t) batch →
    Comes o p (first ++ (begin ++ t)) (joined None c (on_batch o c.phase batch)) []
batch_comes o p first begin kept t batch c h goes f =
    rw (sym (append_assoc first begin t)) (comes_more o p (first ++ begin) t kept [] c (on_batch o c.phase batch) h goes (comes_batch o c.phase (kept ++ t) batch f))

pub rest_batch : (o : OpeningState) (p : Phase) (first piece rest kept grown more batch : List ℕ) (phase q : Phase) (a b d : Fed) →
    AtRest o p first piece rest kept phase a b → grown ++ more ≡ kept ++ rest → length more ≤ length rest → IsFramed grown batch → Goes (Ok tt) (on_batch o phase batch) q b d →
    AtRest o p first piece more [] q a d
rest_batch o p first piece rest kept grown more batch phase q a b d h e few f g =
    let t = taken_of rest kept grown more e few in
    let k : Goes (Ok tt) (on_batch o h.course.phase batch) q b d = rw h.at g in
    let framed : IsFramed (kept ++ t.0) batch = rw (sym t.2) f in record {
      begin = h.begin ++ t.0;
      split = h.split ∙ ap (λ z. h.begin ++ z) t.1 ∙ sym (append_assoc h.begin t.0 more);
      course = joined None h.course (on_batch o h.course.phase batch);
      comes = batch_comes o p first h.begin kept t.0 batch h.course h.comes h.goes framed;
      goes = k.0;
      at = k.1;
      adds = adds_more h.course (on_batch o h.course.phase batch) a b d h.adds k.2;
    }

-- prefixes of a course are prefixes of a longer one
prefixes_longer : (c y : Course) (a b : Fed) → AddsPrefixes c a b → AddsPrefixes (joined None c y) a b
prefixes_longer c y a b h = record {
  events = h.events;
  other_events = h.other_events ++ y.events;
  bytes = h.bytes;
  other_bytes = h.other_bytes ++ y.bytes;
  are_events = ap (λ z. z ++ y.events) h.are_events ∙ append_assoc h.events h.other_events y.events;
  are_bytes = ap (λ z. z ++ y.bytes) h.are_bytes ∙ append_assoc h.bytes h.other_bytes y.bytes;
  new_events = h.new_events;
  new_bytes = h.new_bytes;
}

all_prefixes : (c : Course) (a b : Fed) → Adds c a b → AddsPrefixes c a b
all_prefixes c a b h = record {
  events = c.events;
  other_events = [];
  bytes = c.bytes;
  other_bytes = [];
  are_events = sym (append-nil c.events);
  are_bytes = sym (append-nil c.bytes);
  new_events = h.events;
  new_bytes = h.bytes;
}

-- memory ran out behind some bytes, of which prefixes were given
runs_out : (o : OpeningState) (p q : Phase) (bytes more mid after : List ℕ) (c : Course) (a b : Fed) →
    Comes o p bytes c mid → AddsPrefixes c a b → Takes (Err NoMemory) o p (bytes ++ more) q after a b
runs_out o p q bytes more mid after c a b h prefixes = by c.ends refl
  where
    by : (e : Option End) → c.ends ≡ e → Takes (Err NoMemory) o p (bytes ++ more) q after a b
    by (Some how) e = let k = comes_ended o p bytes more mid c how h e in (c, k.0, k.1, prefixes)
    by None e =
        let k = comes_some o c.phase (mid ++ more) in
        (joined None c k.0, k.1, comes_more o p bytes more mid k.1 c k.0 h e k.2, prefixes_longer c k.0 a b prefixes)

ends_by : (o : OpeningState) (p q : Phase) (bytes more after : List ℕ) (c x : Course) (a b d : Fed) (s : ReadStop) →
    Comes o p bytes (joined None c x) [] → Adds c a b → Goes (Err s) x q b d → Takes (Err s) o p (bytes ++ more) q after a d
ends_by o p q bytes more after c x a b d (Ended how) h adds g =
    let k = comes_ended o p bytes more [] (joined None c x) how h g.0.ends in
    (joined None c x, k.0, k.1, record { ends = g.0.ends; owed = g.0.owed }, adds_more c x a b d adds g.1)
ends_by o p q bytes more after c x a b d NoMemory h adds g =
    runs_out o p q bytes more [] after (joined None c x) a d h (prefixes_more c x a b d adds g)

-- a batch ended the session, or memory ran out in it
pub rest_ends : (o : OpeningState) (p : Phase) (first piece rest kept grown more batch after : List ℕ) (phase q : Phase) (a b d : Fed) (s : ReadStop) →
    AtRest o p first piece rest kept phase a b → grown ++ more ≡ kept ++ rest → length more ≤ length rest → IsFramed grown batch → Goes (Err s) (on_batch o phase batch) q b d →
    Takes (Err s) o p (first ++ piece) q after a d
rest_ends o p first piece rest kept grown more batch after phase q a b d s h e few f g =
    let t = taken_of rest kept grown more e few in
    let framed : IsFramed (kept ++ t.0) batch = rw (sym t.2) f in
    let k : Goes (Err s) (on_batch o h.course.phase batch) q b d = rw h.at g in
    let split : first ++ piece ≡ (first ++ (h.begin ++ t.0)) ++ more =
    ap (λ z. first ++ z) (h.split ∙ ap (λ z. h.begin ++ z) t.1 ∙ sym (append_assoc h.begin t.0 more)) ∙ sym (append_assoc first (h.begin ++ t.0) more) in
    let here = batch_comes o p first h.begin kept t.0 batch h.course h.comes h.goes framed in
    rw split (ends_by o p q (first ++ (h.begin ++ t.0)) more after h.course (on_batch o h.course.phase batch) a b d s here h.adds k)

-- a batch of the piece itself, where nothing is kept
pub ahead_batch : (o : OpeningState) (p : Phase) (first piece rest kept more batch : List ℕ) (phase q : Phase) (a b d : Fed) →
    AtRest o p first piece rest kept phase a b → kept ≡ [] → BeginsWith rest batch more → Goes (Ok tt) (on_batch o phase batch) q b d →
    AtRest o p first piece more kept q a d
ahead_batch o p first piece rest kept more batch phase q a b d h none f g =
    let here : AtRest o p first piece rest [] phase a b = rw (sym none) h in
    rw none (rest_batch o p first piece rest [] f.0 more batch phase q a b d here (sym f.1) (shorter rest f.0 more f.1) f.2 g)
  where
    shorter : (rest begin more : List ℕ) → rest ≡ begin ++ more → length more ≤ length rest
    shorter rest begin more e = let len = ap length e in omega (arith, len, length-append begin more)

pub ahead_ends : (o : OpeningState) (p : Phase) (first piece rest kept more batch after : List ℕ) (phase q : Phase) (a b d : Fed) (s : ReadStop) →
    AtRest o p first piece rest kept phase a b → kept ≡ [] → BeginsWith rest batch more → Goes (Err s) (on_batch o phase batch) q b d →
    Takes (Err s) o p (first ++ piece) q after a d
ahead_ends o p first piece rest kept more batch after phase q a b d s h none f g =
    let here : AtRest o p first piece rest [] phase a b = rw (sym none) h in
    rest_ends o p first piece rest [] f.0 more batch after phase q a b d s here (sym f.1) (shorter rest f.0 more f.1) f.2 g
  where
    shorter : (rest begin more : List ℕ) → rest ≡ begin ++ more → length more ≤ length rest
    shorter rest begin more e = let len = ap length e in omega (arith, len, length-append begin more)

-- memory ran out before a batch
pub rest_runs_out : (o : OpeningState) (p : Phase) (first piece rest kept after : List ℕ) (phase q : Phase) (a b : Fed) →
    AtRest o p first piece rest kept phase a b → Takes (Err NoMemory) o p (first ++ piece) q after a b
rest_runs_out o p first piece rest kept after phase q a b h =
    let split : first ++ piece ≡ (first ++ h.begin) ++ rest = ap (λ z. first ++ z) h.split ∙ sym (append_assoc first h.begin rest) in
    rw split (runs_out o p q (first ++ h.begin) rest kept after h.course a b h.comes (all_prefixes h.course a b h.adds))

pub rest_over : (o : OpeningState) (p : Phase) (first piece rest kept : List ℕ) (phase : Phase) (a b : Fed) →
    AtRest o p first piece rest kept phase a b → length rest ≡ 0 → Takes (Ok tt) o p (first ++ piece) phase kept a b
rest_over o p first piece [] kept phase a b h e =
    let split : piece ≡ h.begin = h.split ∙ append-nil h.begin in
    (h.course, rw split h.comes, h.goes, h.at, h.adds)
rest_over o p first piece (x ∷ rest) kept phase a b h e = absurd (omega arith)
