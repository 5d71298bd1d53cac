-- A session takes a batch of one transport message.
use Rattle.std.proofs.Common.{◌≡◌, ◌∙◌, ap, refl, sym, subst, ℕ, ◌<◌, ◌^◌, false, List, [], ◌∷◌, ◌++◌, length, append-nil, None, Ok, arith}
use Rattle.std.proofs.lemmas.List.{append_cancel_left}
use Rattle.zr_frame_batch.specs.Framing.{framed}
use Rattle.zr_frame_batch.proofs.Cutting.{framed_is}
use Rattle.zr_trans.specs.declared.trans.Trans.{Trans}
use Rattle.zr_trans.specs.Writing.{writes_trans, fields_of}
use Rattle.zr_trans.specs.declared.trans.Trans.TheVariants.{Init, Open, Close, KeepAlive, Frame, Fragment}
use Rattle.zr_trans.specs.Laws.{WrittenMessagesAreRead}
use Rattle.zr_trans.specs.Reading.{trans_of}
use Rattle.zr_trans.specs.Trans.{MayStandBefore}
use Rattle.zr_open.specs.declared.expected.Expected.{Expected}
use Rattle.zr_open.specs.Opening.{OpeningState}
use Rattle.zr_session.specs.declared.event.Fed.{Fed}
use Rattle.zr_session.specs.declared.fate.Fate.{Fate}
use Rattle.zr_session.specs.declared.fate.Fate.TheVariants as fate
use Rattle.zr_session.specs.declared.fate.End.{End}
use Rattle.zr_session.specs.declared.fate.End.TheVariants as end
use Rattle.zr_session.specs.declared.phase.Phase.{Phase}
use Rattle.zr_session.specs.declared.phase.Phase.TheVariants.{Opening}
use Rattle.zr_session.specs.declared.state.State.{State}
use Rattle.zr_session.specs.declared.state.State.TheVariants.{Running, Ended, Spent}
use Rattle.zr_session.specs.Course.{Course, going, joined, and_then}
use Rattle.zr_session.specs.Stream.{Comes, Item, trans_item, items_within, on_batch, on_batches}
use Rattle.zr_session.specs.Step.{on_trans}
use Rattle.zr_session.specs.Session.{SessionState, Answers, Feeds, Gains, close_between, fate_of, begun, with_confirmed}
use Rattle.zr_session.specs.Session as place
use Rattle.zr_session.proofs.Courses.{then_nothing}
use Rattle.zr_session.proofs.Items.{left, left_item}
use Rattle.zr_session.proofs.Pieces.{comes_more}
use Rattle.zr_session.proofs.Feeding.{comes_nothing}
use Rattle.zr_session.proofs.Calls.{comes_one}
use Rattle.zr_netrun_batches.specs.Opening.{Stands, Takes, IsBatch}

-- ---- what a batch leads to

alone : (o : OpeningState) (p : Phase) (t : Trans) → trans_of (writes_trans t) ≡ Ok (t, []) → on_batch o p (writes_trans t) ≡ on_trans o p t
unfolding items_within
alone o p t e =
    left_item o (length (fields_of t)) false (writes_trans t) p (omega arith)
    ∙ ap (λ (i : Item). and_then i.course (left o (length (fields_of t)) i.in_frame i.rest)) (ap (trans_item o p) e)
    ∙ then_nothing (on_trans o p t)

batch_comes : (o : OpeningState) (p : Phase) (t : Trans) → length (writes_trans t) < 2 ^ 16 → trans_of (writes_trans t) ≡ Ok (t, []) →
    Comes o p (framed (writes_trans t)) (on_trans o p t) []
unfolding on_batches
batch_comes o p t short e = record {
  batches = writes_trans t ∷ [];
  are = (framed (writes_trans t), [], sym (append-nil (framed (writes_trans t))), framed_is (writes_trans t) short, refl);
  partial = omega arith;
  course = then_nothing (on_batch o p (writes_trans t)) ∙ alone o p t e;
}

-- a message that is written in a batch of its own is read again
at_end : (t : Trans) → MayStandBefore t []
at_end (Init answer version role id sizes cookie speaks) = tt
at_end (Open answer seconds lease number cookie) = tt
at_end (Close session reason) = tt
at_end KeepAlive = tt
at_end (Frame reliable number) = tt
at_end (Fragment reliable more number piece) = refl

pub read_again : WrittenMessagesAreRead → (t : Trans) → IsBatch t → trans_of (writes_trans t) ≡ Ok (t, [])
read_again law t h = subst (λ z. trans_of z ≡ Ok (t, [])) (append-nil (writes_trans t)) (law.again.again t [] h.fields (at_end t))

-- ---- what a session makes of it

not_going : (how : End) (f : Fate) (G : Type 0) → f ≡ fate_of how → f ≡ fate.Going → G
not_going (end.Closed reason) f G is goes = let bad : fate.Closed reason ≡ fate.Going = sym is ∙ goes in absurd cc
not_going (end.Peer reason) f G is goes = let bad : fate.Peer reason ≡ fate.Going = sym is ∙ goes in absurd cc

-- the session goes on in the phase behind the message
taken_by : (first : Expected) (o : OpeningState) (u : SessionState) (st : State) (fed batch : List ℕ) (c x d : Course) (f : Fate) →
    u.opening ≡ o → u.state ≡ st → Comes o (Opening first) (fed ++ batch) (joined None c x) [] → place.Stands first u.opening st u.kept (fed ++ batch) d →
    Answers st f → f ≡ fate.Going → (x.ends ≡ None) × Stands u o x.phase × (joined None c x ≡ d)
taken_by first o u (Running q) fed batch c x d f opening state whole there answers goes =
    let here : Comes o (Opening first) (fed ++ batch) d u.kept = subst (λ (z : OpeningState). Comes z (Opening first) (fed ++ batch) d u.kept) opening there.0 in
    let same = comes_one o (Opening first) (fed ++ batch) [] u.kept (joined None c x) d whole here in
    let ends : x.ends ≡ None = ap (λ (z : Course). z.ends) same.0 ∙ there.1 in
    let phase : q ≡ x.phase = sym there.2 ∙ sym (ap (λ (z : Course). z.phase) same.0) in (
      ends,
      record {
        opening = opening;
        state = state ∙ ap (λ z. Running z) phase;
        kept = sym same.1;
        first = first;
        fed = fed ++ batch;
        course = joined None c x;
        comes = whole;
        goes = ends;
        at = refl;
      },
      same.0,
    )
taken_by first o u (Ended how owed) fed batch c x d f opening state whole there answers goes = not_going how f _ answers goes
taken_by first o u Spent fed batch c x d f opening state whole there answers goes = absurd answers

no_close : (s u : State) (p q : Phase) → s ≡ Running p → u ≡ Running q → close_between s u ≡ []
no_close s u p q is goes = ap (λ z. close_between z u) is ∙ ap (λ z. close_between (Running p) z) goes

-- THE BATCH of a message was fed, and the session goes on.
pub batch_taken : (s u : SessionState) (batch : List ℕ) (old new : Fed) (f : Fate) (o : OpeningState) (p : Phase) (t : Trans) →
    Feeds s u batch old new → old.events.items ≡ [] → old.bytes.items ≡ [] → Answers u.state f → f ≡ fate.Going → trans_of (writes_trans t) ≡ Ok (t, []) →
    Stands s o p → batch ≡ framed (writes_trans t) → IsBatch t → Takes u o p t new.events.items new.bytes.items
batch_taken s u batch old new f o p t feeds no_events no_bytes answers goes read st is batch_is =
    let x : Course = on_trans o p t in
    let c : Course = st.course in
    let here : place.Stands st.first s.opening s.state s.kept st.fed c = rw (st.opening, st.state, st.kept) (st.comes, st.goes, st.at) in
    let on = feeds.on st.first st.fed c here in
    let d : Course = on.0 in
    let g = on.2 in
    let next : Comes o c.phase ([] ++ batch) x [] = rw (st.at, is) (batch_comes o p t batch_is.short read) in
    let whole : Comes o (Opening st.first) (st.fed ++ batch) (joined None c x) [] = comes_more o (Opening st.first) st.fed batch [] [] c x st.comes st.goes next in
    let k = taken_by st.first o u u.state st.fed batch c x d f (feeds.opening ∙ st.opening) refl whole on.1 answers goes in
    let closes : close_between s.state u.state ≡ [] = no_close s.state u.state p x.phase st.state k.1.state in
    let events : c.events ++ g.events ≡ c.events ++ x.events = sym g.are_events ∙ sym (ap (λ (z : Course). z.events) k.2) in
    let bytes : c.bytes ++ g.bytes ≡ c.bytes ++ x.bytes = sym g.are_bytes ∙ sym (ap (λ (z : Course). z.bytes) k.2) in
    record {
      goes = k.0;
      stands = k.1;
      events_are = g.new_events ∙ ap (λ z. z ++ g.events) no_events ∙ append_cancel_left c.events g.events x.events events;
      bytes_are = g.new_bytes ∙ ap (λ z. z ++ (g.bytes ++ close_between s.state u.state)) no_bytes ∙ ap (λ z. g.bytes ++ z) closes ∙ append-nil g.bytes
          ∙ append_cancel_left c.bytes g.bytes x.bytes bytes;
    }

-- ---- before and behind

-- a session that was fed nothing
pub begun_stands : (first : Expected) (o : OpeningState) (now : ℕ) → Stands (begun first o now) o (Opening first)
begun_stands first o now = record {
  opening = refl;
  state = refl;
  kept = refl;
  first = first;
  fed = [];
  course = going (Opening first);
  comes = comes_nothing o (Opening first);
  goes = refl;
  at = refl;
}

-- one whose peer was confirmed
pub confirmed_stands : (s : SessionState) (o : OpeningState) (p : Phase) → Stands s o p → Stands (with_confirmed s) o p
confirmed_stands s o p h = record {
  opening = h.opening;
  state = h.state;
  kept = h.kept;
  first = h.first;
  fed = h.fed;
  course = h.course;
  comes = h.comes;
  goes = h.goes;
  at = h.at;
}
