-- Reading the messages of a batch one after another.
use Rattle.std.proofs.Common.{◌≡◌, ◌∙◌, ap, refl, sym, subst, [], ◌++◌, append_assoc, append-nil, Result, None, Ok, Err}
use Rattle.zr_session.specs.declared.phase.Phase.{Phase}
use Rattle.zr_session.specs.declared.event.Fed.{Fed}
use Rattle.zr_session.specs.declared.stop.ReadStop.{ReadStop}
use Rattle.zr_session.specs.declared.stop.ReadStop.TheVariants.{Ended, NoMemory}
use Rattle.zr_session.specs.Course.{Course, going, joined, and_then}
use Rattle.zr_session.specs.Done.{Adds, AddsPrefixes, Keeps, Goes}
use Rattle.zr_session.proofs.Courses.{then_open, assoc_open}

-- So far a course has gone, and what is left leads it to where all leads.
pub record Within (all : Course) (rest : Phase → Course) (phase : Phase) (old new : Fed) : Type 0 where
  pub so_far : Course
  pub goes : so_far.ends ≡ None
  pub at : so_far.phase ≡ phase
  pub adds : Adds so_far old new
  pub leads : and_then so_far rest ≡ all

pub adds_nothing : (p : Phase) (out : Fed) → Adds (going p) out out
adds_nothing p out = record { events = sym (append-nil _); bytes = sym (append-nil _) }

pub within_first : (p : Phase) (rest : Phase → Course) (out : Fed) → Within (rest p) rest p out out
within_first p rest out = record { so_far = going p; goes = refl; at = refl; adds = adds_nothing p out; leads = refl }

-- two courses, one behind the other, were appended
pub adds_more : (c x : Course) (a b d : Fed) → Adds c a b → Adds x b d → Adds (joined None c x) a d
adds_more c x a b d h k = record {
  events = k.events ∙ ap (λ z. z ++ x.events) h.events ∙ append_assoc a.events.items c.events x.events;
  bytes = k.bytes ∙ ap (λ z. z ++ x.bytes) h.bytes ∙ append_assoc a.bytes.items c.bytes x.bytes;
}

-- a course, and then prefixes of another one
pub prefixes_more : (c x : Course) (a b d : Fed) → Adds c a b → AddsPrefixes x b d → AddsPrefixes (joined None c x) a d
prefixes_more c x a b d h k = record {
  events = c.events ++ k.events;
  other_events = k.other_events;
  bytes = c.bytes ++ k.bytes;
  other_bytes = k.other_bytes;
  are_events = ap (λ z. c.events ++ z) k.are_events ∙ sym (append_assoc c.events k.events k.other_events);
  are_bytes = ap (λ z. c.bytes ++ z) k.are_bytes ∙ sym (append_assoc c.bytes k.bytes k.other_bytes);
  new_events = k.new_events ∙ ap (λ z. z ++ k.events) h.events ∙ append_assoc a.events.items c.events k.events;
  new_bytes = k.new_bytes ∙ ap (λ z. z ++ k.bytes) h.bytes ∙ append_assoc a.bytes.items c.bytes k.bytes;
}

-- nothing is a prefix of everything
pub prefixes_nothing : (c : Course) (a b : Fed) → Keeps a b → AddsPrefixes c a b
prefixes_nothing c a b h = record {
  events = [];
  other_events = c.events;
  bytes = [];
  other_bytes = c.bytes;
  are_events = refl;
  are_bytes = refl;
  new_events = h.events ∙ sym (append-nil _);
  new_bytes = h.bytes ∙ sym (append-nil _);
}

-- the last part was done, and with it all
pub within_last : (all : Course) (rest : Phase → Course) (p q : Phase) (a b d : Fed) (result : Result (Unit {0}) ReadStop) →
    Within all rest p a b → Goes result (rest p) q b d → Goes result all q a d
within_last all rest p q a b d result h g =
    subst (λ (z : Course). Goes result z q a d) (sym (then_open h.so_far rest h.goes) ∙ h.leads) (by result g)
  where
    here : rest h.so_far.phase ≡ rest p
    here = ap rest h.at

    by : (result : Result (Unit {0}) ReadStop) → Goes result (rest p) q b d → Goes result (joined None h.so_far (rest h.so_far.phase)) q a d
    by (Ok x) g = rw here (g.0, g.1, adds_more h.so_far (rest p) a b d h.adds g.2)
    by (Err (Ended how)) g = rw here (record { ends = g.0.ends; owed = g.0.owed }, adds_more h.so_far (rest p) a b d h.adds g.1)
    by (Err NoMemory) g = rw here (prefixes_more h.so_far (rest p) a b d h.adds g)

-- one part more was done
pub within_next : (all : Course) (rest next : Phase → Course) (part : Course) (p q : Phase) (a b d : Fed) →
    Within all rest p a b → rest p ≡ and_then part next → part.ends ≡ None → part.phase ≡ q → Adds part b d → Within all next q a d
within_next all rest next part p q a b d h e goes at adds = record {
  so_far = joined None h.so_far part;
  goes = goes;
  at = at;
  adds = adds_more h.so_far part a b d h.adds adds;
  leads = assoc_open h.so_far part (next part.phase) part.ends refl
      ∙ ap (λ z. joined None h.so_far z) (sym e ∙ sym (ap rest h.at)) ∙ sym (then_open h.so_far rest h.goes) ∙ h.leads;
}
