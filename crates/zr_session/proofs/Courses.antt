-- Courses one behind another.
use Rattle.std.proofs.Common.{◌≡◌, ◌∙◌, ap, refl, sym, ℕ, List, [], ◌∷◌, ◌++◌, append_assoc, append-nil, Option, Some, None}
use Rattle.zr_open.specs.Opening.{OpeningState}
use Rattle.zr_session.specs.declared.phase.Phase.{Phase}
use Rattle.zr_session.specs.declared.event.SessionEvent.{SessionEvent}
use Rattle.zr_session.specs.declared.fate.End.{End}
use Rattle.zr_session.specs.Course.{Course, going, joined, and_then}
use Rattle.zr_session.specs.Stream.{on_batch, on_batches}

abbrev course : Phase → List SessionEvent → List ℕ → Option End → Course
course p events bytes ends = record { phase = p; events = events; bytes = bytes; ends = ends }

-- a course that ended is not gone on with
pub then_ended : (c : Course) (f : Phase → Course) (how : End) → c.ends ≡ Some how → and_then c f ≡ c
then_ended c f how e = ap (λ z. joined z c (f c.phase)) e

pub then_open : (c : Course) (f : Phase → Course) → c.ends ≡ None → and_then c f ≡ joined None c (f c.phase)
then_open c f e = ap (λ z. joined z c (f c.phase)) e

pub assoc_open : (c a x : Course) (e : Option End) → a.ends ≡ e → joined e (joined None c a) x ≡ joined None c (joined e a x)
assoc_open c a x (Some how) h = refl
assoc_open c a x None h =
    ap (λ z. course x.phase z ((c.bytes ++ a.bytes) ++ x.bytes) x.ends) (append_assoc c.events a.events x.events)
    ∙ ap (λ z. course x.phase (c.events ++ (a.events ++ x.events)) z x.ends) (append_assoc c.bytes a.bytes x.bytes)

pub then_assoc : (c : Course) (f g : Phase → Course) → and_then (and_then c f) g ≡ and_then c (λ p. and_then (f p) g)
then_assoc c f g = by c.ends refl
  where
    by : (e : Option End) → c.ends ≡ e → and_then (joined e c (f c.phase)) g ≡ joined e c (and_then (f c.phase) g)
    by (Some how) h = then_ended c g how h
    by None h = assoc_open c (f c.phase) (g (f c.phase).phase) (f c.phase).ends refl

-- what is the same behind each phase is the same behind a course
same_behind : (c : Course) (f g : Phase → Course) → ((p : Phase) → f p ≡ g p) → and_then c f ≡ and_then c g
same_behind c f g e = ap (λ z. joined c.ends c z) (e c.phase)

pub batches_append : (o : OpeningState) (p : Phase) (xs ys : List (List ℕ)) →
    on_batches o p (xs ++ ys) ≡ and_then (on_batches o p xs) (λ q. on_batches o q ys)
unfolding on_batches
batches_append o p [] ys = refl
batches_append o p (x ∷ xs) ys =
    same_behind (on_batch o p x) (λ q. on_batches o q (xs ++ ys)) (λ q. and_then (on_batches o q xs) (λ z. on_batches o z ys)) (λ q. batches_append o q xs ys)
    ∙ sym (then_assoc (on_batch o p x) (λ q. on_batches o q xs) (λ z. on_batches o z ys))

pub then_nothing : (c : Course) → and_then c going ≡ c
then_nothing c = by c.ends refl
  where
    by : (e : Option End) → c.ends ≡ e → joined e c (going c.phase) ≡ c
    by (Some how) h = refl
    by None h =
        ap (λ z. course c.phase z (c.bytes ++ []) None) (append-nil c.events) ∙ ap (λ z. course c.phase c.events z None) (append-nil c.bytes)
        ∙ ap (λ z. course c.phase c.events c.bytes z) (sym h)
