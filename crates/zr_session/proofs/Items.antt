-- What is left of a batch, and what it leads to.
use Rattle.std.proofs.Common.{◌≡◌, refl, sym, ℕ, suc, ◌<◌, Bool, false, List, [], ◌∷◌, length, append-nil, Ok, Err, arith}
use Rattle.zr_open.specs.declared.error.Reason.TheVariants.{Invalid}
use Rattle.zr_open.specs.Opening.{OpeningState}
use Rattle.zr_session.specs.declared.phase.Phase.{Phase}
use Rattle.zr_session.specs.declared.event.Fed.{Fed}
use Rattle.zr_session.specs.declared.fate.End.TheVariants.{Closed}
use Rattle.zr_session.specs.declared.stop.ReadStop.{ReadStop}
use Rattle.zr_session.specs.declared.stop.ReadStop.TheVariants.{Ended, NoMemory}
use Rattle.zr_session.specs.Course.{Course, going, stops, and_then}
use Rattle.zr_session.specs.Stream.{items_within, item_of}
use Rattle.zr_session.specs.Done.{Adds, Reads, Goes}
use Rattle.zr_session.proofs.Courses.{then_ended}
use Rattle.zr_session.proofs.Reading.{Within, within_first, within_last, within_next, prefixes_nothing}

-- what so many messages at most lead to
abbrev pub left : OpeningState → ℕ → Bool → List ℕ → Phase → Course
left o most f bytes p = items_within most o f bytes p

left_none : (o : OpeningState) (most : ℕ) (f : Bool) (bytes : List ℕ) (p : Phase) → length bytes ≡ 0 → left o most f bytes p ≡ going p
unfolding items_within
left_none o most f [] p e = refl
left_none o most f (b ∷ bytes) p e = absurd (omega arith)

left_many : (o : OpeningState) (f : Bool) (bytes : List ℕ) (p : Phase) → 0 < length bytes → left o 0 f bytes p ≡ stops p (Closed Invalid)
unfolding items_within
left_many o f [] p e = absurd (omega arith)
left_many o f (b ∷ bytes) p e = refl

pub left_item : (o : OpeningState) (most : ℕ) (f : Bool) (bytes : List ℕ) (p : Phase) → 0 < length bytes →
    left o (suc most) f bytes p ≡ and_then (item_of o p f bytes).course (left o most (item_of o p f bytes).in_frame (item_of o p f bytes).rest)
unfolding items_within
left_item o most f [] p h = absurd (omega arith)
left_item o most f (b ∷ bytes) p h = refl

nothing : (p : Phase) (b : Fed) → Adds (going p) b b
nothing p b = record { events = sym (append-nil _); bytes = sym (append-nil _) }

-- nothing is left
pub is_over : (all : Course) (o : OpeningState) (most : ℕ) (f : Bool) (bytes : List ℕ) (p : Phase) (a b : Fed) →
    Within all (left o most f bytes) p a b → length bytes ≡ 0 → Goes (Ok tt) all p a b
is_over all o most f bytes p a b h e =
    let g : Goes (Ok tt) (left o most f bytes p) p b b = rw (left_none o most f bytes p e) (refl, refl, nothing p b) in
    within_last all (left o most f bytes) p p a b b (Ok tt) h g

-- no message may follow
pub is_spent : (all : Course) (o : OpeningState) (most : ℕ) (f : Bool) (bytes : List ℕ) (p : Phase) (a b : Fed) →
    Within all (left o most f bytes) p a b → most ≡ 0 → 0 < length bytes → Goes (Err (Ended (Closed Invalid))) all p a b
is_spent all o most f bytes p a b h none e =
    let g : Goes (Err (Ended (Closed Invalid))) (left o most f bytes p) p b b =
    rw (none, left_many o f bytes p e) (record { ends = refl; owed = refl }, record { events = sym (append-nil _); bytes = sym (append-nil _) }) in
    within_last all (left o most f bytes) p p a b b (Err (Ended (Closed Invalid))) h g

-- a message ended the session, or memory ran out
pub stops_here : (all : Course) (o : OpeningState) (most more : ℕ) (f : Bool) (bytes rest : List ℕ) (p q : Phase) (a b d : Fed) (e : ReadStop) →
    Within all (left o most f bytes) p a b → most ≡ suc more → 0 < length bytes → Reads (Err e) (item_of o p f bytes) q rest b d → Goes (Err e) all q a d
stops_here all o most more f bytes rest p q a b d (Ended how) h n some g =
    let item = item_of o p f bytes in
    let next = then_ended item.course (left o more item.in_frame item.rest) how g.0.ends in
    let k : Goes (Err (Ended how)) (left o most f bytes p) q b d = rw (n, left_item o more f bytes p some, next) g in
    within_last all (left o most f bytes) p q a b d (Err (Ended how)) h k
stops_here all o most more f bytes rest p q a b d NoMemory h n some g =
    within_last all (left o most f bytes) p q a b d (Err NoMemory) h (prefixes_nothing (left o most f bytes p) b d g)

-- a message more was read
pub goes_on : (all : Course) (o : OpeningState) (most more : ℕ) (f g : Bool) (bytes rest : List ℕ) (p q : Phase) (a b d : Fed) →
    Within all (left o most f bytes) p a b → most ≡ suc more → 0 < length bytes → Reads (Ok g) (item_of o p f bytes) q rest b d →
    Within all (left o more g rest) q a d
goes_on all o most more f g bytes rest p q a b d h n some k =
    let item = item_of o p f bytes in
    let e : left o most f bytes p ≡ and_then item.course (left o more item.in_frame item.rest) = rw n (left_item o more f bytes p some) in
    let w = within_next all (left o most f bytes) (left o more item.in_frame item.rest) item.course p q a b d h e k.0 k.1 k.4 in
    rw (sym k.2, sym k.3) w

pub starts : (o : OpeningState) (n k : ℕ) (bytes c : List ℕ) (p : Phase) (out : Fed) → k ≡ n → c ≡ bytes →
    Within (left o n false bytes p) (left o k false c) p out out
starts o n k bytes c p out e h = rw (e, h) (within_first p (left o n false bytes) out)
