-- What the heads of frames and fragments take.
use Rattle.std.proofs.Common.{◌≡◌, ◌∙◌, ℕ, ◌<◌, ◌≤◌, Bool, true, List, [], ◌++◌, length, append-nil, arith, ap, refl, Result, Ok, Err, IfOk}
use Rattle.zr_bytes.specs.Number.{writes}
use Rattle.zr_bytes.proofs.Numbers.{written_long}
use Rattle.zr_trans.specs.Writing.{writes_trans}
use Rattle.zr_trans.specs.declared.trans.Trans.TheVariants.{Frame, Fragment}
use Rattle.zr_frame.specs.Outbox.{OutboxState}
use Rattle.zr_frame.specs.Packing.{room}

-- a number takes nine bytes at most
pub length-writes : (value : ℕ) → length (writes value) ≤ 9
length-writes value = let h = written_long 8 value in omega (arith, h)

pub length_frame_head : (n : ℕ) → length (writes_trans (Frame true n)) ≤ 10
length_frame_head n = let few = length-writes n in omega (arith, few)

pub length-fragment_head : (more : Bool) (n : ℕ) → length (writes_trans (Fragment true more n [])) ≤ 10
length-fragment_head more n =
    let few = length-writes n in
    let none : length (writes n ++ []) ≡ length (writes n) = ap length (append-nil (writes n)) in
    omega (arith, few, none)

-- a fragment has room for a byte at least
pub some_room : (o : OutboxState) → 64 ≤ o.batch → 0 < room o
some_room o large = let few = length-fragment_head true o.next in omega (arith, large, few)

-- the piece stands behind the head of its fragment
pub piece_behind : (more : Bool) (n : ℕ) (piece : List ℕ) → writes_trans (Fragment true more n []) ++ piece ≡ writes_trans (Fragment true more n piece)
piece_behind more n piece = rw (append-nil (writes n)) refl

-- what a call wrote
pub written_short : {E : Type 0} (more : Bool) (n : ℕ) (piece : List ℕ) (r : Result (List ℕ) E) → piece ≡ [] →
    IfOk r (λ b. b ≡ writes_trans (Fragment true more n piece)) → IfOk r (λ b. length b ≤ 10)
written_short more n piece (Ok b) e h =
    let few = length-fragment_head more n in
    let len : length b ≡ length (writes_trans (Fragment true more n [])) = ap length h ∙ ap (λ (p : List ℕ). length (writes_trans (Fragment true more n p))) e in
    omega (arith, few, len)
written_short more n piece (Err x) e h = tt
