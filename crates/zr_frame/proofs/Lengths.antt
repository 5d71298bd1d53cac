-- Each packed batch is short enough, and what stands behind them is an outbox.
use Rattle.std.proofs.Common.{◌≡◌, ◌∙◌, refl, ℕ, zero, suc, ◌+◌, ◌-◌, ◌<◌, ◌≤◌, Bool, true, false, cond, List, [], ◌∷◌, ◌++◌, length, take, drop, length-append, mod-lt, Option, Some, None, nat_le, arith}
use Rattle.std.proofs.lemmas.Bool.Decides.{nat_tests}
use Rattle.std.proofs.lemmas.List.{length-take-le, length-drop}
use Rattle.std.specs.List.{AllByRecursion}
use Rattle.zr_bytes.specs.Number.{writes}
use Rattle.zr_trans.specs.Writing.{writes_trans}
use Rattle.zr_trans.specs.declared.trans.Trans.TheVariants.{Fragment}
use Rattle.zr_frame.specs.Turn.{modulus_of}
use Rattle.zr_frame.specs.Outbox.{OutboxState, IsOutbox, advanced}
use Rattle.zr_frame.specs.Packing.{Parcels, one_parcel, before, fits, with_message, closed, room, fragments, packed}
use Rattle.zr_frame.proofs.Heads.{some_room}
use Rattle.zr_frame.proofs.Splitting.{last_one, full_one}

-- the modulus is two at least
pub some_numbers : (bits : ℕ) → 2 ≤ modulus_of bits
some_numbers bits = grind (arith, nat_tests)

pub advanced_is : (o : OutboxState) → IsOutbox o → IsOutbox (advanced o)
advanced_is o h =
    let some = some_numbers o.bits in
    record { large = h.large; small = h.small; two_bits = h.two_bits; in_range = mod-lt (o.next + 1) (omega (arith, some)) }

abbrev pub IsShort : ℕ → List ℕ → Type 0
IsShort most batch = (0 < length batch) × (length batch ≤ most)

abbrev pub AreShort : ℕ → List (List ℕ) → Type 0
AreShort most batches = AllByRecursion (λ batch. IsShort most batch) batches

-- Batches that are short enough, with an outbox of the same sizes behind them.
pub record IsGood (o : OutboxState) (p : Parcels) : Type 0 where
  pub short : AreShort o.batch p.batches
  pub outbox : IsOutbox p.outbox
  pub batch : p.outbox.batch ≡ o.batch

short_append : (most : ℕ) (xs ys : List (List ℕ)) → AreShort most xs → AreShort most ys → AreShort most (xs ++ ys)
short_append most [] ys h k = k
short_append most (x ∷ xs) ys h k = (h.0, short_append most xs ys h.1 k)

good_before : (o : OutboxState) (p : Parcels) (f : OutboxState → Parcels) → IsGood o p → IsGood p.outbox (f p.outbox) → IsGood o (before p f)
good_before o p f h k = record {
  short = short_append o.batch p.batches (f p.outbox).batches h.short (rw (← h.batch) k.short);
  outbox = k.outbox;
  batch = k.batch ∙ h.batch;
}

good_one : (o : OutboxState) (batch : List ℕ) → IsOutbox o → IsShort o.batch batch → IsGood o (one_parcel o batch)
good_one o batch h k = record { short = (k, tt); outbox = advanced_is o h; batch = refl }

-- the frame that has begun fits, and has a byte
abbrev IsBegun : OutboxState → Option (List ℕ) → Type 0
IsBegun o None = Unit {0}
IsBegun o (Some frame) = IsShort o.batch frame

good_closed : (o : OutboxState) (frame : Option (List ℕ)) → IsOutbox o → IsBegun o frame → IsGood o (closed o frame)
good_closed o None h k = record { short = tt; outbox = h; batch = refl }
good_closed o (Some frame) h k = good_one o frame h k

length-fragment : (more : Bool) (n : ℕ) (piece : List ℕ) → length (writes_trans (Fragment true more n piece)) ≡ length (writes_trans (Fragment true true n [])) + length piece
length-fragment more n piece =
    let all = length-append (writes n) piece in
    let none = length-append (writes n) [] in
    omega (arith, all, none)

good_fragments : (most : ℕ) (o : OutboxState) (m : List ℕ) → IsOutbox o → length m ≤ most → IsGood o (fragments most o m)
unfolding fragments
good_fragments zero o m h few =
    let len = length-fragment false o.next m in
    let some = some_room o h.large in
    good_one o (writes_trans (Fragment true false o.next m)) h (omega arith, omega (arith, len, some, few, h.large))
good_fragments (suc most) o m h few = by (nat_le (length m) (room o)) refl (λ e. good_fragments most (advanced o) (drop (room o) m) (advanced_is o h) (shorter e))
  where
    some : 0 < room o
    some = some_room o h.large

    shorter : nat_le (length m) (room o) ≡ false → length (drop (room o) m) ≤ most
    shorter e =
        let long : room o < length m = grind (arith, nat_tests, e) in
        let len : length (drop (room o) m) ≡ length m - room o = length-drop (room o) m in
        omega (arith, long, len, few, some)

    by : (b : Bool) → nat_le (length m) (room o) ≡ b → (nat_le (length m) (room o) ≡ false → IsGood (advanced o) (fragments most (advanced o) (drop (room o) m))) →
        IsGood o (cond b (last_one o m) (before (one_parcel o (full_one o m)) (λ p. fragments most p (drop (room o) m))))
    by true e ih =
        let short : length m ≤ room o = grind (arith, nat_tests, e) in
        let len = length-fragment false o.next m in
        good_one o (writes_trans (Fragment true false o.next m)) h (omega arith, omega (arith, len, short, some))
    by false e ih =
        let long : room o < length m = grind (arith, nat_tests, e) in
        let len = length-fragment true o.next (take (room o) m) in
        let part : length (take (room o) m) ≡ room o = length-take-le (room o) m (omega (arith, long)) in
        good_before o (one_parcel o (full_one o m)) (λ p. fragments most p (drop (room o) m))
        (good_one o (full_one o m) h (omega arith, omega (arith, len, part, some))) (ih e)

-- a frame that takes one more message has a byte
some_bytes : (o : OutboxState) (frame : Option (List ℕ)) (w : List ℕ) → IsBegun o frame → 0 < length (with_message o frame w)
some_bytes o None w k = omega arith
some_bytes o (Some frame) w k = let len = length-append frame w in omega (arith, len, k.0)

begun_more : (o : OutboxState) (frame : Option (List ℕ)) (w : List ℕ) → IsBegun o frame → fits o (with_message o frame w) ≡ true →
    IsBegun o (Some (with_message o frame w))
begun_more o frame w k e =
    let few : length (with_message o frame w) ≤ o.batch = grind (arith, nat_tests, e) in
    (some_bytes o frame w k, few)

pub good_packed : (ws : List (List ℕ)) (o : OutboxState) (frame : Option (List ℕ)) → IsOutbox o → IsBegun o frame → IsGood o (packed o frame ws)
unfolding packed
good_packed [] o frame h k = good_closed o frame h k
good_packed (w ∷ ws) o frame h k =
    by (fits o (with_message o frame w)) (fits p (with_message p None w)) refl refl
    (λ e. good_packed ws o (Some (with_message o frame w)) h (begun_more o frame w k e))
    (λ e. good_packed ws p (Some (with_message p None w)) c.outbox (begun_more p None w tt e))
    (good_packed ws q None parts.outbox tt)
  where
    c : IsGood o (closed o frame)
    c = good_closed o frame h k

    p : OutboxState
    p = (closed o frame).outbox

    parts : IsGood p (fragments (length w) p w)
    parts = good_fragments (length w) p w c.outbox (omega arith)

    q : OutboxState
    q = (fragments (length w) p w).outbox

    by : (a b : Bool) → fits o (with_message o frame w) ≡ a → fits p (with_message p None w) ≡ b →
        (fits o (with_message o frame w) ≡ true → IsGood o (packed o (Some (with_message o frame w)) ws)) →
        (fits p (with_message p None w) ≡ true → IsGood p (packed p (Some (with_message p None w)) ws)) →
        IsGood q (packed q None ws) →
        IsGood o (cond a (packed o (Some (with_message o frame w)) ws) (before (closed o frame) (λ x. cond b (packed x (Some (with_message x None w)) ws) (before (fragments (length w) x w) (λ y. packed y None ws)))))
    by true b e f ia ib ic = ia e
    by false true e f ia ib ic = good_before o (closed o frame) (λ x. packed x (Some (with_message x None w)) ws) c (ib f)
    by false false e f ia ib ic =
        good_before o (closed o frame) (λ x. before (fragments (length w) x w) (λ y. packed y None ws)) c
        (good_before p (fragments (length w) p w) (λ y. packed y None ws) parts ic)
