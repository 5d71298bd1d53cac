-- What is packed is received again. That written transport messages are read again is handed in.
use Rattle.std.proofs.Common.{◌≡◌, ◌∙◌, ap, refl, sym, subst, ℕ, zero, suc, ◌+◌, ◌-◌, ◌%◌, ◌<◌, ◌≤◌, inl, inr, Bool, true, false, cond, List, [], ◌∷◌, ◌++◌, length, take, drop, take-append-drop, length-append, append-nil, append_assoc, Ok, Option, Some, None, nat_le, nat_lt, arith}
use Rattle.std.proofs.Math.Nat.{mod_self}
use Rattle.std.proofs.lemmas.Bool.Decides.{nat_tests}
use Rattle.std.proofs.lemmas.List.Folds.{concat-append}
use Rattle.std.specs.List.{AllByRecursion, concat}
use Rattle.zr_lists.proofs.Numbers.{same_number}
use Rattle.zr_trans.specs.Reading.{trans_of}
use Rattle.zr_trans.specs.Writing.{writes_trans, Fits, IsNamed}
use Rattle.zr_trans.specs.Trans.{MayStandBefore}
use Rattle.zr_trans.specs.declared.trans.Trans.{Trans}
use Rattle.zr_trans.specs.declared.trans.Trans.TheVariants.{Frame, Fragment}
use Rattle.zr_frame.specs.declared.channel.Channel.{Channel}
use Rattle.zr_frame.specs.Turn.{Turn, modulus_of, accepts}
use Rattle.zr_frame.specs.Channel.{so_far, in_turn, frame, fragment}
use Rattle.zr_frame.specs.Outbox.{OutboxState, IsOutbox, advanced}
use Rattle.zr_frame.specs.Packing.{Parcels, one_parcel, before, fits, with_message, closed, room, fragments, packed}
use Rattle.zr_frame.specs.Laws.{HandsOn, Delivers, expecting}
use Rattle.zr_frame.proofs.Splitting.{last_one, full_one}
use Rattle.zr_frame.proofs.Lengths.{some_numbers, advanced_is}

-- what is written of a transport message is read again
abbrev pub ReadsAgain : Type 0
ReadsAgain = (t : Trans) (rest : List ℕ) → Fits t → IsNamed t → MayStandBefore t rest → trans_of (writes_trans t ++ rest) ≡ Ok (t, rest)

-- batches behind batches deliver messages behind messages
pub delivers_append : (most : ℕ) (xs ys : List (List ℕ)) (c d e : Channel) (ms ns : List (List ℕ)) → Delivers most c xs ms d → Delivers most d ys ns e →
    Delivers most c (xs ++ ys) (ms ++ ns) e
delivers_append most [] ys c d e ms ns h k =
    subst (λ (z : List (List ℕ)). Delivers most c ys (z ++ ns) e) (sym h.0) (subst (λ (z : Channel). Delivers most z ys ns e) h.1 k)
delivers_append most (x ∷ xs) ys c d e ms ns h k =
    (h.0, h.1, h.2 ++ ns, ap (λ z. z ++ ns) h.3 ∙ append_assoc h.0 h.2 ns, h.4, delivers_append most xs ys h.1 d e h.2 ns h.5 k)

delivers_one : (most : ℕ) (c d : Channel) (batch : List ℕ) (ms : List (List ℕ)) → HandsOn most c batch ms d → Delivers most c (batch ∷ []) ms d
delivers_one most c d batch ms h = (ms, d, [], sym (append-nil ms), h, (refl, refl))

-- the number that is expected is accepted
next_accepted : (t : Turn) → t.next < t.modulus → 2 ≤ t.modulus → accepts t t.next ≡ true
next_accepted t h k =
    let all : t.next + t.modulus - t.next ≡ t.modulus = omega arith in
    let none : t.modulus % t.modulus ≡ 0 = mod_self t.modulus in
    rw (all, none) (grind (arith, nat_tests, h, k))

abbrev turn : OutboxState → Turn
turn o = record { modulus = modulus_of o.bits; next = o.next }

abbrev pub at : OutboxState → Option (List ℕ) → Channel
at o assembly = record { numbers = turn o; assembly = assembly }

accepted : (o : OutboxState) → IsOutbox o → accepts (turn o) o.next ≡ true
accepted o h = next_accepted (turn o) h.in_range (some_numbers o.bits)

-- a frame of messages
frame_delivers : ReadsAgain → (most : ℕ) (o : OutboxState) (vs : List (List ℕ)) → IsOutbox o →
    Delivers most (expecting o) ((writes_trans (Frame true o.next) ++ concat vs) ∷ []) vs (expecting (advanced o))
frame_delivers law most o vs h =
    let read : trans_of (writes_trans (Frame true o.next) ++ concat vs) ≡ Ok (Frame true o.next, concat vs) = law (Frame true o.next) (concat vs) tt tt tt in
    let good : frame (expecting o) o.next ≡ Ok (tt, expecting (advanced o)) = rw (accepted o h) refl in
    delivers_one most (expecting o) (expecting (advanced o)) (writes_trans (Frame true o.next) ++ concat vs) vs (inl (o.next, read, good))

fragment_read : ReadsAgain → (more : Bool) (n : ℕ) (piece : List ℕ) → trans_of (writes_trans (Fragment true more n piece)) ≡ Ok (Fragment true more n piece, [])
fragment_read law more n piece =
    ap trans_of (sym (append-nil (writes_trans (Fragment true more n piece)))) ∙ law (Fragment true more n piece) [] tt tt refl

-- the last fragment of a message
last_delivers : ReadsAgain → (most : ℕ) (o : OutboxState) (assembly : Option (List ℕ)) (m : List ℕ) → in_turn (turn o) assembly o.next ≡ true →
    length (so_far assembly ++ m) ≤ most → Delivers most (at o assembly) (last_one o m).batches ((so_far assembly ++ m) ∷ []) (expecting (advanced o))
last_delivers law most o assembly m good few =
    let short : nat_lt most (length (so_far assembly ++ m)) ≡ false = grind (arith, nat_tests, few) in
    let taken : fragment most (at o assembly) false o.next m ≡ Ok (Some (so_far assembly ++ m), expecting (advanced o)) = rw (good, short) refl in
    delivers_one most (at o assembly) (expecting (advanced o)) (writes_trans (Fragment true false o.next m)) ((so_far assembly ++ m) ∷ [])
    (inr (false, o.next, m, Some (so_far assembly ++ m), fragment_read law false o.next m, taken, refl))

-- another one
more_delivers : ReadsAgain → (most : ℕ) (o : OutboxState) (assembly : Option (List ℕ)) (m : List ℕ) → in_turn (turn o) assembly o.next ≡ true →
    length (so_far assembly ++ m) ≤ most → Delivers most (at o assembly) (writes_trans (Fragment true true o.next m) ∷ []) [] (at (advanced o) (Some (so_far assembly ++ m)))
more_delivers law most o assembly m good few =
    let short : nat_lt most (length (so_far assembly ++ m)) ≡ false = grind (arith, nat_tests, few) in
    let taken : fragment most (at o assembly) true o.next m ≡ Ok (None, at (advanced o) (Some (so_far assembly ++ m))) = rw (good, short) refl in
    delivers_one most (at o assembly) (at (advanced o) (Some (so_far assembly ++ m))) (writes_trans (Fragment true true o.next m)) []
    (inr (true, o.next, m, None, fragment_read law true o.next m, taken, refl))

-- a message in fragments
fragments_deliver : ReadsAgain → (fuel most : ℕ) (o : OutboxState) (assembly : Option (List ℕ)) (m : List ℕ) → in_turn (turn o) assembly o.next ≡ true →
    length (so_far assembly ++ m) ≤ most → Delivers most (at o assembly) (fragments fuel o m).batches ((so_far assembly ++ m) ∷ []) (expecting (fragments fuel o m).outbox)
unfolding fragments
fragments_deliver law zero most o assembly m good few = last_delivers law most o assembly m good few
fragments_deliver law (suc fuel) most o assembly m good few =
    by (nat_le (length m) (room o)) (fragments_deliver law fuel most (advanced o) (Some (so_far assembly ++ take (room o) m)) (drop (room o) m) (same_number (advanced o).next) (rw whole few))
  where
    whole : (so_far assembly ++ take (room o) m) ++ drop (room o) m ≡ so_far assembly ++ m
    whole = append_assoc (so_far assembly) (take (room o) m) (drop (room o) m) ∙ ap (λ z. so_far assembly ++ z) (take-append-drop (room o) m)

    part : length (so_far assembly ++ take (room o) m) ≤ most
    part =
        let len = length-append (so_far assembly ++ take (room o) m) (drop (room o) m) in
        let all : length ((so_far assembly ++ take (room o) m) ++ drop (room o) m) ≡ length (so_far assembly ++ m) = ap length whole in
        omega (arith, len, all, few)

    rest : Parcels
    rest = fragments fuel (advanced o) (drop (room o) m)

    by : (b : Bool) →
        Delivers most (at (advanced o) (Some (so_far assembly ++ take (room o) m))) rest.batches (((so_far assembly ++ take (room o) m) ++ drop (room o) m) ∷ []) (expecting rest.outbox) →
        Delivers most (at o assembly) (cond b (last_one o m) (before (one_parcel o (full_one o m)) (λ p. fragments fuel p (drop (room o) m)))).batches ((so_far assembly ++ m) ∷ [])
        (expecting (cond b (last_one o m) (before (one_parcel o (full_one o m)) (λ p. fragments fuel p (drop (room o) m)))).outbox)
    by true ih = last_delivers law most o assembly m good few
    by false ih =
        delivers_append most (full_one o m ∷ []) rest.batches (at o assembly) (at (advanced o) (Some (so_far assembly ++ take (room o) m))) (expecting rest.outbox) [] ((so_far assembly ++ m) ∷ [])
        (more_delivers law most o assembly (take (room o) m) good part)
        (subst (λ (z : List ℕ). Delivers most (at (advanced o) (Some (so_far assembly ++ take (room o) m))) rest.batches (z ∷ []) (expecting rest.outbox)) whole ih)

-- The frame that has begun has these messages.
abbrev pub Holds : OutboxState → Option (List ℕ) → List (List ℕ) → Type 0
Holds o None vs = vs ≡ []
Holds o (Some f) vs = f ≡ writes_trans (Frame true o.next) ++ concat vs

closed_delivers : ReadsAgain → (most : ℕ) (o : OutboxState) (f : Option (List ℕ)) (vs : List (List ℕ)) → IsOutbox o → Holds o f vs →
    Delivers most (expecting o) (closed o f).batches vs (expecting (closed o f).outbox)
closed_delivers law most o None vs h k = (k, refl)
closed_delivers law most o (Some f) vs h k =
    subst (λ (z : List ℕ). Delivers most (expecting o) (z ∷ []) vs (expecting (advanced o))) (sym k) (frame_delivers law most o vs h)

holds_more : (o : OutboxState) (f : Option (List ℕ)) (vs : List (List ℕ)) (w : List ℕ) → Holds o f vs → Holds o (Some (with_message o f w)) (vs ++ w ∷ [])
holds_more o None vs w k =
    ap (λ z. writes_trans (Frame true o.next) ++ z) (sym (append-nil w) ∙ ap (λ (z : List (List ℕ)). concat (z ++ w ∷ [])) (sym k))
holds_more o (Some f) vs w k =
    ap (λ z. z ++ w) k ∙ append_assoc (writes_trans (Frame true o.next)) (concat vs) w
    ∙ ap (λ z. writes_trans (Frame true o.next) ++ z) (ap (λ z. concat vs ++ z) (sym (append-nil w)) ∙ sym (concat-append vs (w ∷ [])))

closed_is : (o : OutboxState) (f : Option (List ℕ)) → IsOutbox o → IsOutbox (closed o f).outbox
closed_is o None h = h
closed_is o (Some f) h = advanced_is o h

fragments_are : (fuel : ℕ) (o : OutboxState) (m : List ℕ) → IsOutbox o → IsOutbox (fragments fuel o m).outbox
unfolding fragments
fragments_are zero o m h = advanced_is o h
fragments_are (suc fuel) o m h = by (nat_le (length m) (room o)) (fragments_are fuel (advanced o) (drop (room o) m) (advanced_is o h))
  where
    by : (b : Bool) → IsOutbox (fragments fuel (advanced o) (drop (room o) m)).outbox →
        IsOutbox (cond b (last_one o m) (before (one_parcel o (full_one o m)) (λ p. fragments fuel p (drop (room o) m)))).outbox
    by true ih = advanced_is o h
    by false ih = ih

-- MESSAGES IN ORDER, behind those of the frame that has begun.
pub packed_deliver : ReadsAgain → (most : ℕ) (ws : List (List ℕ)) (o : OutboxState) (f : Option (List ℕ)) (vs : List (List ℕ)) → IsOutbox o → Holds o f vs →
    AllByRecursion (λ w. length w ≤ most) ws → Delivers most (expecting o) (packed o f ws).batches (vs ++ ws) (expecting (packed o f ws).outbox)
unfolding packed
packed_deliver law most [] o f vs h k few =
    subst (λ (z : List (List ℕ)). Delivers most (expecting o) (closed o f).batches z (expecting (closed o f).outbox)) (sym (append-nil vs)) (closed_delivers law most o f vs h k)
packed_deliver law most (w ∷ ws) o f vs h k few =
    by (fits o (with_message o f w)) (fits p (with_message p None w))
    (packed_deliver law most ws o (Some (with_message o f w)) (vs ++ w ∷ []) h (holds_more o f vs w k) few.1)
    (packed_deliver law most ws p (Some (with_message p None w)) (w ∷ []) p_is (holds_more p None [] w refl) few.1)
    (packed_deliver law most ws q None [] (fragments_are (length w) p w p_is) refl few.1)
  where
    p : OutboxState
    p = (closed o f).outbox

    p_is : IsOutbox p
    p_is = closed_is o f h

    q : OutboxState
    q = (fragments (length w) p w).outbox

    first : Delivers most (expecting o) (closed o f).batches vs (expecting p)
    first = closed_delivers law most o f vs h k

    parts : Delivers most (expecting p) (fragments (length w) p w).batches (w ∷ []) (expecting q)
    parts = fragments_deliver law (length w) most p None w (accepted p p_is) few.0

    by : (a b : Bool) →
        Delivers most (expecting o) (packed o (Some (with_message o f w)) ws).batches ((vs ++ w ∷ []) ++ ws) (expecting (packed o (Some (with_message o f w)) ws).outbox) →
        Delivers most (expecting p) (packed p (Some (with_message p None w)) ws).batches (w ∷ ws) (expecting (packed p (Some (with_message p None w)) ws).outbox) →
        Delivers most (expecting q) (packed q None ws).batches ws (expecting (packed q None ws).outbox) →
        Delivers most (expecting o)
        (cond a (packed o (Some (with_message o f w)) ws) (before (closed o f) (λ x. cond b (packed x (Some (with_message x None w)) ws) (before (fragments (length w) x w) (λ y. packed y None ws))))).batches
        (vs ++ w ∷ ws)
        (expecting (cond a (packed o (Some (with_message o f w)) ws) (before (closed o f) (λ x. cond b (packed x (Some (with_message x None w)) ws) (before (fragments (length w) x w) (λ y. packed y None ws))))).outbox)
    by true b ia ib ic =
        subst (λ (z : List (List ℕ)). Delivers most (expecting o) (packed o (Some (with_message o f w)) ws).batches z (expecting (packed o (Some (with_message o f w)) ws).outbox)) (append_assoc vs (w ∷ []) ws) ia
    by false true ia ib ic =
        delivers_append most (closed o f).batches (packed p (Some (with_message p None w)) ws).batches (expecting o) (expecting p) (expecting (packed p (Some (with_message p None w)) ws).outbox) vs (w ∷ ws) first ib
    by false false ia ib ic =
        delivers_append most (closed o f).batches ((fragments (length w) p w).batches ++ (packed q None ws).batches) (expecting o) (expecting p) (expecting (packed q None ws).outbox) vs (w ∷ ws) first
        (delivers_append most (fragments (length w) p w).batches (packed q None ws).batches (expecting p) (expecting q) (expecting (packed q None ws).outbox) (w ∷ []) ws parts ic)
