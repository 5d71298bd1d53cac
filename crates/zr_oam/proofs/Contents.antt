-- How a content is put: numbers of one byte, what is kept where memory runs out, and the length that is put last.
use Rattle.std.proofs.Common.{◌≡◌, ℕ, suc, ◌+◌, ◌-◌, ◌*◌, ◌/◌, ◌%◌, ◌<◌, ◌≤◌, List, [], ◌∷◌, ◌++◌, length, take, drop, Result, Ok, Err, refl, sym, ap, subst, ◌∙◌, append_assoc, arith}
use Rattle.std.specs.Prelude.{OnOk, OnErr, slice_set}
use Rattle.std.proofs.lemmas.Bool.{lt-ltb, le-ltb}
use Rattle.std.proofs.lemmas.List.{length-append, length-drop, take_at, drop_at, set_split}
use Rattle.zr_bytes.specs.Number.{writes, writes_within}
use Rattle.zr_bytes.specs.Text.{writes_text}
use Rattle.zr_bytes.specs.Reading.{byte_of, number_of, number_within, text_of}
use Rattle.zr_bytes.proofs.Steps.{ok_is}
use Rattle.zr_bytes.specs.Writing.{KeepsFront}
use Rattle.zr_bytes.proofs.Fronts.{front_kept}

-- two texts were put, and then a third one
pub both_put : {E : Type 0} (result : Result (Unit {0}) E) (before mid after a b c : List ℕ) → mid ≡ before ++ (a ++ b) → OnOk result (after ≡ mid ++ c) → OnOk result (after ≡ before ++ (a ++ (b ++ c)))
both_put (Ok u) before mid after a b c put h = h ∙ ap (λ z. z ++ c) put ∙ append_assoc before (a ++ b) c ∙ ap (λ z. before ++ z) (append_assoc a b c)
both_put (Err e) before mid after a b c put h = h

-- a number below 128 is one byte
pub one_byte : (value : ℕ) → value < 128 → writes value ≡ value ∷ []
unfolding writes_within
one_byte value small = rw (lt-ltb value 128 small) refl

pub number_of_one : (bytes rest : List ℕ) (b : ℕ) → byte_of bytes ≡ Ok (b, rest) → b < 128 → number_of bytes ≡ Ok (b, rest)
unfolding byte_of number_within
number_of_one [] rest b is small = absurd cc
number_of_one (x ∷ xs) rest b is small =
    subst (λ (p : ℕ × List ℕ). p.0 < 128 → number_of (x ∷ xs) ≡ Ok p) (ok_is (x, xs) (b, rest) is) (λ low. rw (lt-ltb x 128 low) refl) small

-- a byte string whose length is one byte
pub text_of_short : (bytes rest : List ℕ) (b : ℕ) → byte_of bytes ≡ Ok (b, rest) → b < 128 → b ≤ length rest → text_of 255 bytes ≡ Ok (take b rest, drop b rest)
unfolding text_of
text_of_short bytes rest b is small enough = rw (number_of_one bytes rest b is small, le-ltb 255 b (omega (arith, small)), le-ltb (length rest) b enough) refl

-- a number from 128 * 128 on that fits three groups is three bytes
pub three_bytes : (value : ℕ) → 128 * 128 ≤ value → value < 128 * 128 * 128 → writes value ≡ (value % 128 + 128) ∷ (value / 128 % 128 + 128) ∷ (value / 128 / 128) ∷ []
unfolding writes_within
three_bytes value large small =
    let more : 128 ≤ value = omega (arith, large) in
    let again : 128 ≤ value / 128 = omega (arith, large) in
    let last : value / 128 / 128 < 128 = omega (arith, small) in
    rw (le-ltb value 128 more, le-ltb (value / 128) 128 again, lt-ltb (value / 128 / 128) 128 last) refl

-- the length of what is behind `start` came into the place of the byte before it
pub length_put : (old : List ℕ) (start size : ℕ) → size ≡ length old → 0 < start → start ≤ length old → size - start < 128 →
    slice_set old (start - 1) (size - start) ≡ take (start - 1) old ++ writes_text (drop start old)
length_put old start size sized first within short =
    let next : suc (start - 1) ≡ start = omega (arith, first) in
    let count : length (drop start old) ≡ size - start = length-drop start old ∙ ap (λ (n : ℕ). n - start) (sym sized) in
    let spelled : writes_text (drop start old) ≡ (size - start) ∷ drop start old = ap (λ (n : ℕ). writes n ++ drop start old) count ∙ ap (λ (z : List ℕ). z ++ drop start old) (one_byte (size - start) short) in
    let cut : slice_set old (start - 1) (size - start) ≡ take (start - 1) old ++ (size - start) ∷ drop (suc (start - 1)) old = set_split old (start - 1) (size - start) (omega (arith, first, within)) in
    cut ∙ ap (λ (n : ℕ). take (start - 1) old ++ (size - start) ∷ drop n old) next ∙ ap (λ (z : List ℕ). take (start - 1) old ++ z) (sym spelled)

-- where a head was put with a byte behind it, and then a content
parts : (before head mid content whole : List ℕ) (start : ℕ) → mid ≡ before ++ (head ++ 0 ∷ []) → start ≡ length mid → whole ≡ mid ++ content →
    (take (start - 1) whole ≡ before ++ head) × (drop start whole ≡ content)
parts before head mid content whole start started at filled =
    let split : whole ≡ (before ++ head) ++ (0 ∷ content) = filled ∙ ap (λ (z : List ℕ). z ++ content) (started ∙ sym (append_assoc before head (0 ∷ []))) ∙ append_assoc (before ++ head) (0 ∷ []) content in
    let long : length mid ≡ length ((before ++ head) ++ 0 ∷ []) = ap (λ (z : List ℕ). length z) (started ∙ sym (append_assoc before head (0 ∷ []))) in
    let size : length (before ++ head) ≡ start - 1 = omega (arith, at, long, length-append (before ++ head) (0 ∷ [])) in
    (ap (λ (z : List ℕ). take (start - 1) z) split ∙ take_at (before ++ head) (0 ∷ content) (start - 1) size, ap (λ (z : List ℕ). drop start z) filled ∙ drop_at mid content start (sym at))

-- its length came into the place of the byte
pub own_put : {E : Type 0} (result : Result (Unit {0}) E) (before head mid content whole after : List ℕ) (start : ℕ) →
    mid ≡ before ++ (head ++ 0 ∷ []) → start ≡ length mid → whole ≡ mid ++ content → OnOk result (after ≡ take (start - 1) whole ++ writes_text (drop start whole)) →
    OnOk result (after ≡ before ++ (head ++ writes_text content))
own_put (Err e) before head mid content whole after start started at filled put = put
own_put (Ok u) before head mid content whole after start started at filled put =
    let is = parts before head mid content whole start started at filled in
    put ∙ rw (is.0, is.1) refl ∙ append_assoc before head (writes_text content)

-- where memory ran out for its length, what stood before the head is kept
pub own_fails : {E : Type 0} (result : Result (Unit {0}) E) (before head mid content whole after : List ℕ) (start : ℕ) →
    mid ≡ before ++ (head ++ 0 ∷ []) → start ≡ length mid → whole ≡ mid ++ content → OnErr result (take (start - 1) after ≡ take (start - 1) whole) →
    OnErr result (KeepsFront before after)
own_fails (Ok u) before head mid content whole after start started at filled kept = kept
own_fails (Err e) before head mid content whole after start started at filled kept =
    let is = parts before head mid content whole start started at filled in
    let size : length (before ++ head) ≡ start - 1 = omega (arith, at, ap (λ (z : List ℕ). length z) started, length-append before (head ++ 0 ∷ []), length-append head (0 ∷ []), length-append before head) in
    let keeps : take (start - 1) after ≡ before ++ head = kept ∙ is.0 in
    front_kept before head (before ++ head) after refl (ap (λ (n : ℕ). take n after) size ∙ keeps)
