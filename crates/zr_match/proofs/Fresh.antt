-- A character that an expression does not use, by counting: among one more numbers than it has characters, one is none of them.
use Rattle.std.proofs.Common.{◌≡◌, ℕ, suc, zero, ◌==◌, ◌+◌, ◌≤◌, ◌∷◌, [], List, Bool, true, false, cond, not, ◌||◌, ◌&&◌, refl, sym, ap, ◌∙◌, arith, length, length-append, nat_lt, nat_le}
use Rattle.std.specs.List.{list_any, list_all, filter, flat_map}
use Rattle.std.proofs.lemmas.Bool.{and_parts, and_from, or_right, eqb-true, ne_eqb, lt-ltb, le-leb}
use Rattle.std.proofs.lemmas.List.Folds.{list_all-append}
use Rattle.zr_key.specs.Expression.{Piece, Char, AnyChars, Chunk, Any, AnyChunks, Pieces, piece_text, chunk_text, spelled, is_plain, is_expression}
use Rattle.zr_key.proofs.Text.{slashed, slashed_is}
use Rattle.zr_match.specs.Laws.{IsFresh, piece_passes, chunk_passes, is_scalar}

-- the others of a list
abbrev others : ℕ → List ℕ → List ℕ
others z xs = filter (λ c. not (c == z)) xs

others_shorter : (z : ℕ) (xs : List ℕ) → length (others z xs) ≤ length xs
others_shorter z [] = omega arith
others_shorter z (x ∷ xs) = by (not (x == z)) (others_shorter z xs)
  where
    by : (t : Bool) → length (others z xs) ≤ length xs → length (cond t (x ∷ others z xs) (others z xs)) ≤ length (x ∷ xs)
    by true h = omega arith
    by false h = omega arith

others_fewer : (z : ℕ) (xs : List ℕ) → list_any (λ c. c == z) xs ≡ true → length (others z xs) + 1 ≤ length xs
others_fewer z [] h = cc
others_fewer z (x ∷ xs) h = by (x == z) h (λ g. others_fewer z xs g)
  where
    by : (t : Bool) → (t || list_any (λ c. c == z) xs) ≡ true → (list_any (λ c. c == z) xs ≡ true → length (others z xs) + 1 ≤ length xs)
        → length (cond (not t) (x ∷ others z xs) (others z xs)) + 1 ≤ length (x ∷ xs)
    by true g ih =
        let k = others_shorter z xs in
        omega arith
    by false g ih =
        let k = ih g in
        omega arith

-- what is none of the others, and not the one that was left out, is none of the list
none_of : (z y : ℕ) (xs : List ℕ) → (z ≡ y → ⊥) → list_all (λ c. not (c == z)) (others y xs) ≡ true → list_all (λ c. not (c == z)) xs ≡ true
none_of z y [] ne h = refl
none_of z y (x ∷ xs) ne h = by (x == y) refl h (λ g. none_of z y xs ne g)
  where
    by : (t : Bool) → (x == y) ≡ t → list_all (λ c. not (c == z)) (cond (not t) (x ∷ others y xs) (others y xs)) ≡ true
        → (list_all (λ c. not (c == z)) (others y xs) ≡ true → list_all (λ c. not (c == z)) xs ≡ true) → list_all (λ c. not (c == z)) (x ∷ xs) ≡ true
    by true e g ih =
        let same : x ≡ y = eqb-true x y e in
        let apart : (x == z) ≡ false = ne_eqb x z (λ q. ne (sym q ∙ same)) in
        and_from (not (x == z)) (list_all (λ c. not (c == z)) xs) (ap (λ b. not b) apart) (ih g)
    by false e g ih =
        let parts = and_parts (not (x == z)) (list_all (λ c. not (c == z)) (others y xs)) g in
        and_from (not (x == z)) (list_all (λ c. not (c == z)) xs) parts.0 (ih parts.1)

absent : (z : ℕ) (xs : List ℕ) → list_any (λ c. c == z) xs ≡ false → list_all (λ c. not (c == z)) xs ≡ true
absent z [] h = refl
absent z (x ∷ xs) h = by (x == z) h (λ g. absent z xs g)
  where
    by : (t : Bool) → (t || list_any (λ c. c == z) xs) ≡ false → (list_any (λ c. c == z) xs ≡ false → list_all (λ c. not (c == z)) xs ≡ true)
        → (not t && list_all (λ c. not (c == z)) xs) ≡ true
    by true g ih = cc
    by false g ih = ih g

absurd_at : (z y : ℕ) → y + 1 ≤ z → z ≡ y → ⊥
absurd_at z y low q = omega arith

-- a number from some place on that is none of a list
missing : (n from : ℕ) (xs : List ℕ) → length xs ≤ n → (z : ℕ) × (from ≤ z) × (z ≤ from + n) × (list_all (λ c. not (c == z)) xs ≡ true)
missing zero from [] h = (from, omega arith, omega arith, refl)
missing zero from (x ∷ xs) h = absurd (omega arith)
missing (suc n) from xs h = by (list_any (λ c. c == from) xs) refl (λ g. missing n (from + 1) (others from xs) g)
  where
    by : (t : Bool) → list_any (λ c. c == from) xs ≡ t
        → (length (others from xs) ≤ n → (z : ℕ) × (from + 1 ≤ z) × (z ≤ from + 1 + n) × (list_all (λ c. not (c == z)) (others from xs) ≡ true))
        → (z : ℕ) × (from ≤ z) × (z ≤ from + suc n) × (list_all (λ c. not (c == z)) xs ≡ true)
    by false e ih = (from, omega arith, omega arith, absent from xs e)
    by true e ih =
        let fewer = others_fewer from xs e in
        let m = ih (omega arith) in
        let low : from + 1 ≤ m.0 = m.1 in
        let high : m.0 ≤ from + 1 + n = m.2 in
        (m.0, omega arith, omega arith, none_of m.0 from xs (λ q. absurd_at m.0 from low q) m.3)

-- the characters of an expression, of which it has no more than its text has bytes
abbrev piece_chars : Piece → List ℕ
piece_chars (Char c) = c ∷ []
piece_chars AnyChars = []

abbrev chunk_chars : Chunk → List ℕ
chunk_chars Any = []
chunk_chars AnyChunks = []
chunk_chars (Pieces p) = flat_map piece_chars p

abbrev chars_of : List Chunk → List ℕ
chars_of a = flat_map chunk_chars a

pieces_fewer : (p : List Piece) → length (flat_map piece_chars p) ≤ length (flat_map piece_text p)
pieces_fewer [] = omega arith
pieces_fewer (Char c ∷ p) = omega (arith, pieces_fewer p)
pieces_fewer (AnyChars ∷ p) = omega (arith, pieces_fewer p)

chunk_fewer : (x : Chunk) → length (chunk_chars x) ≤ length (chunk_text x)
chunk_fewer Any = omega arith
chunk_fewer AnyChunks = omega arith
chunk_fewer (Pieces p) = pieces_fewer p

slashed_fewer : (a : List Chunk) → length (chars_of a) ≤ length (slashed a)
slashed_fewer [] = omega arith
slashed_fewer (x ∷ a) =
    let one = chunk_fewer x in
    let more = slashed_fewer a in
    let left = length-append (chunk_chars x) (chars_of a) in
    let right = length-append (chunk_text x) (slashed a) in
    omega arith

-- a character that is none of them is unused
unused_pieces : (z : ℕ) (p : List Piece) → list_all (λ c. not (c == z)) (flat_map piece_chars p) ≡ true → list_all (piece_passes (λ c. not (c == z))) p ≡ true
unused_pieces z [] h = refl
unused_pieces z (Char c ∷ p) h =
    let parts = and_parts (not (c == z)) (list_all (λ d. not (d == z)) (flat_map piece_chars p)) h in
    and_from (not (c == z)) (list_all (piece_passes (λ d. not (d == z))) p) parts.0 (unused_pieces z p parts.1)
unused_pieces z (AnyChars ∷ p) h = unused_pieces z p h

unused_chunk : (z : ℕ) (x : Chunk) → list_all (λ c. not (c == z)) (chunk_chars x) ≡ true → chunk_passes (λ c. not (c == z)) x ≡ true
unused_chunk z Any h = refl
unused_chunk z AnyChunks h = refl
unused_chunk z (Pieces p) h = unused_pieces z p h

unused : (z : ℕ) (a : List Chunk) → list_all (λ c. not (c == z)) (chars_of a) ≡ true → list_all (chunk_passes (λ c. not (c == z))) a ≡ true
unused z [] h = refl
unused z (x ∷ a) h =
    let parts = and_parts (list_all (λ c. not (c == z)) (chunk_chars x)) (list_all (λ c. not (c == z)) (chars_of a)) (sym (list_all-append (λ c. not (c == z)) (chunk_chars x) (chars_of a)) ∙ h) in
    and_from (chunk_passes (λ c. not (c == z)) x) (list_all (chunk_passes (λ c. not (c == z))) a) (unused_chunk z x parts.0) (unused z a parts.1)

-- a number that is large enough is a plain character
large : (z : ℕ) → 65536 ≤ z → z ≤ 65536 + 2048 → (is_scalar z ≡ true) × (is_plain z ≡ true) × ((z == 64) ≡ false)
large z low high =
    let slash : (z == 47) ≡ false = ne_eqb z 47 (λ e. omega arith) in
    let star : (z == 42) ≡ false = ne_eqb z 42 (λ e. omega arith) in
    let dollar : (z == 36) ≡ false = ne_eqb z 36 (λ e. omega arith) in
    let hash : (z == 35) ≡ false = ne_eqb z 35 (λ e. omega arith) in
    let mark : (z == 63) ≡ false = ne_eqb z 63 (λ e. omega arith) in (
      or_right (nat_lt z 55296) (nat_le 57344 z && nat_lt z 1114112) (and_from (nat_le 57344 z) (nat_lt z 1114112) (le-leb 57344 z (omega arith)) (lt-ltb z 1114112 (omega arith))),
      rw (slash, star, dollar, hash, mark) refl,
      ne_eqb z 64 (λ e. omega arith),
    )

pub fresh_there : (a : List Chunk) → is_expression a ≡ true → length (spelled a) ≤ 2048 → (z : ℕ) × IsFresh is_scalar a z
fresh_there [] ok short = cc
fresh_there (x ∷ a) ok short =
    let few = slashed_fewer (x ∷ a) in
    let text = ap length (slashed_is x a) in
    let first = chunk_fewer x in
    let rest = slashed_fewer a in
    let left = length-append (chunk_chars x) (chars_of a) in
    let right = length-append (chunk_text x) (slashed a) in
    let count : length (chars_of (x ∷ a)) ≤ 2048 = omega arith in
    let m = missing 2048 65536 (chars_of (x ∷ a)) count in
    let is = large m.0 m.1 m.2 in
    (m.0, record { known = is.0; plain = is.1; no_at = is.2; unused = unused m.0 (x ∷ a) m.3 })
