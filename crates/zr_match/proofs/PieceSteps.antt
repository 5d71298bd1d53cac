-- The pieces of a chunk, byte by byte.
use Rattle.std.proofs.Common.{◌≡◌, ℕ, ◌==◌, ◌+◌, ◌<◌, ◌≤◌, ◌∷◌, ◌++◌, [], List, Bool, true, false, cond, refl, ap, ◌∙◌, arith, length, take, drop, get_or, reverse, append-nil}
use Rattle.std.proofs.lemmas.Bool.{ne_eqb}
use Rattle.std.proofs.lemmas.List.{drop_more, take_more, reverse-append}
use Rattle.zr_key.specs.Expression.{Char, AnyChars}
use Rattle.zr_key.specs.Key.{pieces_of}
use Rattle.zr_match.specs.Table.{piece_of}

star_cons : (b : ℕ) (bs : List ℕ) → b ≡ 42 → pieces_of (b ∷ bs) ≡ pieces_of bs
star_cons b bs e = rw e refl

piece_cons : (b : ℕ) (bs : List ℕ) → (b ≡ 42 → ⊥) → pieces_of (b ∷ bs) ≡ piece_of b ∷ pieces_of bs
piece_cons b bs ne = by (b == 36) (b == 42) (ne_eqb b 42 ne)
  where
    by : (t u : Bool) → u ≡ false → cond t (AnyChars ∷ pieces_of bs) (cond u (pieces_of bs) (Char b ∷ pieces_of bs)) ≡ cond t AnyChars (Char b) ∷ pieces_of bs
    by true u e = refl
    by false true e = cc
    by false false e = refl

-- the rest of a chunk begins with a `*` or another byte
pub star_next : (bs : List ℕ) (i : ℕ) → i < length bs → get_or bs i 0 ≡ 42 → pieces_of (drop i bs) ≡ pieces_of (drop (i + 1) bs)
star_next bs i within e = ap (λ z. pieces_of z) (drop_more bs i 0 within) ∙ star_cons (get_or bs i 0) (drop (i + 1) bs) e

pub piece_next : (bs : List ℕ) (i : ℕ) → i < length bs → (get_or bs i 0 ≡ 42 → ⊥) → pieces_of (drop i bs) ≡ piece_of (get_or bs i 0) ∷ pieces_of (drop (i + 1) bs)
piece_next bs i within ne = ap (λ z. pieces_of z) (drop_more bs i 0 within) ∙ piece_cons (get_or bs i 0) (drop (i + 1) bs) ne

-- a chunk has no more pieces than bytes
pub pieces_fit : (bs : List ℕ) → length (pieces_of bs) ≤ length bs
pieces_fit [] = omega arith
pieces_fit (b ∷ bs) = by (b == 36) (b == 42) (pieces_fit bs)
  where
    by : (t u : Bool) → length (pieces_of bs) ≤ length bs → length (cond t (AnyChars ∷ pieces_of bs) (cond u (pieces_of bs) (Char b ∷ pieces_of bs))) ≤ length (b ∷ bs)
    by true u h = omega arith
    by false true h = omega arith
    by false false h = omega arith

pieces_of-append : (xs ys : List ℕ) → pieces_of (xs ++ ys) ≡ pieces_of xs ++ pieces_of ys
pieces_of-append [] ys = refl
pieces_of-append (b ∷ xs) ys = by (b == 36) (b == 42) (pieces_of-append xs ys)
  where
    by : (t u : Bool) → pieces_of (xs ++ ys) ≡ pieces_of xs ++ pieces_of ys
        → cond t (AnyChars ∷ pieces_of (xs ++ ys)) (cond u (pieces_of (xs ++ ys)) (Char b ∷ pieces_of (xs ++ ys)))
        ≡ cond t (AnyChars ∷ pieces_of xs) (cond u (pieces_of xs) (Char b ∷ pieces_of xs)) ++ pieces_of ys
    by true u h = ap (λ z. AnyChars ∷ z) h
    by false true h = h
    by false false h = ap (λ z. Char b ∷ z) h

-- the pieces so far, the last one first
pub star_taken : (bs : List ℕ) (i : ℕ) → i < length bs → get_or bs i 0 ≡ 42 → reverse (pieces_of (take (i + 1) bs)) ≡ reverse (pieces_of (take i bs))
star_taken bs i within e =
    ap (λ z. reverse (pieces_of z)) (take_more bs i 0 within)
    ∙ ap (λ z. reverse z) (pieces_of-append (take i bs) (get_or bs i 0 ∷ []) ∙ ap (λ z. pieces_of (take i bs) ++ z) (star_cons (get_or bs i 0) [] e) ∙ append-nil (pieces_of (take i bs)))

pub piece_taken : (bs : List ℕ) (i : ℕ) → i < length bs → (get_or bs i 0 ≡ 42 → ⊥) → reverse (pieces_of (take (i + 1) bs)) ≡ piece_of (get_or bs i 0) ∷ reverse (pieces_of (take i bs))
piece_taken bs i within ne =
    ap (λ z. reverse (pieces_of z)) (take_more bs i 0 within)
    ∙ ap (λ z. reverse z) (pieces_of-append (take i bs) (get_or bs i 0 ∷ []) ∙ ap (λ z. pieces_of (take i bs) ++ z) (piece_cons (get_or bs i 0) [] ne))
    ∙ reverse-append (pieces_of (take i bs)) (piece_of (get_or bs i 0) ∷ [])
