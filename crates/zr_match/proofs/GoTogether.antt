-- The tests of two chunks of pieces, by their bytes.
use Rattle.std.proofs.Common.{◌≡◌, ℕ, ◌==◌, ◌∷◌, [], List, Bool, true, false, cond, not, ◌||◌, ◌&&◌, refl, sym, ap, ◌∙◌, nat_eq, map}
use Rattle.std.specs.List.{list_any}
use Rattle.std.specs.Cmp.Lexicographic.{pointwise}
use Rattle.std.proofs.lemmas.Bool.{and_parts, or_parts, not-true}
use Rattle.zr_key.specs.Expression.{Char, AnyChars, Pieces, is_wild, begins_verbatim}
use Rattle.zr_key.specs.Key.{pieces_of, is_plain_text}
use Rattle.zr_key.proofs.Spelling.{is_wild-pieces_of}
use Rattle.zr_match.specs.Table.{pieces_compare, chunks_go_together}
use Rattle.zr_match.proofs.PieceTable.{compare_chars}

-- a chunk with neither `*` nor `$` is its characters
pub plain_chars : (bs : List ℕ) → list_any (λ b. b == 42 || b == 36) bs ≡ false → (pieces_of bs ≡ map (λ c. Char c) bs) × (is_wild (pieces_of bs) ≡ false)
plain_chars [] h = (refl, refl)
plain_chars (b ∷ bs) h =
    let parts = or_parts (b == 42 || b == 36) (list_any (λ c. c == 42 || c == 36) bs) h in
    let tests = or_parts (b == 42) (b == 36) parts.0 in
    by (b == 36) (b == 42) tests.1 tests.0 (plain_chars bs parts.1)
  where
    by : (t u : Bool) → t ≡ false → u ≡ false → (pieces_of bs ≡ map (λ c. Char c) bs) × (is_wild (pieces_of bs) ≡ false)
        → (cond t (AnyChars ∷ pieces_of bs) (cond u (pieces_of bs) (Char b ∷ pieces_of bs)) ≡ Char b ∷ map (λ c. Char c) bs)
        × (is_wild (cond t (AnyChars ∷ pieces_of bs) (cond u (pieces_of bs) (Char b ∷ pieces_of bs))) ≡ false)
    by true u e f ih = cc
    by false true e f ih = cc
    by false false e f ih = (ap (λ z. Char b ∷ z) ih.0, ih.1)

pub plain_case : (expands : Bool) (x y : List ℕ) → (is_plain_text x && is_plain_text y) ≡ true
    → pointwise nat_eq x y ≡ chunks_go_together expands (Pieces (pieces_of x)) (Pieces (pieces_of y))
plain_case expands x y h =
    let parts = and_parts (is_plain_text x) (is_plain_text y) h in
    let a = plain_chars x (not-true (list_any (λ b. b == 42 || b == 36) x) parts.0) in
    let b = plain_chars y (not-true (list_any (λ b. b == 42 || b == 36) y) parts.1) in
    let wild : is_wild (pieces_of x) ≡ false = a.1 in
    let wilder : is_wild (pieces_of y) ≡ false = b.1 in
    rw (wild, wilder) (sym (ap (λ p. pieces_compare expands p (pieces_of y)) a.0 ∙ ap (λ q. pieces_compare expands (map (λ c. Char c) x) q) b.0 ∙ compare_chars expands x y))

pub apart_case : (expands : Bool) (x y : List ℕ)
    → (list_any (λ b. b == 36) x && begins_verbatim (pieces_of y) || list_any (λ b. b == 36) y && begins_verbatim (pieces_of x)) ≡ true
    → false ≡ chunks_go_together expands (Pieces (pieces_of x)) (Pieces (pieces_of y))
apart_case expands x y h =
    let wild : is_wild (pieces_of x) ≡ list_any (λ b. b == 36) x = is_wild-pieces_of x in
    let wilder : is_wild (pieces_of y) ≡ list_any (λ b. b == 36) y = is_wild-pieces_of y in
    rw (wild, wilder) (by (list_any (λ b. b == 36) x && begins_verbatim (pieces_of y)) (list_any (λ b. b == 36) y && begins_verbatim (pieces_of x)) (pieces_compare expands (pieces_of x) (pieces_of y)) h)
  where
    by : (u v w : Bool) → (u || v) ≡ true → false ≡ (not u && not v && w)
    by true v w e = refl
    by false true w e = refl
    by false false w e = cc

pub open_case : (expands : Bool) (x y : List ℕ)
    → (list_any (λ b. b == 36) x && begins_verbatim (pieces_of y) || list_any (λ b. b == 36) y && begins_verbatim (pieces_of x)) ≡ false
    → pieces_compare expands (pieces_of x) (pieces_of y) ≡ chunks_go_together expands (Pieces (pieces_of x)) (Pieces (pieces_of y))
open_case expands x y h =
    let wild : is_wild (pieces_of x) ≡ list_any (λ b. b == 36) x = is_wild-pieces_of x in
    let wilder : is_wild (pieces_of y) ≡ list_any (λ b. b == 36) y = is_wild-pieces_of y in
    rw (wild, wilder) (by (list_any (λ b. b == 36) x && begins_verbatim (pieces_of y)) (list_any (λ b. b == 36) y && begins_verbatim (pieces_of x)) (pieces_compare expands (pieces_of x) (pieces_of y)) h)
  where
    by : (u v w : Bool) → (u || v) ≡ false → w ≡ (not u && not v && w)
    by true v w e = cc
    by false true w e = cc
    by false false w e = refl
