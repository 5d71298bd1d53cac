-- What is written of a chunk and of what waits in front of it is the canonical form's text.
use Rattle.std.proofs.Common.{◌≡◌, ℕ, ◌==◌, ◌&&◌, ◌||◌, ◌∷◌, ◌++◌, ◌-◌, [], List, Bool, true, false, cond, not, nat_eq, refl, sym, ap, ◌∙◌, append_assoc, append-nil, length, take, arith, length-append}
use Rattle.std.specs.List.{list_any, list_all, flat_map}
use Rattle.std.specs.Cmp.Lexicographic.{pointwise}
use Rattle.std.proofs.lemmas.Bool.{not-true, not-false, false≢true}
use Rattle.std.proofs.lemmas.List.{take_at}
use Rattle.zr_key.specs.Expression.{Piece, Char, AnyChars, Chunk, Any, AnyChunks, Pieces, piece_text, chunk_text, spelled, is_any_chars}
use Rattle.zr_key.specs.Key.{pieces_of, chunk_of, single, alone, settled, ordered, lined}
use Rattle.zr_key.proofs.Spelling.{same_bytes}

-- pieces keep their characters
abbrev has_char : List Piece → Bool
has_char p = list_any (λ x. not (is_any_chars x)) p

has_char-single : (after : Bool) (p : List Piece) → has_char (single after p) ≡ has_char p
has_char-single true [] = refl
has_char-single false [] = refl
has_char-single true (Char c ∷ p) = refl
has_char-single false (Char c ∷ p) = refl
has_char-single true (AnyChars ∷ p) = has_char-single true p
has_char-single false (AnyChars ∷ p) = has_char-single true p

alone_pieces : (p : List Piece) → has_char p ≡ true → alone p ≡ Pieces p
alone_pieces [] h = cc
alone_pieces (Char c ∷ p) h = refl
alone_pieces (AnyChars ∷ []) h = cc
alone_pieces (AnyChars ∷ x ∷ p) h = refl

alone_any : (p : List Piece) → has_char p ≡ false → (alone (single false p) ≡ Any) × (single true p ≡ [])
alone_any [] h = (refl, refl)
alone_any (Char c ∷ p) h = cc
alone_any (AnyChars ∷ p) h =
    let none : single true p ≡ [] = (alone_any p h).1 in
    (rw none refl, none)

-- a chunk of stars alone has no character
stars_only : (bs : List ℕ) → list_all (λ b. b == 36 || b == 42) bs ≡ not (has_char (pieces_of bs))
stars_only [] = refl
stars_only (b ∷ bs) = by (b == 36) (b == 42) (stars_only bs)
  where
    by : (t u : Bool) → list_all (λ c. c == 36 || c == 42) bs ≡ not (has_char (pieces_of bs))
        → (t || u) && list_all (λ c. c == 36 || c == 42) bs ≡ not (has_char (cond t (AnyChars ∷ pieces_of bs) (cond u (pieces_of bs) (Char b ∷ pieces_of bs))))
    by true u ih = ih
    by false true ih = ih
    by false false ih = refl

-- the canonical form of a chunk, by the tests that are made
pub settled_stars : (text : List ℕ) → pointwise nat_eq text (42 ∷ 42 ∷ []) ≡ false → list_all (λ b. b == 36 || b == 42) text ≡ true → settled (chunk_of text) ≡ Any
settled_stars text two stars = by (pointwise nat_eq text (42 ∷ [])) (pointwise nat_eq text (42 ∷ 42 ∷ [])) two
  where
    none : has_char (pieces_of text) ≡ false
    none = not-true (has_char (pieces_of text)) (sym (stars_only text) ∙ stars)

    by : (t u : Bool) → u ≡ false → settled (cond t Any (cond u AnyChunks (Pieces (pieces_of text)))) ≡ Any
    by true u e = refl
    by false true e = cc
    by false false e = (alone_any (pieces_of text) none).0

pub settled_pieces : (text : List ℕ) → pointwise nat_eq text (42 ∷ 42 ∷ []) ≡ false → list_all (λ b. b == 36 || b == 42) text ≡ false → settled (chunk_of text) ≡ Pieces (single false (pieces_of text))
settled_pieces text two stars = by (pointwise nat_eq text (42 ∷ [])) (pointwise nat_eq text (42 ∷ 42 ∷ [])) refl two
  where
    some : has_char (single false (pieces_of text)) ≡ true
    some = has_char-single false (pieces_of text) ∙ not-false (has_char (pieces_of text)) (sym (stars_only text) ∙ stars)

    by : (t u : Bool) → pointwise nat_eq text (42 ∷ []) ≡ t → u ≡ false → settled (cond t Any (cond u AnyChunks (Pieces (pieces_of text)))) ≡ Pieces (single false (pieces_of text))
    by true u e f =
        let star : text ≡ 42 ∷ [] = same_bytes text (42 ∷ []) e in
        absurd (false≢true (sym stars ∙ ap (λ x. list_all (λ b. b == 36 || b == 42) x) star))
    by false true e f = cc
    by false false e f = alone_pieces (single false (pieces_of text)) some

pub settled_any_chunks : (text : List ℕ) → pointwise nat_eq text (42 ∷ 42 ∷ []) ≡ true → chunk_of text ≡ AnyChunks
settled_any_chunks text two = rw (same_bytes text (42 ∷ 42 ∷ []) two) refl

-- what a `*` and what pieces add
pub star_written : (waiting : Bool) (old new : List ℕ) (more : List Chunk) (x : Chunk) → x ≡ Any → new ≡ old ++ (42 ∷ 47 ∷ [])
    → new ++ lined (ordered waiting more) ≡ old ++ lined (ordered waiting (x ∷ more))
star_written true old new more x e h = ap (λ z. z ++ lined (ordered true more)) h ∙ append_assoc old (42 ∷ 47 ∷ []) (lined (ordered true more)) ∙ ap (λ y. old ++ lined (ordered true (y ∷ more))) (sym e)
star_written false old new more x e h = ap (λ z. z ++ lined (ordered false more)) h ∙ append_assoc old (42 ∷ 47 ∷ []) (lined (ordered false more)) ∙ ap (λ y. old ++ lined (ordered false (y ∷ more))) (sym e)

pub pieces_written : (waiting : Bool) (old mid new : List ℕ) (p : List Piece) (more : List Chunk) (x : Chunk) → x ≡ Pieces p
    → mid ≡ old ++ lined (ordered waiting []) → new ≡ mid ++ (flat_map piece_text p ++ 47 ∷ [])
    → new ++ lined (ordered false more) ≡ old ++ lined (ordered waiting (x ∷ more))
pieces_written true old mid new p more x e g h =
    ap (λ z. z ++ lined (ordered false more)) (h ∙ ap (λ z. z ++ (flat_map piece_text p ++ 47 ∷ [])) g)
    ∙ append_assoc (old ++ 42 ∷ 42 ∷ 47 ∷ []) (flat_map piece_text p ++ 47 ∷ []) (lined (ordered false more))
    ∙ append_assoc old (42 ∷ 42 ∷ 47 ∷ []) ((flat_map piece_text p ++ 47 ∷ []) ++ lined (ordered false more))
    ∙ ap (λ y. old ++ lined (ordered true (y ∷ more))) (sym e)
pieces_written false old mid new p more x e g h =
    ap (λ z. z ++ lined (ordered false more)) (h ∙ ap (λ z. z ++ (flat_map piece_text p ++ 47 ∷ [])) (g ∙ append-nil old))
    ∙ append_assoc old (flat_map piece_text p ++ 47 ∷ []) (lined (ordered false more))
    ∙ ap (λ y. old ++ lined (ordered false (y ∷ more))) (sym e)

pub any_chunks_waits : (waiting : Bool) (old : List ℕ) (more : List Chunk) (x : Chunk) → x ≡ AnyChunks → old ++ lined (ordered true more) ≡ old ++ lined (ordered waiting (settled x ∷ more))
any_chunks_waits true old more x e = ap (λ y. old ++ lined (ordered true (settled y ∷ more))) (sym e)
any_chunks_waits false old more x e = ap (λ y. old ++ lined (ordered false (settled y ∷ more))) (sym e)

-- the last `/` taken away
lined_is : (x : Chunk) (e : List Chunk) → lined (x ∷ e) ≡ spelled (x ∷ e) ++ 47 ∷ []
lined_is x [] = append-nil (chunk_text x ++ 47 ∷ [])
lined_is x (y ∷ e) =
    append_assoc (chunk_text x) (47 ∷ []) (lined (y ∷ e))
    ∙ ap (λ z. chunk_text x ++ 47 ∷ z) (lined_is y e)
    ∙ sym (append_assoc (chunk_text x) (47 ∷ spelled (y ∷ e)) (47 ∷ []))

pub lined_front : (e : List Chunk) → take (length (lined e) - 1) (lined e) ≡ spelled e
lined_front [] = refl
lined_front (x ∷ e) =
    let short : length (spelled (x ∷ e)) ≡ length (spelled (x ∷ e) ++ 47 ∷ []) - 1 = omega (arith, length-append (spelled (x ∷ e)) (47 ∷ [])) in
    ap (λ z. take (length z - 1) z) (lined_is x e) ∙ take_at (spelled (x ∷ e)) (47 ∷ []) (length (spelled (x ∷ e) ++ 47 ∷ []) - 1) short
