-- Where two expressions of texts meet, a key of characters is matched by both.
use Rattle.std.proofs.Common.{◌≡◌, ℕ, ◌==◌, ◌≤◌, ◌∷◌, ◌++◌, [], List, Bool, true, false, cond, ◌&&◌, refl, sym, ap, subst, ◌∙◌, arith, nat_lt, nat_le, append_assoc, append-nil}
use lib.Utf8.{encode, encodes, scalar, scalars}
use Rattle.std.specs.List.{list_all, flat_map}
use Rattle.std.specs.Str.{IsUtf8, is_utf8, chars as chars_of_text}
use Rattle.std.proofs.lemmas.Bool.{and_parts, and_from, leb-true, ltb-true, ltb-false, ne_eqb}
use Rattle.std.proofs.lemmas.List.Folds.{list_all-append}
use Rattle.std.proofs.lemmas.Str.{encode_ascii, encodes-chars, scalars-chars, IsUtf8-append, IsUtf8-from_is_utf8, is_utf8-from_IsUtf8}
use Rattle.zr_key.specs.Expression.{Piece, Char, AnyChars, Chunk, piece_text, chunk_text, spelled, is_plain, is_piece, is_chunk, is_expression, is_key, is_key_chunk, Fits, Matches}
use Rattle.zr_key.specs.Key.{pieces_of, expression_of, IsKeyText}
use Rattle.zr_key.proofs.Spelling.{plain_parts}
use Rattle.zr_key.proofs.Text.{cut_at, slashed, slashed_is}
use Rattle.zr_key.proofs.CanonForm.{all_chunks}
use Rattle.zr_match.specs.Match.{Meets}
use Rattle.zr_match.specs.Table.{pieces_compare}
use Rattle.zr_match.specs.Laws.{piece_passes}
use Rattle.zr_match.proofs.Globs.{Common}
use Rattle.zr_match.proofs.PieceTable.{chars, compare_sound}
use Rattle.zr_match.proofs.ChunkTable.{Passes, good_key, good_chunk, filled, compare_passes, meets_compare, all_both, both_all, gap_more}
use Rattle.zr_match.proofs.Characters.{bytes_of, common_chars, fits_bytes, high_encode}
use Rattle.zr_match.proofs.Right.{some_chunks}

-- the pieces of the bytes of characters are the bytes of their pieces
high_pieces : (u r : List ℕ) → list_all (λ b. nat_le 128 b) u ≡ true → pieces_of (u ++ r) ≡ chars u ++ pieces_of r
high_pieces [] r h = refl
high_pieces (b ∷ u) r h =
    let parts = and_parts (nat_le 128 b) (list_all (λ c. nat_le 128 c) u) h in
    let high : 128 ≤ b = leb-true 128 b parts.0 in
    let dollar : (b == 36) ≡ false = ne_eqb b 36 (λ e. omega arith) in
    let star : (b == 42) ≡ false = ne_eqb b 42 (λ e. omega arith) in
    rw (dollar, star) (ap (λ z. Char b ∷ z) (high_pieces u r parts.1))

pub pieces_encoded : (cs : List ℕ) → pieces_of (encodes cs) ≡ bytes_of (pieces_of cs)
pieces_encoded [] = refl
pieces_encoded (c ∷ cs) = by (nat_lt c 128) refl (pieces_encoded cs)
  where
    low : (t u : Bool) → encode c ≡ c ∷ [] → pieces_of (encodes cs) ≡ bytes_of (pieces_of cs)
        → cond t (AnyChars ∷ pieces_of (encodes cs)) (cond u (pieces_of (encodes cs)) (Char c ∷ pieces_of (encodes cs))) ≡ bytes_of (cond t (AnyChars ∷ pieces_of cs) (cond u (pieces_of cs) (Char c ∷ pieces_of cs)))
    low true u e ih = ap (λ z. AnyChars ∷ z) ih
    low false true e ih = ih
    low false false e ih = ap (λ z. Char c ∷ z) ih ∙ ap (λ z. chars z ++ bytes_of (pieces_of cs)) (sym e)

    by : (t : Bool) → nat_lt c 128 ≡ t → pieces_of (encodes cs) ≡ bytes_of (pieces_of cs) → pieces_of (encode c ++ encodes cs) ≡ bytes_of (pieces_of (c ∷ cs))
    by true e ih =
        let ascii : encode c ≡ c ∷ [] = encode_ascii c (ltb-true c 128 e) in
        ap (λ z. pieces_of (z ++ encodes cs)) ascii ∙ low (c == 36) (c == 42) ascii ih
    by false e ih =
        let high : 128 ≤ c = ltb-false c 128 e in
        let dollar : (c == 36) ≡ false = ne_eqb c 36 (λ q. omega arith) in
        let star : (c == 42) ≡ false = ne_eqb c 42 (λ q. omega arith) in
        high_pieces (encode c) (encodes cs) (high_encode c high) ∙ ap (λ z. chars (encode c) ++ z) ih
        ∙ sym (ap (λ t. bytes_of (cond t (AnyChars ∷ pieces_of cs) (cond (c == 42) (pieces_of cs) (Char c ∷ pieces_of cs)))) dollar
        ∙ ap (λ t. bytes_of (cond t (pieces_of cs) (Char c ∷ pieces_of cs))) star)

-- pieces are those of their text
pieces_back : (p : List Piece) → list_all is_piece p ≡ true → pieces_of (flat_map piece_text p) ≡ p
pieces_back [] h = refl
pieces_back (Char c ∷ p) h =
    let parts = and_parts (is_plain c) (list_all is_piece p) h in
    let plain = plain_parts c parts.0 in
    let star : (c == 42) ≡ false = plain.1 in
    let dollar : (c == 36) ≡ false = plain.2 in
    rw (dollar, star) (ap (λ q. Char c ∷ q) (pieces_back p parts.1))
pieces_back (AnyChars ∷ p) h = ap (λ q. AnyChars ∷ q) (pieces_back p h)

-- a good character: it is one, and its bytes may stand in a key
abbrev pub good : ℕ → Bool
good c = scalar c && list_all is_plain (encode c)

scalar_pieces : (cs : List ℕ) → scalars cs ≡ true → list_all (piece_passes scalar) (pieces_of cs) ≡ true
scalar_pieces [] h = refl
scalar_pieces (c ∷ cs) h =
    let parts = and_parts (scalar c) (scalars cs) h in
    by (c == 36) (c == 42) parts.0 (scalar_pieces cs parts.1)
  where
    by : (t u : Bool) → scalar c ≡ true → list_all (piece_passes scalar) (pieces_of cs) ≡ true → list_all (piece_passes scalar) (cond t (AnyChars ∷ pieces_of cs) (cond u (pieces_of cs) (Char c ∷ pieces_of cs))) ≡ true
    by true u e ih = ih
    by false true e ih = ih
    by false false e ih = and_from (scalar c) (list_all (piece_passes scalar) (pieces_of cs)) e ih

plain_chars : (u : List ℕ) → list_all is_piece (chars u) ≡ true → list_all is_plain u ≡ true
plain_chars [] h = refl
plain_chars (b ∷ u) h =
    let parts = and_parts (is_plain b) (list_all is_piece (chars u)) h in
    and_from (is_plain b) (list_all is_plain u) parts.0 (plain_chars u parts.1)

good_pieces : (p : List Piece) → list_all (piece_passes scalar) p ≡ true → list_all is_piece (bytes_of p) ≡ true → list_all (piece_passes good) p ≡ true
good_pieces [] h k = refl
good_pieces (Char c ∷ p) h k =
    let a = and_parts (scalar c) (list_all (piece_passes scalar) p) h in
    let b = and_parts (list_all is_piece (chars (encode c))) (list_all is_piece (bytes_of p)) (sym (list_all-append is_piece (chars (encode c)) (bytes_of p)) ∙ k) in
    and_from (good c) (list_all (piece_passes good) p) (and_from (scalar c) (list_all is_plain (encode c)) a.0 (plain_chars (encode c) b.0)) (good_pieces p a.1 b.1)
good_pieces (AnyChars ∷ p) h k = good_pieces p h k

-- pieces of a text, as those of its characters
pub record OfChars (p : List Piece) : Type 0 where
  pub pieces : List Piece
  pub bytes : p ≡ bytes_of pieces
  pub are_good : list_all (piece_passes good) pieces ≡ true

pub of_chars : (p : List Piece) → list_all is_piece p ≡ true → is_utf8 (flat_map piece_text p) ≡ true → OfChars p
of_chars p h u =
    let text : List ℕ = flat_map piece_text p in
    let utf8 = IsUtf8-from_is_utf8 (flat_map piece_text p) u in
    let same : p ≡ bytes_of (pieces_of (chars_of_text text)) = sym (pieces_back p h) ∙ ap (λ z. pieces_of z) (sym (encodes-chars (flat_map piece_text p) utf8)) ∙ pieces_encoded (chars_of_text text) in
    record {
      pieces = pieces_of (chars_of_text text);
      bytes = same;
      are_good = good_pieces (pieces_of (chars_of_text text)) (scalar_pieces (chars_of_text text) (scalars-chars (flat_map piece_text p) utf8)) (ap (λ z. list_all is_piece z) (sym same) ∙ h);
    }

pub word_scalars : (v : List ℕ) → list_all good v ≡ true → scalars v ≡ true
word_scalars [] h = refl
word_scalars (c ∷ v) h =
    let parts = and_parts (good c) (list_all good v) h in
    and_from (scalar c) (scalars v) (and_parts (scalar c) (list_all is_plain (encode c)) parts.0).0 (word_scalars v parts.1)

pub word_plain : (v : List ℕ) → list_all good v ≡ true → list_all is_plain (encodes v) ≡ true
word_plain [] h = refl
word_plain (c ∷ v) h =
    let parts = and_parts (good c) (list_all good v) h in
    list_all-append is_plain (encode c) (encodes v) ∙ and_from (list_all is_plain (encode c)) (list_all is_plain (encodes v)) (and_parts (scalar c) (list_all is_plain (encode c)) parts.0).1 (word_plain v parts.1)

letter_a : IsUtf8 (97 ∷ [])
unfolding encode
letter_a = (97 ∷ [], (refl, refl))

with_a : (t : List ℕ) → IsUtf8 t → IsUtf8 (97 ∷ t)
with_a t u = IsUtf8-append (97 ∷ []) t letter_a u

text_common : (p q : List Piece) → is_utf8 (flat_map piece_text p) ≡ true → is_utf8 (flat_map piece_text q) ≡ true → list_all is_piece p ≡ true → list_all is_piece q ≡ true → pieces_compare true p q ≡ true
    → (c : Common is_plain Fits p q) × (is_utf8 c.word ≡ true) × (is_utf8 (97 ∷ c.word) ≡ true)
text_common p q up uq okp okq t =
    let c = compare_sound p q okp okq t in
    let a = of_chars p okp up in
    let b = of_chars q okq uq in
    let v = common_chars good a.pieces b.pieces c.word a.are_good b.are_good (subst (λ z. Fits z c.word) a.bytes c.first_matches) (subst (λ z. Fits z c.word) b.bytes c.second_matches) in
    let utf8 : IsUtf8 (encodes v.word) = (v.word, (word_scalars v.word v.is_good, refl)) in (
      record {
        word = encodes v.word;
        is_good = word_plain v.word v.is_good;
        first_matches = subst (λ z. Fits z (encodes v.word)) (sym a.bytes) (fits_bytes a.pieces v.word v.first_matches);
        second_matches = subst (λ z. Fits z (encodes v.word)) (sym b.bytes) (fits_bytes b.pieces v.word v.second_matches);
      },
      is_utf8-from_IsUtf8 (encodes v.word) utf8,
      is_utf8-from_IsUtf8 (97 ∷ encodes v.word) (with_a (encodes v.word) utf8),
    )

-- a text with a letter in the place of each `$*` is a text
filled_text : (front : List ℕ) (p : List Piece) → IsUtf8 (front ++ flat_map piece_text p) → IsUtf8 (front ++ filled 97 p)
filled_text front [] u = u
filled_text front (Char c ∷ p) u =
    subst IsUtf8 (append_assoc front (c ∷ []) (filled 97 p)) (filled_text (front ++ c ∷ []) p (subst IsUtf8 (sym (append_assoc front (c ∷ []) (flat_map piece_text p))) u))
filled_text front (AnyChars ∷ p) u =
    let first = cut_at front 36 (42 ∷ flat_map piece_text p) u (omega arith) in
    let second = cut_at [] 42 (flat_map piece_text p) first.1 (omega arith) in
    IsUtf8-append front (97 ∷ filled 97 p) first.0 (with_a (filled 97 p) (filled_text [] p second.1))

abbrev pub is_text : Chunk → Bool
is_text x = is_utf8 (chunk_text x)

text_passes : Passes is_utf8 is_text
text_passes = record {
  any = is_utf8-from_IsUtf8 (97 ∷ []) letter_a;
  filled_passes = λ p h. is_utf8-from_IsUtf8 (filled 97 p) (filled_text [] p (IsUtf8-from_is_utf8 (flat_map piece_text p) h));
  common_passes = text_common;
}

slash_text : IsUtf8 (47 ∷ [])
unfolding encode
slash_text = (47 ∷ [], (refl, refl))

slashed_text : (e : List Chunk) → is_expression e ≡ true → IsUtf8 (spelled e) → IsUtf8 (slashed e)
slashed_text [] h u = cc
slashed_text (x ∷ e) h u = subst IsUtf8 (sym (slashed_is x e)) (IsUtf8-append (47 ∷ []) (spelled (x ∷ e)) slash_text u)

-- the chunks of a text are texts
texts_of : (e : List Chunk) → IsUtf8 (slashed e) → list_all is_text e ≡ true
texts_of [] u = refl
texts_of (x ∷ []) u =
    let bare = cut_at [] 47 (chunk_text x ++ []) u (omega arith) in
    and_from (is_text x) true (is_utf8-from_IsUtf8 (chunk_text x) (subst IsUtf8 (append-nil (chunk_text x)) bare.1)) refl
texts_of (x ∷ y ∷ e) u =
    let cut = cut_at (47 ∷ chunk_text x) 47 (chunk_text y ++ slashed e) u (omega arith) in
    let bare = cut_at [] 47 (chunk_text x) cut.0 (omega arith) in
    and_from (is_text x) (list_all is_text (y ∷ e)) (is_utf8-from_IsUtf8 (chunk_text x) bare.1)
    (texts_of (y ∷ e) (IsUtf8-append (47 ∷ []) (chunk_text y ++ slashed e) slash_text cut.1))

pub text_chunks : (a : List ℕ) → IsKeyText a → list_all (good_chunk is_text) (expression_of a) ≡ true
text_chunks a h = all_both is_chunk is_text (expression_of a) (all_chunks (expression_of a) h.expression) (texts_of (expression_of a) (slashed_text (expression_of a) h.expression (subst IsUtf8 (sym h.spells) (IsUtf8-from_is_utf8 a h.utf8))))

key_found : (a b : List Chunk) → (a ≡ [] → ⊥) → (b ≡ [] → ⊥) → Common (good_key is_utf8) Matches a b
    → (key : List (List ℕ)) × (is_key key ≡ true) × (list_all is_utf8 key ≡ true) × Matches a key × Matches b key
key_found a b somea someb c = by c.word (both_all is_key_chunk is_utf8 c.word c.is_good) c.first_matches c.second_matches
  where
    by : (k : List (List ℕ)) → (list_all is_key_chunk k ≡ true) × (list_all is_utf8 k ≡ true) → Matches a k → Matches b k
        → (key : List (List ℕ)) × (is_key key ≡ true) × (list_all is_utf8 key ≡ true) × Matches a key × Matches b key
    by [] g m n = ((97 ∷ []) ∷ [], refl, and_from (is_utf8 (97 ∷ [])) true (is_utf8-from_IsUtf8 (97 ∷ []) letter_a) refl, gap_more a m somea, gap_more b n someb)
    by (d ∷ k) g m n = (d ∷ k, g.0, g.1, m, n)

pub text_key : (a b : List ℕ) → IsKeyText a → IsKeyText b → Meets (expression_of a) (expression_of b)
    → (key : List (List ℕ)) × (is_key key ≡ true) × (list_all is_utf8 key ≡ true) × Matches (expression_of a) key × Matches (expression_of b) key
text_key a b p q m =
    key_found (expression_of a) (expression_of b) (some_chunks (expression_of a) p.expression) (some_chunks (expression_of b) q.expression)
    (compare_passes is_utf8 is_text text_passes (expression_of a) (expression_of b) (text_chunks a p) (text_chunks b q) (meets_compare (expression_of a) (expression_of b) m))
