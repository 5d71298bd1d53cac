-- Covering is inclusion of keys, also for texts: their bytes are those of expressions of characters (`OfTexts`). What is matched of
-- characters is matched of their bytes and the other way round (`matches_there`, `matches_back`), and so is what is covered (`covers_there`).
use Rattle.std.proofs.Common.{◌≡◌, ℕ, ◌==◌, ◌≤◌, ◌∷◌, ◌++◌, [], List, Bool, true, false, cond, not, ◌||◌, ◌&&◌, refl, sym, ap, subst, ◌∙◌, arith, nat_lt, nat_le, length, map, length-append}
use lib.Utf8.{encode, encodes, scalar}
use Rattle.std.specs.List.{list_any, list_all, flat_map}
use Rattle.std.specs.Str.{is_utf8}
use Rattle.std.proofs.lemmas.Bool.{and_parts, and_from, leb-true, ltb-true, ltb-false, ne_eqb}
use Rattle.std.proofs.lemmas.Grind.{flat_map-append}
use Rattle.std.proofs.lemmas.List.{map-append}
use Rattle.std.proofs.lemmas.List.Folds.{list_any-append, list_all-append}
use Rattle.std.proofs.lemmas.Str.{encode_ascii, is_utf8-from_IsUtf8}
use Rattle.zr_key.specs.Expression.{Piece, Char, AnyChars, Chunk, Any, AnyChunks, Pieces, piece_text, chunk_text, spelled, is_plain, is_piece, is_wild, is_any_chars, begins_any, begins_verbatim, is_verbatim, is_key_chunk, is_key, is_chunk, is_expression, is_single, is_canonical_chunk, is_ordered, Fits, MatchesChunk, Matches}
use Rattle.zr_key.specs.Key.{expression_of, IsKeyText}
use Rattle.zr_key.proofs.Text.{slashed, slashed_is}
use Rattle.zr_key.proofs.CanonForm.{all_chunks}
use Rattle.zr_match.specs.Match.{Takes, TakesChunk, Covers, is_verbatim_chunk}
use Rattle.zr_match.specs.Table.{is_any_chunks}
use Rattle.zr_match.specs.Laws.{is_scalar, piece_passes, chunk_passes}
use Rattle.zr_match.proofs.PieceTable.{chars, chars_fit, fit_chars}
use Rattle.zr_match.proofs.ChunkTable.{good_chunk}
use Rattle.zr_match.proofs.Inclusion.{key_of, map_cut, own_key, is_key_of, key_known, covers_from}
use Rattle.zr_match.proofs.Fresh.{fresh_there}
use Rattle.zr_match.proofs.Characters.{shape, high_encode, piece_bytes, bytes_of, common_chars, fits_bytes}
use Rattle.zr_match.proofs.TextKeys.{good, of_chars, word_scalars, is_text, text_chunks}

-- a chunk of characters as one of bytes
abbrev pub chunk_bytes : Chunk → Chunk
chunk_bytes Any = Any
chunk_bytes AnyChunks = AnyChunks
chunk_bytes (Pieces p) = Pieces (bytes_of p)

-- ---- what pieces and their bytes share

-- the first byte of a character is `@` where the character is
lead_at : (c : ℕ) → ((shape c).lead == 64) ≡ (c == 64)
lead_at c = by (nat_lt c 128) refl
  where
    by : (t : Bool) → nat_lt c 128 ≡ t → ((shape c).lead == 64) ≡ (c == 64)
    by true e =
        let low : encode c ≡ c ∷ [] = encode_ascii c (ltb-true c 128 e) in
        let both : (shape c).lead ∷ (shape c).tail ≡ c ∷ [] = sym (shape c).bytes ∙ low in
        let same : (shape c).lead ≡ c = cc in
        ap (λ z. z == 64) same
    by false e =
        let high : 128 ≤ c = ltb-false c 128 e in
        let first : 128 ≤ (shape c).lead = (shape c).high high in
        ne_eqb (shape c).lead 64 (λ q. omega arith) ∙ sym (ne_eqb c 64 (λ q. omega arith))

no_gaps : (u : List ℕ) → list_any is_any_chars (chars u) ≡ false
no_gaps [] = refl
no_gaps (b ∷ u) = no_gaps u

pub wild_bytes : (p : List Piece) → is_wild (bytes_of p) ≡ is_wild p
wild_bytes [] = refl
wild_bytes (Char c ∷ p) =
    list_any-append is_any_chars (chars (encode c)) (bytes_of p) ∙ ap (λ z. z || is_wild (bytes_of p)) (no_gaps (encode c)) ∙ wild_bytes p
wild_bytes (AnyChars ∷ p) = refl

begins_bytes : (p : List Piece) → begins_verbatim (bytes_of p) ≡ begins_verbatim p
begins_bytes [] = refl
begins_bytes (Char c ∷ p) = ap (λ z. begins_verbatim (chars z ++ bytes_of p)) (shape c).bytes ∙ lead_at c
begins_bytes (AnyChars ∷ p) = refl

pub verbatim_bytes : (w : List ℕ) → is_verbatim (encodes w) ≡ is_verbatim w
verbatim_bytes [] = refl
verbatim_bytes (c ∷ w) = ap (λ z. is_verbatim (z ++ encodes w)) (shape c).bytes ∙ lead_at c

pub run_verbatim : (k : List (List ℕ)) → list_any is_verbatim (map encodes k) ≡ list_any is_verbatim k
run_verbatim [] = refl
run_verbatim (w ∷ k) = rw (verbatim_bytes w) (ap (λ t. is_verbatim w || t) (run_verbatim k))

any_bytes : (x : Chunk) → is_any_chunks (chunk_bytes x) ≡ is_any_chunks x
any_bytes Any = refl
any_bytes AnyChunks = refl
any_bytes (Pieces p) = refl

gaps_bytes : (e : List Chunk) → list_any is_any_chunks (map chunk_bytes e) ≡ list_any is_any_chunks e
gaps_bytes [] = refl
gaps_bytes (x ∷ e) = rw (any_bytes x) (ap (λ t. is_any_chunks x || t) (gaps_bytes e))

chunk_verbatim_bytes : (x : Chunk) → is_verbatim_chunk (chunk_bytes x) ≡ is_verbatim_chunk x
chunk_verbatim_bytes Any = refl
chunk_verbatim_bytes AnyChunks = refl
chunk_verbatim_bytes (Pieces p) = begins_bytes p

chunks_verbatim_bytes : (e : List Chunk) → list_any is_verbatim_chunk (map chunk_bytes e) ≡ list_any is_verbatim_chunk e
chunks_verbatim_bytes [] = refl
chunks_verbatim_bytes (x ∷ e) = rw (chunk_verbatim_bytes x) (ap (λ t. is_verbatim_chunk x || t) (chunks_verbatim_bytes e))

single_chars : (u : List ℕ) (q : List Piece) → is_single (chars u ++ q) ≡ is_single q
single_chars [] q = refl
single_chars (b ∷ u) q = single_chars u q

begins_any_bytes : (p : List Piece) → begins_any (bytes_of p) ≡ begins_any p
begins_any_bytes [] = refl
begins_any_bytes (Char c ∷ p) = ap (λ z. begins_any (chars z ++ bytes_of p)) (shape c).bytes
begins_any_bytes (AnyChars ∷ p) = refl

single_bytes : (p : List Piece) → is_single (bytes_of p) ≡ is_single p
single_bytes [] = refl
single_bytes (Char c ∷ p) = single_chars (encode c) (bytes_of p) ∙ single_bytes p
single_bytes (AnyChars ∷ p) = rw (begins_any_bytes p) (ap (λ t. not (begins_any p) && t) (single_bytes p))

canonical_bytes : (x : Chunk) → is_canonical_chunk (chunk_bytes x) ≡ is_canonical_chunk x
canonical_bytes Any = refl
canonical_bytes AnyChunks = refl
canonical_bytes (Pieces []) = refl
canonical_bytes (Pieces (Char c ∷ p)) =
    let all = single_bytes (Char c ∷ p) in
    let s = shape c in
    ap (λ z. is_canonical_chunk (Pieces (chars z ++ bytes_of p))) s.bytes ∙ sym (ap (λ z. is_single (chars z ++ bytes_of p)) s.bytes) ∙ all
canonical_bytes (Pieces (AnyChars ∷ [])) = refl
canonical_bytes (Pieces (AnyChars ∷ Char c ∷ p)) =
    let all = single_bytes (AnyChars ∷ Char c ∷ p) in
    let s = shape c in
    ap (λ z. is_canonical_chunk (Pieces (AnyChars ∷ (chars z ++ bytes_of p)))) s.bytes ∙ sym (ap (λ z. is_single (AnyChars ∷ (chars z ++ bytes_of p))) s.bytes) ∙ all
canonical_bytes (Pieces (AnyChars ∷ AnyChars ∷ p)) = refl

all_canonical : (e : List Chunk) → list_all is_canonical_chunk (map chunk_bytes e) ≡ true → list_all is_canonical_chunk e ≡ true
all_canonical [] h = refl
all_canonical (x ∷ e) h =
    let parts = and_parts (is_canonical_chunk (chunk_bytes x)) (list_all is_canonical_chunk (map chunk_bytes e)) h in
    and_from (is_canonical_chunk x) (list_all is_canonical_chunk e) (sym (canonical_bytes x) ∙ parts.0) (all_canonical e parts.1)

-- ---- characters that may stand in a key

high_plain : (b : ℕ) → 128 ≤ b → is_plain b ≡ true
high_plain b le =
    let slash : (b == 47) ≡ false = ne_eqb b 47 (λ q. omega arith) in
    let star : (b == 42) ≡ false = ne_eqb b 42 (λ q. omega arith) in
    let dollar : (b == 36) ≡ false = ne_eqb b 36 (λ q. omega arith) in
    let hash : (b == 35) ≡ false = ne_eqb b 35 (λ q. omega arith) in
    let mark : (b == 63) ≡ false = ne_eqb b 63 (λ q. omega arith) in
    rw (slash, star, dollar, hash, mark) refl

pub plain_char : (c : ℕ) → list_all is_plain (encode c) ≡ true → is_plain c ≡ true
plain_char c h = by (nat_lt c 128) refl
  where
    by : (t : Bool) → nat_lt c 128 ≡ t → is_plain c ≡ true
    by true e =
        let low : encode c ≡ c ∷ [] = encode_ascii c (ltb-true c 128 e) in
        (and_parts (is_plain c) true (ap (λ z. list_all is_plain z) (sym low) ∙ h)).0
    by false e = high_plain c (ltb-false c 128 e)

plain_bytes : (c : ℕ) → is_plain c ≡ true → list_all is_plain (encode c) ≡ true
plain_bytes c h = by (nat_lt c 128) refl
  where
    by : (t : Bool) → nat_lt c 128 ≡ t → list_all is_plain (encode c) ≡ true
    by true e = ap (λ z. list_all is_plain z) (encode_ascii c (ltb-true c 128 e)) ∙ and_from (is_plain c) true h refl
    by false e = all_plain (encode c) (high_encode c (ltb-false c 128 e))
      where
        all_plain : (u : List ℕ) → list_all (λ b. nat_le 128 b) u ≡ true → list_all is_plain u ≡ true
        all_plain [] k = refl
        all_plain (b ∷ u) k =
            let parts = and_parts (nat_le 128 b) (list_all (λ d. nat_le 128 d) u) k in
            and_from (is_plain b) (list_all is_plain u) (high_plain b (leb-true 128 b parts.0)) (all_plain u parts.1)

plain_pieces : (p : List Piece) → list_all (piece_passes good) p ≡ true → list_all is_piece p ≡ true
plain_pieces [] h = refl
plain_pieces (Char c ∷ p) h =
    let parts = and_parts (good c) (list_all (piece_passes good) p) h in
    and_from (is_plain c) (list_all is_piece p) (plain_char c (and_parts (scalar c) (list_all is_plain (encode c)) parts.0).1) (plain_pieces p parts.1)
plain_pieces (AnyChars ∷ p) h = plain_pieces p h

chunk_ok : (x : Chunk) → chunk_passes good x ≡ true → is_chunk (chunk_bytes x) ≡ true → is_chunk x ≡ true
chunk_ok Any g h = refl
chunk_ok AnyChunks g h = refl
chunk_ok (Pieces []) g h = h
chunk_ok (Pieces (Char c ∷ p)) g h =
    let s = shape c in
    let parts = and_parts (list_all is_piece (bytes_of (Char c ∷ p))) (not (begins_verbatim (bytes_of (Char c ∷ p)) && is_wild (bytes_of (Char c ∷ p))))
    (ap (λ z. list_all is_piece (chars z ++ bytes_of p) && not (begins_verbatim (chars z ++ bytes_of p) && is_wild (chars z ++ bytes_of p))) s.bytes
    ∙ sym (ap (λ z. is_chunk (Pieces (chars z ++ bytes_of p))) s.bytes) ∙ h) in
    and_from (list_all is_piece (Char c ∷ p)) (not (begins_verbatim (Char c ∷ p) && is_wild (Char c ∷ p))) (plain_pieces (Char c ∷ p) g)
    (ap (λ t. not (t && is_wild (Char c ∷ p))) (sym (begins_bytes (Char c ∷ p))) ∙ ap (λ t. not (begins_verbatim (bytes_of (Char c ∷ p)) && t)) (sym (wild_bytes (Char c ∷ p))) ∙ parts.1)
chunk_ok (Pieces (AnyChars ∷ p)) g h = and_from (list_all is_piece (AnyChars ∷ p)) true (plain_pieces (AnyChars ∷ p) g) refl

all_ok : (e : List Chunk) → list_all (chunk_passes good) e ≡ true → list_all is_chunk (map chunk_bytes e) ≡ true → list_all is_chunk e ≡ true
all_ok [] g h = refl
all_ok (x ∷ e) g h =
    let a = and_parts (chunk_passes good x) (list_all (chunk_passes good) e) g in
    let b = and_parts (is_chunk (chunk_bytes x)) (list_all is_chunk (map chunk_bytes e)) h in
    and_from (is_chunk x) (list_all is_chunk e) (chunk_ok x a.0 b.0) (all_ok e a.1 b.1)

-- ---- matching, of characters and of their bytes

passes_chars : (v : List ℕ) → list_all good v ≡ true → list_all (piece_passes good) (chars v) ≡ true
passes_chars [] h = refl
passes_chars (c ∷ v) h =
    let parts = and_parts (good c) (list_all good v) h in
    and_from (good c) (list_all (piece_passes good) (chars v)) parts.0 (passes_chars v parts.1)

fits_back : (p : List Piece) (v : List ℕ) → list_all (piece_passes good) p ≡ true → list_all good v ≡ true → Fits (bytes_of p) (encodes v) → Fits p v
fits_back p v okp okv m =
    let c = common_chars good p (chars v) (encodes v) okp (passes_chars v okv) m (fits_bytes (chars v) v (chars_fit v)) in
    subst (λ z. Fits p z) (sym (fit_chars v c.word c.second_matches)) c.first_matches

pub chunk_there : (x : Chunk) (w : List ℕ) → MatchesChunk x w → MatchesChunk (chunk_bytes x) (encodes w)
chunk_there Any w m = verbatim_bytes w ∙ m
chunk_there AnyChunks w m = m
chunk_there (Pieces p) w m = (fits_bytes p w m.0, λ wild. verbatim_bytes w ∙ m.1 (sym (wild_bytes p) ∙ wild))

chunk_back : (x : Chunk) (w : List ℕ) → chunk_passes good x ≡ true → list_all good w ≡ true → MatchesChunk (chunk_bytes x) (encodes w) → MatchesChunk x w
chunk_back Any w okx okw m = sym (verbatim_bytes w) ∙ m
chunk_back AnyChunks w okx okw m = m
chunk_back (Pieces p) w okx okw m = (fits_back p w okx okw m.0, λ wild. sym (verbatim_bytes w) ∙ m.1 (wild_bytes p ∙ wild))

pub matches_there : (e : List Chunk) (k : List (List ℕ)) → Matches e k → Matches (map chunk_bytes e) (map encodes k)
matches_there [] k m = ap (λ z. map encodes z) m
matches_there (AnyChunks ∷ e) k m =
    (map encodes m.0, map encodes m.1, ap (λ z. map encodes z) m.2 ∙ map-append encodes m.0 m.1, run_verbatim m.0 ∙ m.3, matches_there e m.1 m.4)
matches_there (Any ∷ e) [] m = absurd m
matches_there (Any ∷ e) (w ∷ k) m = (chunk_there Any w m.0, matches_there e k m.1)
matches_there (Pieces p ∷ e) [] m = absurd m
matches_there (Pieces p ∷ e) (w ∷ k) m = (chunk_there (Pieces p) w m.0, matches_there e k m.1)

abbrev all_good : List (List ℕ) → Bool
all_good k = list_all (λ w. list_all good w) k

matches_back : (e : List Chunk) (k : List (List ℕ)) → list_all (chunk_passes good) e ≡ true → all_good k ≡ true → Matches (map chunk_bytes e) (map encodes k) → Matches e k
matches_back [] [] oke okk m = refl
matches_back [] (w ∷ k) oke okk m = cc
matches_back (AnyChunks ∷ e) k oke okk m =
    let cut = map_cut encodes k m.0 m.1 m.2 in
    let oks = and_parts (all_good cut.0) (all_good cut.1) (sym (list_all-append (λ w. list_all good w) cut.0 cut.1) ∙ ap all_good (sym cut.2) ∙ okk) in (
      cut.0,
      cut.1,
      cut.2,
      sym (run_verbatim cut.0) ∙ ap (λ t. list_any is_verbatim t) cut.3 ∙ m.3,
      matches_back e cut.1 oke oks.1 (subst (λ t. Matches (map chunk_bytes e) t) (sym cut.4) m.4),
    )
matches_back (Any ∷ e) [] oke okk m = absurd m
matches_back (Any ∷ e) (w ∷ k) oke okk m =
    let oks = and_parts (list_all good w) (all_good k) okk in
    (chunk_back Any w refl oks.0 m.0, matches_back e k oke oks.1 m.1)
matches_back (Pieces p ∷ e) [] oke okk m = absurd m
matches_back (Pieces p ∷ e) (w ∷ k) oke okk m =
    let a = and_parts (list_all (piece_passes good) p) (list_all (chunk_passes good) e) oke in
    let b = and_parts (list_all good w) (all_good k) okk in
    (chunk_back (Pieces p) w a.0 b.0 m.0, matches_back e k a.1 b.1 m.1)

-- ---- covering

takes_chars : (u : List ℕ) (p q : List Piece) → Takes p q → Takes (chars u ++ p) (chars u ++ q)
takes_chars [] p q t = t
takes_chars (b ∷ u) p q t = (refl, takes_chars u p q t)

takes_there : (p q : List Piece) → Takes p q → Takes (bytes_of p) (bytes_of q)
takes_there [] q t = ap bytes_of t
takes_there (Char c ∷ p) [] t = absurd t
takes_there (Char c ∷ p) (Char d ∷ q) t =
    subst (λ z. Takes (chars (encode c) ++ bytes_of p) (chars (encode z) ++ bytes_of q)) t.0 (takes_chars (encode c) (bytes_of p) (bytes_of q) (takes_there p q t.1))
takes_there (Char c ∷ p) (AnyChars ∷ q) t = absurd t
takes_there (AnyChars ∷ p) q t = (bytes_of t.0, bytes_of t.1, ap bytes_of t.2 ∙ flat_map-append piece_bytes t.0 t.1, takes_there p t.1 t.3)

takes_chunk_there : (x y : Chunk) → TakesChunk x y → TakesChunk (chunk_bytes x) (chunk_bytes y)
takes_chunk_there Any Any t = t
takes_chunk_there Any AnyChunks t = t
takes_chunk_there Any (Pieces q) t = begins_bytes q ∙ t
takes_chunk_there AnyChunks y t = absurd t
takes_chunk_there (Pieces p) Any t = t
takes_chunk_there (Pieces p) AnyChunks t = t
takes_chunk_there (Pieces p) (Pieces q) t = (takes_there p q t.0, λ wild. begins_bytes q ∙ t.1 (sym (wild_bytes p) ∙ wild))

covers_there : (a b : List Chunk) → Covers a b → Covers (map chunk_bytes a) (map chunk_bytes b)
covers_there [] b h = ap (λ z. map chunk_bytes z) h
covers_there (AnyChunks ∷ a) b h =
    (map chunk_bytes h.0, map chunk_bytes h.1, ap (λ z. map chunk_bytes z) h.2 ∙ map-append chunk_bytes h.0 h.1, chunks_verbatim_bytes h.0 ∙ h.3, covers_there a h.1 h.4)
covers_there (Any ∷ a) [] h = absurd h
covers_there (Any ∷ a) (y ∷ b) h = (takes_chunk_there Any y h.0, covers_there a b h.1)
covers_there (Pieces p ∷ a) [] h = absurd h
covers_there (Pieces p ∷ a) (y ∷ b) h = (takes_chunk_there (Pieces p) y h.0, covers_there a b h.1)

-- ---- texts

-- the chunks of a text, as those of its characters
record OfTexts (e : List Chunk) : Type 0 where
  chunks : List Chunk
  bytes : e ≡ map chunk_bytes chunks
  are_good : list_all (chunk_passes good) chunks ≡ true

of_texts : (e : List Chunk) → list_all (good_chunk is_text) e ≡ true → OfTexts e
of_texts [] h = record { chunks = []; bytes = refl; are_good = refl }
of_texts (x ∷ e) h = by x (and_parts (good_chunk is_text x) (list_all (good_chunk is_text) e) h).0 (of_texts e (and_parts (good_chunk is_text x) (list_all (good_chunk is_text) e) h).1)
  where
    pieces_ok : (p : List Piece) → is_chunk (Pieces p) ≡ true → list_all is_piece p ≡ true
    pieces_ok [] k = refl
    pieces_ok (Char c ∷ p) k = (and_parts (list_all is_piece (Char c ∷ p)) (not (begins_verbatim (Char c ∷ p) && is_wild (Char c ∷ p))) k).0
    pieces_ok (AnyChars ∷ p) k = (and_parts (list_all is_piece (AnyChars ∷ p)) true k).0

    by : (x : Chunk) → good_chunk is_text x ≡ true → OfTexts e → OfTexts (x ∷ e)
    by Any k r = record { chunks = Any ∷ r.chunks; bytes = ap (λ z. Any ∷ z) r.bytes; are_good = r.are_good }
    by AnyChunks k r = record { chunks = AnyChunks ∷ r.chunks; bytes = ap (λ z. AnyChunks ∷ z) r.bytes; are_good = r.are_good }
    by (Pieces p) k r =
        let parts = and_parts (is_chunk (Pieces p)) (is_text (Pieces p)) k in
        let o = of_chars p (pieces_ok p parts.0) parts.1 in
        let first : p ≡ bytes_of o.pieces = o.bytes in
        let rest : e ≡ map chunk_bytes r.chunks = r.bytes in
        record {
          chunks = Pieces o.pieces ∷ r.chunks;
          bytes = cc;
          are_good = and_from (list_all (piece_passes good) o.pieces) (list_all (chunk_passes good) r.chunks) o.are_good r.are_good;
        }

-- characters are no more than their bytes
fewer_pieces : (p : List Piece) → length (flat_map piece_text p) ≤ length (flat_map piece_text (bytes_of p))
fewer_pieces [] = omega arith
fewer_pieces (Char c ∷ p) =
    let s = shape c in
    let more = fewer_pieces p in
    let long = longer (chars s.tail) (bytes_of p) in
    subst (λ z. length (flat_map piece_text (Char c ∷ p)) ≤ length (flat_map piece_text (chars z ++ bytes_of p))) (sym s.bytes) (omega arith)
  where
    longer : (u q : List Piece) → length (flat_map piece_text q) ≤ length (flat_map piece_text (u ++ q))
    longer [] q = omega arith
    longer (x ∷ u) q =
        let ih = longer u q in
        omega (arith, length-append (piece_text x) (flat_map piece_text (u ++ q)))
fewer_pieces (AnyChars ∷ p) =
    let ih = fewer_pieces p in
    omega arith

fewer_chunk : (x : Chunk) → length (chunk_text x) ≤ length (chunk_text (chunk_bytes x))
fewer_chunk Any = omega arith
fewer_chunk AnyChunks = omega arith
fewer_chunk (Pieces p) = fewer_pieces p

fewer : (e : List Chunk) → length (slashed e) ≤ length (slashed (map chunk_bytes e))
fewer [] = omega arith
fewer (x ∷ e) =
    let first = fewer_chunk x in
    let rest = fewer e in
    let left = length-append (chunk_text x) (slashed e) in
    let right = length-append (chunk_text (chunk_bytes x)) (slashed (map chunk_bytes e)) in
    omega arith

short_spelled : (e : List Chunk) → length (spelled (map chunk_bytes e)) ≤ 2048 → length (spelled e) ≤ 2048
short_spelled [] h = omega arith
short_spelled (x ∷ e) h =
    let few = fewer (x ∷ e) in
    let one = ap length (slashed_is x e) in
    let two = ap length (slashed_is (chunk_bytes x) (map chunk_bytes e)) in
    omega arith

some_expression : (e : List Chunk) → is_expression (map chunk_bytes e) ≡ true → list_all is_chunk e ≡ true → is_expression e ≡ true
some_expression [] h k = h
some_expression (x ∷ e) h k = k

same_scalar : (z : ℕ) → is_scalar z ≡ true → scalar z ≡ true
same_scalar z h = by (nat_lt z 55296) h
  where
    by : (t : Bool) → (t || nat_le 57344 z && nat_lt z 1114112) ≡ true → cond t true (nat_le 57344 z && nat_lt z 1114112) ≡ true
    by true k = refl
    by false k = k

-- the key of characters as one of bytes
pub key_bytes : (k : List (List ℕ)) → is_key k ≡ true → is_key (map encodes k) ≡ true
key_bytes [] h = h
key_bytes (w ∷ k) h = all (w ∷ k) h
  where
    one : (w : List ℕ) → is_key_chunk w ≡ true → is_key_chunk (encodes w) ≡ true
    one [] g = g
    one (c ∷ w) g =
        let s = shape c in
        ap (λ z. is_key_chunk (z ++ encodes w)) s.bytes ∙ sym (ap (λ z. list_all is_plain (z ++ encodes w)) s.bytes) ∙ plain (c ∷ w) g
      where
        plain : (w : List ℕ) → list_all is_plain w ≡ true → list_all is_plain (encodes w) ≡ true
        plain [] g = refl
        plain (c ∷ w) g =
            let parts = and_parts (is_plain c) (list_all is_plain w) g in
            list_all-append is_plain (encode c) (encodes w) ∙ and_from (list_all is_plain (encode c)) (list_all is_plain (encodes w)) (plain_bytes c parts.0) (plain w parts.1)

    all : (k : List (List ℕ)) → list_all is_key_chunk k ≡ true → list_all is_key_chunk (map encodes k) ≡ true
    all [] g = refl
    all (w ∷ k) g =
        let parts = and_parts (is_key_chunk w) (list_all is_key_chunk k) g in
        and_from (is_key_chunk (encodes w)) (list_all is_key_chunk (map encodes k)) (one w parts.0) (all k parts.1)

key_text : (k : List (List ℕ)) → all_good k ≡ true → list_all is_utf8 (map encodes k) ≡ true
key_text [] h = refl
key_text (w ∷ k) h =
    let parts = and_parts (list_all good w) (all_good k) h in
    and_from (is_utf8 (encodes w)) (list_all is_utf8 (map encodes k)) (is_utf8-from_IsUtf8 (encodes w) (w, (word_scalars w parts.0, refl))) (key_text k parts.1)

pub texts_covered : (a b : List ℕ) → IsKeyText a → IsKeyText b → list_any is_any_chunks (expression_of b) ≡ false
    → ((key : List (List ℕ)) → is_key key ≡ true → list_all is_utf8 key ≡ true → Matches (expression_of b) key → Matches (expression_of a) key)
    → Covers (expression_of a) (expression_of b)
texts_covered a b p q gaps included =
    let x = of_texts (expression_of a) (text_chunks a p) in
    let y = of_texts (expression_of b) (text_chunks b q) in
    let okx = all_ok x.chunks x.are_good (ap (λ z. list_all is_chunk z) (sym x.bytes) ∙ all_chunks (expression_of a) p.expression) in
    let oky = all_ok y.chunks y.are_good (ap (λ z. list_all is_chunk z) (sym y.bytes) ∙ all_chunks (expression_of b) q.expression) in
    let whole_x = some_expression x.chunks (ap (λ z. is_expression z) (sym x.bytes) ∙ p.expression) okx in
    let whole_y = some_expression y.chunks (ap (λ z. is_expression z) (sym y.bytes) ∙ q.expression) oky in
    let canon = all_canonical x.chunks (ap (λ z. list_all is_canonical_chunk z) (sym x.bytes) ∙ (and_parts (list_all is_canonical_chunk (expression_of a)) (is_ordered (expression_of a)) p.canonical_form).0) in
    let short : length (spelled (map chunk_bytes x.chunks)) ≤ 2048 = subst (λ z. length (spelled z) ≤ 2048) x.bytes (subst (λ z. length z ≤ 2048) (sym p.spells) p.short) in
    let fresh = fresh_there x.chunks whole_x (short_spelled x.chunks short) in
    let none : list_any is_any_chunks y.chunks ≡ false = sym (gaps_bytes y.chunks) ∙ ap (λ z. list_any is_any_chunks z) (sym y.bytes) ∙ gaps in
    let k : List (List ℕ) = key_of fresh.0 y.chunks in
    let is_good : good fresh.0 ≡ true = and_from (scalar fresh.0) (list_all is_plain (encode fresh.0)) (same_scalar fresh.0 fresh.1.known) (plain_bytes fresh.0 fresh.1.plain) in
    let goods : all_good k ≡ true = key_known good fresh.0 y.chunks is_good y.are_good in
    let own = matches_there y.chunks k (own_key fresh.0 y.chunks fresh.1.no_at oky none) in
    let there : Matches (expression_of a) (map encodes k) =
    included (map encodes k) (key_bytes k (is_key_of fresh.0 y.chunks fresh.1.plain whole_y none)) (key_text k goods) (subst (λ z. Matches z (map encodes k)) (sym y.bytes) own) in
    let back : Matches x.chunks k = matches_back x.chunks k x.are_good goods (subst (λ z. Matches z (map encodes k)) x.bytes there) in
    let covers = covers_there x.chunks y.chunks (covers_from fresh.0 x.chunks y.chunks fresh.1.no_at fresh.1.unused okx canon none back) in
    subst (λ z. Covers z (expression_of b)) (sym x.bytes) (subst (λ z. Covers (map chunk_bytes x.chunks) z) (sym y.bytes) covers)
