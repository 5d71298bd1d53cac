-- A text without a fault and the expression that it spells, each from the other.
use Rattle.std.proofs.Common.{◌≡◌, ℕ, ◌==◌, ◌&&◌, ◌||◌, ◌∷◌, [], List, Bool, true, false, cond, not, nat_eq, refl, sym, ap, ◌∙◌, map, Option, Some, None}
use Rattle.std.specs.List.{list_any, list_all, flat_map, join_with_byte, onto_first, All}
use Rattle.std.specs.Cmp.Lexicographic.{pointwise}
use Rattle.std.proofs.lemmas.List.Elements.{All-nil, All-cons}
use Rattle.std.proofs.lemmas.List.Splits.{join_with_byte-slice_split, slice_split_at, slice_split_none}
use Rattle.std.proofs.lemmas.Bool.{and_parts, or_parts, eqb-true, not-true, and_from, false≢true}
use Rattle.zr_key.specs.Expression.{Piece, Char, AnyChars, Chunk, Any, AnyChunks, Pieces, piece_text, chunk_text, spelled, is_plain, is_piece, is_wild, begins_verbatim, is_chunk, is_expression}
use Rattle.zr_key.specs.declared.key.KeyError.{KeyError}
use Rattle.zr_key.specs.declared.key.KeyError.TheVariants.{BadChar, BadStar}
use Rattle.zr_key.specs.Key.{chunks, pieces_of, chunk_of, expression_of, is_paired, begins_at, fault_of, first_of_faults, first_fault}

-- the text of pieces
abbrev pub text_of : List Piece → List ℕ
text_of p = flat_map piece_text p

-- what stands behind a `$`, or elsewhere
abbrev behind : Bool → List ℕ → List ℕ
behind true text = 42 ∷ text
behind false text = text

-- paired stars are those of the pieces
pub text_of-pieces_of : (after : Bool) (bs : List ℕ) → is_paired after bs ≡ true → behind after (text_of (pieces_of bs)) ≡ bs
text_of-pieces_of true [] h = cc
text_of-pieces_of false [] h = refl
text_of-pieces_of true (b ∷ bs) h =
    let parts = and_parts (b == 42) (is_paired false bs) h in
    let e : b ≡ 42 = eqb-true b 42 parts.0 in
    rw e (ap (λ t. 42 ∷ t) (text_of-pieces_of false bs parts.1))
text_of-pieces_of false (b ∷ bs) h =
    by (b == 36) (b == 42) refl (and_parts (not (b == 42)) (is_paired (b == 36) bs) h) (text_of-pieces_of true bs) (text_of-pieces_of false bs)
  where
    by : (t u : Bool) → (b == 36) ≡ t → (not u ≡ true) × (is_paired t bs ≡ true)
        → (is_paired true bs ≡ true → 42 ∷ text_of (pieces_of bs) ≡ bs) → (is_paired false bs ≡ true → text_of (pieces_of bs) ≡ bs)
        → text_of (cond t (AnyChars ∷ pieces_of bs) (cond u (pieces_of bs) (Char b ∷ pieces_of bs))) ≡ b ∷ bs
    by true u e h paired plain = ap (λ t. 36 ∷ t) (paired h.1) ∙ ap (λ x. x ∷ bs) (sym (eqb-true b 36 e))
    by false true e h paired plain = cc
    by false false e h paired plain = ap (λ t. b ∷ t) (plain h.1)

-- a byte that is none of the five is one that a key may have
plain_from : (b : ℕ) → (b == 47) ≡ false → (b == 42) ≡ false → (b == 36) ≡ false → (b == 35 || b == 63) ≡ false → is_plain b ≡ true
plain_from b slash star dollar bad =
    let parts = or_parts (b == 35) (b == 63) bad in
    by (b == 47) (b == 42) (b == 36) (b == 35) (b == 63) slash star dollar parts.0 parts.1
  where
    by : (v w x y z : Bool) → v ≡ false → w ≡ false → x ≡ false → y ≡ false → z ≡ false → not (v || w || x || y || z) ≡ true
    by false false false false false p q r s t = refl
    by true w x y z p q r s t = cc
    by false true x y z p q r s t = cc
    by false false true y z p q r s t = cc
    by false false false true z p q r s t = cc
    by false false false false true p q r s t = cc

-- and the other way round
pub plain_parts : (b : ℕ) → is_plain b ≡ true → ((b == 47) ≡ false) × ((b == 42) ≡ false) × ((b == 36) ≡ false) × ((b == 35 || b == 63) ≡ false)
plain_parts b h = by (b == 47) (b == 42) (b == 36) (b == 35) (b == 63) h
  where
    by : (v w x y z : Bool) → not (v || w || x || y || z) ≡ true → (v ≡ false) × (w ≡ false) × (x ≡ false) × ((y || z) ≡ false)
    by false false false false false p = (refl, refl, refl, refl)
    by true w x y z p = cc
    by false true x y z p = cc
    by false false true y z p = cc
    by false false false true z p = cc
    by false false false false true p = cc

-- the pieces of a text with none of `/ # ?` are such as an expression may have
pieces_of-is_piece : (bs : List ℕ) → list_any (λ b. b == 35 || b == 63) bs ≡ false → list_any (λ b. b == 47) bs ≡ false → list_all is_piece (pieces_of bs) ≡ true
pieces_of-is_piece [] bad slash = refl
pieces_of-is_piece (b ∷ bs) bad slash =
    let bads = or_parts (b == 35 || b == 63) (list_any (λ c. c == 35 || c == 63) bs) bad in
    let slashes = or_parts (b == 47) (list_any (λ c. c == 47) bs) slash in
    by (b == 36) (b == 42) refl refl bads.0 slashes.0 (pieces_of-is_piece bs bads.1 slashes.1)
  where
    by : (t u : Bool) → (b == 36) ≡ t → (b == 42) ≡ u → (b == 35 || b == 63) ≡ false → (b == 47) ≡ false → list_all is_piece (pieces_of bs) ≡ true
        → list_all is_piece (cond t (AnyChars ∷ pieces_of bs) (cond u (pieces_of bs) (Char b ∷ pieces_of bs))) ≡ true
    by true u d s x y ih = ih
    by false true d s x y ih = ih
    by false false d s x y ih = and_from (is_plain b) (list_all is_piece (pieces_of bs)) (plain_from b y s d x) ih

-- they have a `$*` where the text has a `$`
pub is_wild-pieces_of : (bs : List ℕ) → is_wild (pieces_of bs) ≡ list_any (λ b. b == 36) bs
is_wild-pieces_of [] = refl
is_wild-pieces_of (b ∷ bs) = by (b == 36) (b == 42) (is_wild-pieces_of bs)
  where
    by : (t u : Bool) → is_wild (pieces_of bs) ≡ list_any (λ c. c == 36) bs
        → is_wild (cond t (AnyChars ∷ pieces_of bs) (cond u (pieces_of bs) (Char b ∷ pieces_of bs))) ≡ (t || list_any (λ c. c == 36) bs)
    by true u ih = refl
    by false true ih = ih
    by false false ih = ih

-- bytes that compare equal are the same
pub same_bytes : (xs ys : List ℕ) → pointwise nat_eq xs ys ≡ true → xs ≡ ys
same_bytes [] [] h = refl
same_bytes [] (y ∷ ys) h = cc
same_bytes (x ∷ xs) [] h = cc
same_bytes (x ∷ xs) (y ∷ ys) h =
    let parts = and_parts (x == y) (pointwise nat_eq xs ys) h in
    let e : x ≡ y = eqb-true x y parts.0 in
    let es : xs ≡ ys = same_bytes xs ys parts.1 in
    cc

-- what a chunk of a text with no fault is
pub record GoodChunk (text : List ℕ) : Type 0 where
  pub spells : chunk_text (chunk_of text) ≡ text
  pub chunk : is_chunk (chunk_of text) ≡ true

-- a chunk that begins with a `$` or another character, with paired stars
good_pieces : (b : ℕ) (bs : List ℕ) → list_any (λ c. c == 35 || c == 63) (b ∷ bs) ≡ false → list_any (λ c. c == 47) (b ∷ bs) ≡ false
    → is_paired false (b ∷ bs) ≡ true → not (begins_at (b ∷ bs) && list_any (λ c. c == 36) (b ∷ bs)) ≡ true → is_chunk (Pieces (pieces_of (b ∷ bs))) ≡ true
good_pieces b bs bad slash paired verbatim =
    by (b == 36) (b == 42) (and_parts (not (b == 42)) (is_paired (b == 36) bs) paired).0 (pieces_of-is_piece (b ∷ bs) bad slash) (is_wild-pieces_of (b ∷ bs)) verbatim
  where
    by : (t u : Bool) → not u ≡ true
        → list_all is_piece (cond t (AnyChars ∷ pieces_of bs) (cond u (pieces_of bs) (Char b ∷ pieces_of bs))) ≡ true
        → is_wild (cond t (AnyChars ∷ pieces_of bs) (cond u (pieces_of bs) (Char b ∷ pieces_of bs))) ≡ (t || list_any (λ c. c == 36) bs)
        → not (b == 64 && (t || list_any (λ c. c == 36) bs)) ≡ true
        → is_chunk (Pieces (cond t (AnyChars ∷ pieces_of bs) (cond u (pieces_of bs) (Char b ∷ pieces_of bs)))) ≡ true
    by t true n all wild v = cc
    by true false n all wild v = and_from (list_all is_piece (pieces_of bs)) true all refl
    by false false n all wild v = and_from (list_all is_piece (Char b ∷ pieces_of bs)) (not (b == 64 && is_wild (pieces_of bs))) all (rw wild v)

good_chunk : (text : List ℕ) → fault_of text ≡ None → list_any (λ b. b == 47) text ≡ false → GoodChunk text
good_chunk [] h slash = cc
good_chunk (b ∷ bs) h slash =
    by (list_any (λ c. c == 35 || c == 63) (b ∷ bs)) (pointwise nat_eq (b ∷ bs) (42 ∷ [])) (pointwise nat_eq (b ∷ bs) (42 ∷ 42 ∷ []))
    (is_paired false (b ∷ bs)) (not (begins_at (b ∷ bs) && list_any (λ c. c == 36) (b ∷ bs))) refl refl refl refl refl h
  where
    by : (v w x y z : Bool) → list_any (λ c. c == 35 || c == 63) (b ∷ bs) ≡ v → pointwise nat_eq (b ∷ bs) (42 ∷ []) ≡ w → pointwise nat_eq (b ∷ bs) (42 ∷ 42 ∷ []) ≡ x
        → is_paired false (b ∷ bs) ≡ y → not (begins_at (b ∷ bs) && list_any (λ c. c == 36) (b ∷ bs)) ≡ z
        → cond v (Some BadChar) (cond (w || x || y && z) None (Some BadStar)) ≡ None → GoodChunk (b ∷ bs)
    by true w x y z p q r s t e = cc
    by false true x y z p q r s t e = record {
      spells = rw q (sym (same_bytes (b ∷ bs) (42 ∷ []) q));
      chunk = rw q refl;
    }
    by false false true y z p q r s t e = record {
      spells = rw (q, r) (sym (same_bytes (b ∷ bs) (42 ∷ 42 ∷ []) r));
      chunk = rw (q, r) refl;
    }
    by false false false true true p q r s t e = record {
      spells = rw (q, r) (text_of-pieces_of false (b ∷ bs) s);
      chunk = rw (q, r) (good_pieces b bs p slash s t);
    }
    by false false false true false p q r s t e = cc
    by false false false false z p q r s t e = cc

-- no part of a text that is cut at `/` has one
onto_free : (b : ℕ) (parts : List (List ℕ)) → (b == 47) ≡ false → list_all (λ part. not (list_any (λ c. c == 47) part)) parts ≡ true
    → list_all (λ part. not (list_any (λ c. c == 47) part)) (onto_first b parts) ≡ true
onto_free b [] e h = rw e refl
onto_free b (part ∷ parts) e h = rw e h

parts_slash_free : (text : List ℕ) → list_all (λ part. not (list_any (λ c. c == 47) part)) (chunks text) ≡ true
parts_slash_free [] = refl
parts_slash_free (b ∷ bs) = by (b == 47) refl (parts_slash_free bs)
  where
    by : (t : Bool) → (b == 47) ≡ t → list_all (λ part. not (list_any (λ c. c == 47) part)) (chunks bs) ≡ true
        → list_all (λ part. not (list_any (λ c. c == 47) part)) (cond t ([] ∷ chunks bs) (onto_first b (chunks bs))) ≡ true
    by true e ih = ih
    by false e ih = onto_free b (chunks bs) e ih

-- the chunks of a text without a fault
pub record GoodChunks (parts : List (List ℕ)) : Type 0 where
  pub spell : map chunk_text (map chunk_of parts) ≡ parts
  pub chunks_are : list_all is_chunk (map chunk_of parts) ≡ true

faults_apart : (a b : Option KeyError) → first_of_faults a b ≡ None → (a ≡ None) × (b ≡ None)
faults_apart None b h = (refl, h)
faults_apart (Some e) b h = cc

good_chunks : (parts : List (List ℕ)) → first_fault parts ≡ None → list_all (λ part. not (list_any (λ c. c == 47) part)) parts ≡ true → GoodChunks parts
good_chunks [] h free = record { spell = refl; chunks_are = refl }
good_chunks (part ∷ parts) h free =
    let faults = faults_apart (fault_of part) (first_fault parts) h in
    let frees = and_parts (not (list_any (λ c. c == 47) part)) (list_all (λ p. not (list_any (λ c. c == 47) p)) parts) free in
    let one = good_chunk part faults.0 (not-true (list_any (λ c. c == 47) part) frees.0) in
    let more = good_chunks parts faults.1 frees.1 in
    let spelt : chunk_text (chunk_of part) ≡ part = one.spells in
    let others : map chunk_text (map chunk_of parts) ≡ parts = more.spell in
    record {
      spell = cc;
      chunks_are = and_from (is_chunk (chunk_of part)) (list_all is_chunk (map chunk_of parts)) one.chunk more.chunks_are;
    }

-- a text is cut into one part or more
some_parts : (text : List ℕ) (e : List Chunk) → map chunk_of (chunks text) ≡ e → list_all is_chunk e ≡ true → is_expression e ≡ true
some_parts [] e h all =
    let no : list_all is_chunk (map chunk_of (chunks [])) ≡ true = ap (λ x. list_all is_chunk x) h ∙ all in
    absurd (false≢true no)
some_parts (b ∷ bs) [] h all = absurd (none (b == 47) (chunks bs) h)
  where
    none : (t : Bool) (parts : List (List ℕ)) → map chunk_of (cond t ([] ∷ parts) (onto_first b parts)) ≡ [] → ⊥
    none true parts = λ g. cc
    none false [] = λ g. cc
    none false (p ∷ ps) = λ g. cc
some_parts (b ∷ bs) (x ∷ e) h all = all

-- a text without a fault spells its expression
pub record IsSpelling (text : List ℕ) : Type 0 where
  pub spells : spelled (expression_of text) ≡ text
  pub expression : is_expression (expression_of text) ≡ true

pub IsSpelling-from_fault : (text : List ℕ) → first_fault (chunks text) ≡ None → IsSpelling text
IsSpelling-from_fault text h =
    let good = good_chunks (chunks text) h (parts_slash_free text) in
    record {
      spells = ap (λ parts. join_with_byte 47 parts) good.spell ∙ join_with_byte-slice_split 47 text;
      expression = some_parts text (expression_of text) refl good.chunks_are;
    }

-- the pieces of the text of pieces
pieces_of-text_of : (p : List Piece) → list_all is_piece p ≡ true → pieces_of (text_of p) ≡ p
pieces_of-text_of [] h = refl
pieces_of-text_of (Char c ∷ p) h =
    let parts = and_parts (is_plain c) (list_all is_piece p) h in
    let plain = plain_parts c parts.0 in
    let star : (c == 42) ≡ false = plain.1 in
    let dollar : (c == 36) ≡ false = plain.2 in
    rw (dollar, star) (ap (λ q. Char c ∷ q) (pieces_of-text_of p parts.1))
pieces_of-text_of (AnyChars ∷ p) h = ap (λ q. AnyChars ∷ q) (pieces_of-text_of p h)

-- the text of pieces has no `/`, `#` or `?`
text_of-slash_free : (p : List Piece) → list_all is_piece p ≡ true → list_any (λ b. b == 47) (text_of p) ≡ false
text_of-slash_free [] h = refl
text_of-slash_free (Char c ∷ p) h =
    let parts = and_parts (is_plain c) (list_all is_piece p) h in
    let e : (c == 47) ≡ false = (plain_parts c parts.0).0 in
    rw e (text_of-slash_free p parts.1)
text_of-slash_free (AnyChars ∷ p) h = text_of-slash_free p h

text_of-no_bad : (p : List Piece) → list_all is_piece p ≡ true → list_any (λ b. b == 35 || b == 63) (text_of p) ≡ false
text_of-no_bad [] h = refl
text_of-no_bad (Char c ∷ p) h =
    let parts = and_parts (is_plain c) (list_all is_piece p) h in
    let e : (c == 35 || c == 63) ≡ false = (plain_parts c parts.0).3 in
    rw e (text_of-no_bad p parts.1)
text_of-no_bad (AnyChars ∷ p) h = text_of-no_bad p h

-- its stars are paired
text_of-is_paired : (p : List Piece) → list_all is_piece p ≡ true → is_paired false (text_of p) ≡ true
text_of-is_paired [] h = refl
text_of-is_paired (Char c ∷ p) h =
    let parts = and_parts (is_plain c) (list_all is_piece p) h in
    let plain = plain_parts c parts.0 in
    let star : (c == 42) ≡ false = plain.1 in
    let dollar : (c == 36) ≡ false = plain.2 in
    rw (dollar, star) (text_of-is_paired p parts.1)
text_of-is_paired (AnyChars ∷ p) h = text_of-is_paired p h

-- it has a `$` where they have a `$*`
text_of-wild : (p : List Piece) → list_all is_piece p ≡ true → list_any (λ b. b == 36) (text_of p) ≡ is_wild p
text_of-wild [] h = refl
text_of-wild (Char c ∷ p) h =
    let parts = and_parts (is_plain c) (list_all is_piece p) h in
    let dollar : (c == 36) ≡ false = (plain_parts c parts.0).2 in
    rw dollar (text_of-wild p parts.1)
text_of-wild (AnyChars ∷ p) h = refl

-- the text of a chunk spells it, without a `/` or a fault
pub record IsChunkText (x : Chunk) : Type 0 where
  pub read_back : chunk_of (chunk_text x) ≡ x
  pub slash_free : list_any (λ b. b == 47) (chunk_text x) ≡ false
  pub fault_free : fault_of (chunk_text x) ≡ None

chunk_text-IsChunkText : (x : Chunk) → is_chunk x ≡ true → IsChunkText x
chunk_text-IsChunkText Any h = record { read_back = refl; slash_free = refl; fault_free = refl }
chunk_text-IsChunkText AnyChunks h = record { read_back = refl; slash_free = refl; fault_free = refl }
chunk_text-IsChunkText (Pieces []) h = cc
chunk_text-IsChunkText (Pieces (Char c ∷ p)) h =
    let parts = and_parts (list_all is_piece (Char c ∷ p)) (not (begins_verbatim (Char c ∷ p) && is_wild (Char c ∷ p))) h in
    let pieces = and_parts (is_plain c) (list_all is_piece p) parts.0 in
    let plain = plain_parts c pieces.0 in
    let star : (c == 42) ≡ false = plain.1 in
    let dollar : (c == 36) ≡ false = plain.2 in
    let bad : list_any (λ b. b == 35 || b == 63) (text_of (Char c ∷ p)) ≡ false = text_of-no_bad (Char c ∷ p) parts.0 in
    let paired : is_paired false (text_of p) ≡ true = text_of-is_paired p pieces.1 in
    let wild : list_any (λ b. b == 36) (text_of p) ≡ is_wild p = text_of-wild p pieces.1 in
    let verbatim : not (c == 64 && is_wild p) ≡ true = parts.1 in
    record {
      read_back = rw (star, dollar) (ap (λ q. Pieces (Char c ∷ q)) (pieces_of-text_of p pieces.1));
      slash_free = text_of-slash_free (Char c ∷ p) parts.0;
      fault_free = rw (bad, star, dollar, paired, wild, verbatim) refl;
    }
chunk_text-IsChunkText (Pieces (AnyChars ∷ p)) h =
    let parts = and_parts (list_all is_piece (AnyChars ∷ p)) true h in
    let bad : list_any (λ b. b == 35 || b == 63) (text_of p) ≡ false = text_of-no_bad p parts.0 in
    let paired : is_paired false (text_of p) ≡ true = text_of-is_paired p parts.0 in
    record {
      read_back = ap Pieces (pieces_of-text_of (AnyChars ∷ p) parts.0);
      slash_free = text_of-slash_free (AnyChars ∷ p) parts.0;
      fault_free = rw (bad, paired) refl;
    }

-- the chunks of the text of chunks, and that it has no fault
pub record AreChunkTexts (e : List Chunk) : Type 0 where
  pub read_back : map chunk_of (map chunk_text e) ≡ e
  pub slash_free : list_all (λ part. not (list_any (λ c. c == 47) part)) (map chunk_text e) ≡ true
  pub fault_free : first_fault (map chunk_text e) ≡ None

chunk_texts : (e : List Chunk) → list_all is_chunk e ≡ true → AreChunkTexts e
chunk_texts [] h = record { read_back = refl; slash_free = refl; fault_free = refl }
chunk_texts (x ∷ e) h =
    let parts = and_parts (is_chunk x) (list_all is_chunk e) h in
    let one = chunk_text-IsChunkText x parts.0 in
    let more = chunk_texts e parts.1 in
    let back : chunk_of (chunk_text x) ≡ x = one.read_back in
    let backs : map chunk_of (map chunk_text e) ≡ e = more.read_back in
    let free : list_any (λ c. c == 47) (chunk_text x) ≡ false = one.slash_free in
    let fault : fault_of (chunk_text x) ≡ None = one.fault_free in
    record {
      read_back = cc;
      slash_free = rw free more.slash_free;
      fault_free = rw fault more.fault_free;
    }

none_pass : (part : List ℕ) → list_any (λ c. c == 47) part ≡ false → All (λ b. (b == 47) ≡ false) part
none_pass [] h = All-nil (λ b. (b == 47) ≡ false)
none_pass (b ∷ bs) h =
    let parts = or_parts (b == 47) (list_any (λ c. c == 47) bs) h in
    All-cons (λ c. (c == 47) ≡ false) b bs parts.0 (none_pass bs parts.1)

-- cutting the joined parts gives the parts
chunks-join : (part : List ℕ) (parts : List (List ℕ)) → list_all (λ p. not (list_any (λ c. c == 47) p)) (part ∷ parts) ≡ true
    → chunks (join_with_byte 47 (part ∷ parts)) ≡ part ∷ parts
chunks-join part [] free =
    let frees = and_parts (not (list_any (λ c. c == 47) part)) true free in
    slice_split_none (λ b. b == 47) part (none_pass part (not-true (list_any (λ c. c == 47) part) frees.0))
chunks-join part (next ∷ parts) free =
    let frees = and_parts (not (list_any (λ c. c == 47) part)) (list_all (λ p. not (list_any (λ c. c == 47) p)) (next ∷ parts)) free in
    slice_split_at (λ b. b == 47) part 47 (join_with_byte 47 (next ∷ parts)) (none_pass part (not-true (list_any (λ c. c == 47) part) frees.0)) refl
    ∙ ap (λ ps. part ∷ ps) (chunks-join next parts frees.1)

-- the text of an expression spells it, and is read without a fault
pub record IsRead (e : List Chunk) : Type 0 where
  pub read_back : expression_of (spelled e) ≡ e
  pub fault_free : first_fault (chunks (spelled e)) ≡ None

pub IsRead-from_expression : (e : List Chunk) → is_expression e ≡ true → IsRead e
IsRead-from_expression [] h = cc
IsRead-from_expression (x ∷ e) h =
    let texts = chunk_texts (x ∷ e) h in
    let cut : chunks (spelled (x ∷ e)) ≡ map chunk_text (x ∷ e) = chunks-join (chunk_text x) (map chunk_text e) texts.slash_free in
    record {
      read_back = ap (λ parts. map chunk_of parts) cut ∙ texts.read_back;
      fault_free = ap (λ parts. first_fault parts) cut ∙ texts.fault_free;
    }
