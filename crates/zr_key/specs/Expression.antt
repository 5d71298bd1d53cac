-- Keys and key expressions as data, and which keys an expression matches (Zenoh key expressions RFC).
-- A character stands as the bytes of its UTF-8 form: two texts have the same characters exactly where they have the same bytes,
-- and each of `/ * $ # ? @` is one byte that no other character's form has. Read over code points, each definition says the same.
use Rattle.std.specs.Prelude.{◌≡◌, ℕ, ◌==◌, ◌||◌, ◌&&◌, not, Bool, true, false, List, [], ◌∷◌, ◌++◌, map}
use Rattle.std.specs.List.{list_any, list_all, flat_map, join_with_byte}

-- a piece of a chunk: a character, or `$*`
pub data Piece : Type 0 where
  Char : ℕ → Piece
  AnyChars : Piece

-- a chunk of an expression: `*`, `**`, or pieces
pub data Chunk : Type 0 where
  Any : Chunk
  AnyChunks : Chunk
  Pieces : List Piece → Chunk

-- a character that a key may have: all but `/`, `*`, `$`, `#` and `?`
abbrev pub is_plain : ℕ → Bool
is_plain c = not (c == 47 || c == 42 || c == 36 || c == 35 || c == 63)

-- a chunk of a key: some characters that a key may have
abbrev pub is_key_chunk : List ℕ → Bool
is_key_chunk [] = false
is_key_chunk (c ∷ cs) = list_all is_plain (c ∷ cs)

-- a key: one or more chunks
abbrev pub is_key : List (List ℕ) → Bool
is_key [] = false
is_key (c ∷ cs) = list_all is_key_chunk (c ∷ cs)

-- a verbatim chunk of a key: it begins with `@`
abbrev pub is_verbatim : List ℕ → Bool
is_verbatim [] = false
is_verbatim (c ∷ cs) = c == 64

abbrev pub is_any_chars : Piece → Bool
is_any_chars (Char c) = false
is_any_chars AnyChars = true

abbrev pub is_piece : Piece → Bool
is_piece (Char c) = is_plain c
is_piece AnyChars = true

-- whether pieces begin with `@`
abbrev pub begins_verbatim : List Piece → Bool
begins_verbatim [] = false
begins_verbatim (Char c ∷ p) = c == 64
begins_verbatim (AnyChars ∷ p) = false

-- whether pieces have a `$*`
abbrev pub is_wild : List Piece → Bool
is_wild p = list_any is_any_chars p

-- a chunk of an expression; one that begins with `@` has no `$*`
abbrev pub is_chunk : Chunk → Bool
is_chunk Any = true
is_chunk AnyChunks = true
is_chunk (Pieces []) = false
is_chunk (Pieces (x ∷ p)) = list_all is_piece (x ∷ p) && not (begins_verbatim (x ∷ p) && is_wild (x ∷ p))

-- an expression: one or more chunks
abbrev pub is_expression : List Chunk → Bool
is_expression [] = false
is_expression (x ∷ e) = list_all is_chunk (x ∷ e)

abbrev pub piece_text : Piece → List ℕ
piece_text (Char c) = c ∷ []
piece_text AnyChars = 36 ∷ 42 ∷ []

abbrev pub chunk_text : Chunk → List ℕ
chunk_text Any = 42 ∷ []
chunk_text AnyChunks = 42 ∷ 42 ∷ []
chunk_text (Pieces p) = flat_map piece_text p

-- the text that spells an expression: its chunks, joined by `/`
abbrev pub spelled : List Chunk → List ℕ
spelled e = join_with_byte 47 (map chunk_text e)

-- A chunk of a key is pieces with each `$*` replaced by some characters or none.
abbrev pub Fits : List Piece → List ℕ → Type 0
Fits [] cs = cs ≡ []
Fits (Char c ∷ p) [] = ⊥
Fits (Char c ∷ p) (b ∷ cs) = (c ≡ b) × Fits p cs
Fits (AnyChars ∷ p) cs = (run : List ℕ) × (rest : List ℕ) × (cs ≡ run ++ rest) × Fits p rest

-- A chunk other than `**` matches one chunk of a key; one with a wildcard matches no verbatim chunk.
abbrev pub MatchesChunk : Chunk → List ℕ → Type 0
MatchesChunk Any cs = is_verbatim cs ≡ false
MatchesChunk AnyChunks cs = ⊥
MatchesChunk (Pieces p) cs = Fits p cs × (is_wild p ≡ true → is_verbatim cs ≡ false)

-- An expression matches a key, chunk by chunk; `**` takes any run of chunks that are not verbatim, also none.
abbrev pub Matches : List Chunk → List (List ℕ) → Type 0
Matches [] k = k ≡ []
Matches (AnyChunks ∷ e) k = (run : List (List ℕ)) × (rest : List (List ℕ)) × (k ≡ run ++ rest) × (list_any is_verbatim run ≡ false) × Matches e rest
Matches (Any ∷ e) [] = ⊥
Matches (Any ∷ e) (c ∷ k) = MatchesChunk Any c × Matches e k
Matches (Pieces p ∷ e) [] = ⊥
Matches (Pieces p ∷ e) (c ∷ k) = MatchesChunk (Pieces p) c × Matches e k

-- The four replacements: `$*$*` by `$*`, a chunk `$*` by `*`, `**/**` by `**`, and `**/*` by `*/**`.
pub data Replaces : List Chunk → List Chunk → Type 0 where
  any_chars_twice : (p q : List Piece) → Replaces (Pieces (p ++ AnyChars ∷ AnyChars ∷ q) ∷ []) (Pieces (p ++ AnyChars ∷ q) ∷ [])
  any_chars_alone : Replaces (Pieces (AnyChars ∷ []) ∷ []) (Any ∷ [])
  any_chunks_twice : Replaces (AnyChunks ∷ AnyChunks ∷ []) (AnyChunks ∷ [])
  any_chunks_before_any : Replaces (AnyChunks ∷ Any ∷ []) (Any ∷ AnyChunks ∷ [])

-- Some replacements, one after another, lead from one expression to another.
pub data LeadsTo : List Chunk → List Chunk → Type 0 where
  is_there : (e : List Chunk) → LeadsTo e e
  replace : (before after old new f : List Chunk) → Replaces old new → LeadsTo (before ++ new ++ after) f → LeadsTo (before ++ old ++ after) f

-- whether pieces begin with `$*`
abbrev pub begins_any : List Piece → Bool
begins_any [] = false
begins_any (x ∷ p) = is_any_chars x

-- no two `$*` stand side by side
abbrev pub is_single : List Piece → Bool
is_single [] = true
is_single (Char c ∷ p) = is_single p
is_single (AnyChars ∷ p) = not (begins_any p) && is_single p

-- a chunk with no two `$*` side by side that is not `$*` alone
abbrev pub is_canonical_chunk : Chunk → Bool
is_canonical_chunk Any = true
is_canonical_chunk AnyChunks = true
is_canonical_chunk (Pieces (AnyChars ∷ [])) = false
is_canonical_chunk (Pieces p) = is_single p

-- whether an expression begins with `*` or `**`
abbrev pub begins_wild : List Chunk → Bool
begins_wild [] = false
begins_wild (Any ∷ e) = true
begins_wild (AnyChunks ∷ e) = true
begins_wild (Pieces p ∷ e) = false

-- no `**` is followed by `**` or `*`
abbrev pub is_ordered : List Chunk → Bool
is_ordered [] = true
is_ordered (Any ∷ e) = is_ordered e
is_ordered (AnyChunks ∷ e) = not (begins_wild e) && is_ordered e
is_ordered (Pieces p ∷ e) = is_ordered e

abbrev pub is_canonical : List Chunk → Bool
is_canonical e = list_all is_canonical_chunk e && is_ordered e

-- A text spells an expression.
abbrev pub Spells : List ℕ → List Chunk → Type 0
Spells text e = (is_expression e ≡ true) × (text ≡ spelled e)

-- A text is read as an expression: it spells one from which replacements lead to it, and it is canonical.
abbrev pub ReadsAs : List ℕ → List Chunk → Type 0
ReadsAs text e = (spelt : List Chunk) × Spells text spelt × LeadsTo spelt e × (is_canonical e ≡ true)
