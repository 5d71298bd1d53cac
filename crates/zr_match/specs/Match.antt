-- When two expressions meet, and when one covers the other (Zenoh key expressions RFC).
use Rattle.std.specs.Prelude.{◌≡◌, ℕ, Bool, true, false, List, [], ◌∷◌, ◌++◌}
use Rattle.std.specs.List.{list_any}
use Rattle.zr_key.specs.Expression.{Piece, Char, AnyChars, Chunk, Any, AnyChunks, Pieces, is_key, is_wild, begins_verbatim, Matches}

-- Some key is matched by both.
abbrev pub Meets : List Chunk → List Chunk → Type 0
Meets a b = (key : List (List ℕ)) × (is_key key ≡ true) × Matches a key × Matches b key

-- a verbatim chunk of an expression: it begins with `@`
abbrev pub is_verbatim_chunk : Chunk → Bool
is_verbatim_chunk Any = false
is_verbatim_chunk AnyChunks = false
is_verbatim_chunk (Pieces p) = begins_verbatim p

-- Pieces are made from others by replacing each `$*` by some pieces or none.
abbrev pub Takes : List Piece → List Piece → Type 0
Takes [] q = q ≡ []
Takes (Char c ∷ p) [] = ⊥
Takes (Char c ∷ p) (Char d ∷ q) = (c ≡ d) × Takes p q
Takes (Char c ∷ p) (AnyChars ∷ q) = ⊥
Takes (AnyChars ∷ p) q = (run : List Piece) × (rest : List Piece) × (q ≡ run ++ rest) × Takes p rest

-- A chunk other than `**` takes one chunk: `*` any but `**` and verbatim ones, and pieces those that are made from them; pieces with a
-- wildcard take no verbatim ones.
abbrev pub TakesChunk : Chunk → Chunk → Type 0
TakesChunk Any Any = Unit {0}
TakesChunk Any AnyChunks = ⊥
TakesChunk Any (Pieces q) = begins_verbatim q ≡ false
TakesChunk AnyChunks c = ⊥
TakesChunk (Pieces p) Any = ⊥
TakesChunk (Pieces p) AnyChunks = ⊥
TakesChunk (Pieces p) (Pieces q) = Takes p q × (is_wild p ≡ true → begins_verbatim q ≡ false)

-- An expression covers another, chunk by chunk; `**` takes any run of chunks that are not verbatim, wildcards among them, also none.
abbrev pub Covers : List Chunk → List Chunk → Type 0
Covers [] b = b ≡ []
Covers (AnyChunks ∷ a) b = (run : List Chunk) × (rest : List Chunk) × (b ≡ run ++ rest) × (list_any is_verbatim_chunk run ≡ false) × Covers a rest
Covers (Any ∷ a) [] = ⊥
Covers (Any ∷ a) (c ∷ b) = TakesChunk Any c × Covers a b
Covers (Pieces p ∷ a) [] = ⊥
Covers (Pieces p ∷ a) (c ∷ b) = TakesChunk (Pieces p) c × Covers a b
