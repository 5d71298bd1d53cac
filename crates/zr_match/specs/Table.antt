-- The table by which two patterns are compared: a row for each sign of the first, a column for each sign of the second. The same table
-- serves chunks and the pieces within them, and both questions: whether the patterns meet, and whether the first covers the second.
use Rattle.std.specs.Prelude.{◌≡◌, ℕ, ◌==◌, ◌≤◌, ◌&&◌, ◌||◌, not, Bool, true, false, if◌then◌else◌, List, [], ◌∷◌, length, reverse, slice_index_or, take}
use Rattle.zr_key.specs.Expression.{Piece, Char, AnyChars, Chunk, Any, AnyChunks, Pieces, is_any_chars, is_wild, begins_verbatim}
use Rattle.zr_key.specs.Key.{expression_of}
use Rattle.zr_match.specs.Match.{is_verbatim_chunk}

-- what the table asks of the signs of patterns: which are gaps (`**`, `$*`), which a gap may stand for, which two go together, and
-- whether a gap of the second pattern stands for signs of the first
pub record Signs (X : Type 0) : Type 0 where
  pub is_gap : X → Bool
  pub is_open : X → Bool
  pub go_together : X → X → Bool
  pub expands : Bool

-- one place of the table, by the signs of its row and column and the places across, above and to the left
abbrev pub place : {X : Type 0} → Signs X → X → X → Bool → Bool → Bool → Bool
place s x y across above left =
    if s.is_gap x then above || s.is_open y && left
    else if s.is_gap y then s.expands && (left || s.is_open x && above)
    else s.go_together x y && across

-- the row of no sign: what is left of the second pattern is gaps
abbrev pub first_row : {X : Type 0} → Signs X → List X → Bool
first_row s [] = true
first_row s (y ∷ b) = s.expands && s.is_gap y && first_row s b

-- the row of one more sign, from the row above it
abbrev pub next_row : {X : Type 0} → Signs X → X → (List X → Bool) → List X → Bool
next_row s x above [] = s.is_gap x && above []
next_row s x above (y ∷ b) = place s x y (above b) (above (y ∷ b)) (next_row s x above b)

-- the place of two patterns
abbrev pub table : {X : Type 0} → Signs X → List X → List X → Bool
table s [] = first_row s
table s (x ∷ a) = next_row s x (table s a)

-- two pieces go together where they are the same character
abbrev pub same_char : Piece → Piece → Bool
same_char (Char c) (Char d) = c == d
same_char (Char c) AnyChars = false
same_char AnyChars y = false

abbrev pub piece_signs : Bool → Signs Piece
piece_signs expands = record { is_gap = is_any_chars; is_open = λ x. true; go_together = same_char; expands = expands }

-- pieces are compared from their ends
abbrev pub pieces_compare : Bool → List Piece → List Piece → Bool
pieces_compare expands p q = table (piece_signs expands) (reverse p) (reverse q)

abbrev pub is_any_chunks : Chunk → Bool
is_any_chunks Any = false
is_any_chunks AnyChunks = true
is_any_chunks (Pieces p) = false

-- two chunks go together; where the second expands, they have a chunk of a key in common, and else the first takes the second
abbrev pub chunks_go_together : Bool → Chunk → Chunk → Bool
chunks_go_together expands Any y = not (is_verbatim_chunk y) && not (is_any_chunks y)
chunks_go_together expands AnyChunks y = false
chunks_go_together expands (Pieces p) Any = expands && not (begins_verbatim p)
chunks_go_together expands (Pieces p) AnyChunks = false
chunks_go_together expands (Pieces p) (Pieces q) =
    not (is_wild p && begins_verbatim q) && not (is_wild q && begins_verbatim p) && pieces_compare expands p q

abbrev pub chunk_signs : Bool → Signs Chunk
chunk_signs expands = record { is_gap = is_any_chunks; is_open = λ x. not (is_verbatim_chunk x); go_together = chunks_go_together expands; expands = expands }

-- expressions are compared from their ends
abbrev pub compare_chunks : Bool → List Chunk → List Chunk → Bool
compare_chunks expands a b = table (chunk_signs expands) (reverse a) (reverse b)

-- a row of the table: at each place what a function says of the signs so far, the last one first
abbrev pub IsRow : {X : Type 0} → (List X → Bool) → List X → List Bool → Type 0
IsRow f b row = (k : ℕ) → k ≤ length b → slice_index_or row k false ≡ f (reverse (take k b))

-- the piece of a byte that is no `*`: a `$` stands for `$*`
abbrev pub piece_of : ℕ → Piece
piece_of b = if b == 36 then AnyChars else Char b

-- whether the expressions of two texts meet, and whether the first one's covers the second one's: what `Meets` and `Covers` say, as tests
unfoldable pub texts_meet : List ℕ → List ℕ → Bool
texts_meet a b = compare_chunks true (expression_of a) (expression_of b)

unfoldable pub texts_cover : List ℕ → List ℕ → Bool
texts_cover a b = compare_chunks false (expression_of a) (expression_of b)
