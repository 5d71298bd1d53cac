-- How a text is read: the expression that it spells, its canonical form, and what is wrong with a text that spells none.
use Rattle.std.specs.Prelude.{◌≡◌, ℕ, ◌==◌, ◌||◌, ◌&&◌, ◌≤◌, not, nat_eq, nat_lt, Bool, true, false, if◌then◌else◌, List, [], ◌∷◌, ◌++◌, length, map, Option, Some, None, Result, Ok, Err}
use Rattle.std.specs.List.{list_any, slice_split, flat_map, position_or_len}
use Rattle.std.specs.Cmp.Lexicographic.{pointwise}
use Rattle.std.specs.Str.{is_utf8}
use Rattle.zr_key.specs.Expression.{Piece, Char, AnyChars, Chunk, Any, AnyChunks, Pieces, chunk_text, spelled, is_expression, is_canonical}
use Rattle.zr_key.specs.declared.key.KeyError.{KeyError}
use Rattle.zr_key.specs.declared.key.KeyError.TheVariants.{Empty, EmptyChunk, BadChar, BadStar, NotUtf8, TooLong, NoMemory}

-- the chunks of a text, which are parted by `/`
abbrev pub chunks : List ℕ → List (List ℕ)
chunks text = slice_split (λ b. b == 47) text

-- the pieces of a chunk: `$` begins a `$*`, and a `*` stands behind a `$` alone
abbrev pub pieces_of : List ℕ → List Piece
pieces_of [] = []
pieces_of (b ∷ bs) = if b == 36 then AnyChars ∷ pieces_of bs else if b == 42 then pieces_of bs else Char b ∷ pieces_of bs

-- the chunk that a text without `/` spells
abbrev pub chunk_of : List ℕ → Chunk
chunk_of text =
    if pointwise nat_eq text (42 ∷ []) then Any
    else if pointwise nat_eq text (42 ∷ 42 ∷ []) then AnyChunks
    else Pieces (pieces_of text)

-- the expression that a text spells
abbrev pub expression_of : List ℕ → List Chunk
expression_of text = map chunk_of (chunks text)

-- a `*` stands right behind each `$` and nowhere else; the flag says whether a `$` stands in front
abbrev pub is_paired : Bool → List ℕ → Bool
is_paired true [] = false
is_paired false [] = true
is_paired true (b ∷ bs) = b == 42 && is_paired false bs
is_paired false (b ∷ bs) = not (b == 42) && is_paired (b == 36) bs

-- whether a text begins with `@`
abbrev pub begins_at : List ℕ → Bool
begins_at [] = false
begins_at (b ∷ bs) = b == 64

-- the stars of a chunk stand where they may: it is `*` or `**`, or its stars are those of `$*` and it does not begin with `@`
abbrev pub has_good_stars : List ℕ → Bool
has_good_stars chunk =
    pointwise nat_eq chunk (42 ∷ []) || pointwise nat_eq chunk (42 ∷ 42 ∷ [])
    || is_paired false chunk && not (begins_at chunk && list_any (λ b. b == 36) chunk)

-- what is wrong with a chunk: it is empty, else it has `#` or `?`, else a `*` or `$` stands where it may not
abbrev pub fault_of : List ℕ → Option KeyError
fault_of [] = Some EmptyChunk
fault_of (b ∷ bs) =
    if list_any (λ c. c == 35 || c == 63) (b ∷ bs) then Some BadChar
    else if has_good_stars (b ∷ bs) then None
    else Some BadStar

-- the first fault, or else the second
abbrev pub first_of_faults : Option KeyError → Option KeyError → Option KeyError
first_of_faults (Some e) other = Some e
first_of_faults None other = other

-- what is wrong with the first faulty chunk from the left
abbrev pub first_fault : List (List ℕ) → Option KeyError
first_fault [] = None
first_fault (chunk ∷ rest) = first_of_faults (fault_of chunk) (first_fault rest)

-- pieces with one `$*` for each run of them; the flag says whether one stands in front
abbrev pub single : Bool → List Piece → List Piece
single after [] = []
single after (Char c ∷ p) = Char c ∷ single false p
single true (AnyChars ∷ p) = single true p
single false (AnyChars ∷ p) = AnyChars ∷ single true p

-- pieces as a chunk: `$*` alone is `*`
abbrev pub alone : List Piece → Chunk
alone [] = Any
alone (AnyChars ∷ []) = Any
alone p = Pieces p

-- the canonical form of a chunk
abbrev pub settled : Chunk → Chunk
settled Any = Any
settled AnyChunks = AnyChunks
settled (Pieces p) = alone (single false p)

-- each `**` behind the `*`s that follow it, and one for each run of them; the flag says whether one is waiting
abbrev pub ordered : Bool → List Chunk → List Chunk
ordered true [] = AnyChunks ∷ []
ordered false [] = []
ordered waiting (Any ∷ e) = Any ∷ ordered waiting e
ordered waiting (AnyChunks ∷ e) = ordered true e
ordered true (Pieces p ∷ e) = AnyChunks ∷ Pieces p ∷ ordered false e
ordered false (Pieces p ∷ e) = Pieces p ∷ ordered false e

-- the canonical form of an expression
abbrev pub canonical : List Chunk → List Chunk
canonical e = ordered false (map settled e)

-- the text of chunks, with a `/` behind each
abbrev pub lined : List Chunk → List ℕ
lined e = flat_map (λ x. chunk_text x ++ 47 ∷ []) e

-- a text without that fault is read as the text of its canonical form
abbrev pub unless_faulty : Option KeyError → List ℕ → Result (List ℕ) KeyError
unless_faulty (Some e) text = Err e
unless_faulty None text = Ok (spelled (canonical (expression_of text)))

-- the canonical text of the expression that a text spells, or the first rule that it breaks
abbrev pub read_key : List ℕ → Result (List ℕ) KeyError
read_key [] = Err Empty
read_key (b ∷ bs) =
    if nat_lt 2048 (length (b ∷ bs)) then Err TooLong
    else if not (is_utf8 (b ∷ bs)) then Err NotUtf8
    else unless_faulty (first_fault (chunks (b ∷ bs))) (b ∷ bs)

-- what a call gave is what is said, unless memory ran out
abbrev pub Answers : Result (List ℕ) KeyError → Result (List ℕ) KeyError → Type 0
Answers (Ok text) said = said ≡ Ok text
Answers (Err NoMemory) said = Unit {0}
Answers (Err e) said = said ≡ Err e

-- what the text of a `KeyExpr` is: at most 2,048 bytes that spell a canonical expression
pub record IsKeyText (text : List ℕ) : Type 0 where
  pub short : length text ≤ 2048
  pub utf8 : is_utf8 text ≡ true
  pub spells : spelled (expression_of text) ≡ text
  pub expression : is_expression (expression_of text) ≡ true
  pub canonical_form : is_canonical (expression_of text) ≡ true

-- whether a text has neither `*` nor `$`
abbrev pub is_plain_text : List ℕ → Bool
is_plain_text text = not (list_any (λ b. b == 42 || b == 36) text)

-- how many bytes of a text stand before its first `*` or `$`
abbrev pub plain_prefix_len : List ℕ → ℕ
plain_prefix_len text = position_or_len (λ b. b == 42 || b == 36) text
