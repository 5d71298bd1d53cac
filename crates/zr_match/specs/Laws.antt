-- What meeting and covering promise of keys.
use Rattle.std.specs.Prelude.{◌≡◌, ◌↔◌, ℕ, ◌==◌, ◌≤◌, ◌&&◌, ◌||◌, not, nat_lt, nat_le, Bool, true, false, List, length}
use Rattle.std.specs.List.{list_any, list_all}
use Rattle.std.specs.Str.{is_utf8}
use Rattle.zr_key.specs.Expression.{Piece, Char, AnyChars, Chunk, Any, AnyChunks, Pieces, is_plain, is_key, is_expression, is_canonical, Matches, spelled}
use Rattle.zr_key.specs.Key.{expression_of, IsKeyText}
use Rattle.zr_match.specs.Match.{Meets, Covers}
use Rattle.zr_match.specs.Table.{is_any_chunks, texts_meet, texts_cover}

-- The tests of texts say what the definitions say.
abbrev pub TestsAreRight : Type 0
TestsAreRight = (a b : List ℕ) → IsKeyText a → IsKeyText b
    → ((texts_meet a b ≡ true) ↔ Meets (expression_of a) (expression_of b)) × ((texts_cover a b ≡ true) ↔ Covers (expression_of a) (expression_of b))

-- Where one expression covers another, it matches each key that the other matches.
abbrev pub CoveringIsInclusion : Type 0
CoveringIsInclusion = (a b : List Chunk) → Covers a b → (key : List (List ℕ)) → Matches b key → Matches a key

-- whether a piece passes a test of its character
abbrev pub piece_passes : (ℕ → Bool) → Piece → Bool
piece_passes test (Char c) = test c
piece_passes test AnyChars = true

-- whether each character of an expression passes a test
abbrev pub chunk_passes : (ℕ → Bool) → Chunk → Bool
chunk_passes test Any = true
chunk_passes test AnyChunks = true
chunk_passes test (Pieces p) = list_all (piece_passes test) p

-- A character that a key may have, `@` aside, that is of an alphabet and does not stand in an expression.
pub record IsFresh (alphabet : ℕ → Bool) (a : List Chunk) (z : ℕ) : Type 0 where
  pub known : alphabet z ≡ true
  pub plain : is_plain z ≡ true
  pub no_at : (z == 64) ≡ false
  pub unused : list_all (chunk_passes (λ c. not (c == z))) a ≡ true

-- The other way round, where the second expression has no `**`: over each alphabet that has the characters of the second one and one more
-- that the first one does not use, a canonical expression covers another where it matches each key of the alphabet that the other matches.
abbrev pub InclusionIsCovering : Type 0
InclusionIsCovering = (alphabet : ℕ → Bool) (a b : List Chunk) (z : ℕ) → IsFresh alphabet a z → list_all (chunk_passes alphabet) b ≡ true
    → is_expression a ≡ true → is_canonical a ≡ true → is_expression b ≡ true → list_any is_any_chunks b ≡ false
    → ((key : List (List ℕ)) → is_key key ≡ true → list_all (λ chunk. list_all alphabet chunk) key ≡ true → Matches b key → Matches a key) → Covers a b

-- a Unicode scalar value
abbrev pub is_scalar : ℕ → Bool
is_scalar c = nat_lt c 0xd800 || nat_le 0xe000 c && nat_lt c 0x110000

-- Of the Unicode characters there is such a one for each expression of at most 2,048 bytes.
abbrev pub FreshIsThere : Type 0
FreshIsThere = (a : List Chunk) → is_expression a ≡ true → length (spelled a) ≤ 2048 → (z : ℕ) × IsFresh is_scalar a z

-- Where the expressions of two texts meet, a key of characters is matched by both: each of its chunks is UTF-8.
abbrev pub MeetingHasText : Type 0
MeetingHasText = (a b : List ℕ) → IsKeyText a → IsKeyText b → Meets (expression_of a) (expression_of b)
    → (key : List (List ℕ)) × (is_key key ≡ true) × (list_all is_utf8 key ≡ true) × Matches (expression_of a) key × Matches (expression_of b) key

-- Of texts, as the code compares them byte by byte: one covers another without `**` exactly where it matches each key of characters that
-- the other matches.
abbrev pub CoveringIsInclusionOfTexts : Type 0
CoveringIsInclusionOfTexts = (a b : List ℕ) → IsKeyText a → IsKeyText b → list_any is_any_chunks (expression_of b) ≡ false
    → ((texts_cover a b ≡ true) ↔ ((key : List (List ℕ)) → is_key key ≡ true → list_all is_utf8 key ≡ true → Matches (expression_of b) key → Matches (expression_of a) key))
