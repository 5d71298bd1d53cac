-- What reading a text promises beyond the text that it gives.
use Rattle.std.specs.Prelude.{◌≡◌, ◌↔◌, ◌≤◌, ◌<◌, ℕ, List, [], ◌∷◌, length, nat_le, Ok, true, encode_utf8}
use Rattle.std.specs.Str.{is_utf8, chars}
use Rattle.std.specs.List.{list_all}
use Rattle.zr_key.specs.Expression.{Chunk, spelled, Spells, ReadsAs, LeadsTo, Matches}
use Rattle.zr_key.specs.Key.{expression_of, read_key}

-- The text that is read is that of a canonical expression to which replacements lead from the one that was spelled.
abbrev pub IsReading : Type 0
IsReading = (text canonical : List ℕ) → read_key text ≡ Ok canonical → (e : List Chunk) × ReadsAs text e × (canonical ≡ spelled e)

-- Each UTF-8 text of at most 2,048 bytes that spells an expression is read.
abbrev pub ReadsEach : Type 0
ReadsEach = (text : List ℕ) (e : List Chunk) → Spells text e → is_utf8 text ≡ true → length text ≤ 2048 → (canonical : List ℕ) × (read_key text ≡ Ok canonical)

-- Replacements keep the keys that an expression matches.
abbrev pub ReplacingKeepsKeys : Type 0
ReplacingKeepsKeys = (e f : List Chunk) → LeadsTo e f → (key : List (List ℕ)) → Matches e key ↔ Matches f key

-- An expression that a text spells matches the keys that the canonical text's expression matches.
abbrev pub ReadingKeepsKeys : Type 0
ReadingKeepsKeys = (text canonical : List ℕ) (e : List Chunk) → Spells text e → read_key text ≡ Ok canonical → (key : List (List ℕ)) → Matches e key ↔ Matches (expression_of canonical) key

-- A canonical text is read as itself.
abbrev pub ReadingIsSettled : Type 0
ReadingIsSettled = (text canonical : List ℕ) → read_key text ≡ Ok canonical → read_key canonical ≡ Ok canonical

-- UTF-8 texts have the same characters only where they have the same bytes; an ASCII character is the one byte of its number, and no byte
-- of another character is one of an ASCII character.
abbrev pub BytesAreCharacters : Type 0
BytesAreCharacters =
    ((s t : List ℕ) → is_utf8 s ≡ true → is_utf8 t ≡ true → chars s ≡ chars t → s ≡ t)
    × ((c : ℕ) → c < 128 → encode_utf8 c ≡ c ∷ [])
    × ((c : ℕ) → 128 ≤ c → list_all (λ b. nat_le 128 b) (encode_utf8 c) ≡ true)
