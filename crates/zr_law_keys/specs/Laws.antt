-- Keys are lists of characters (Zenoh key expressions RFC), and texts are compared byte by byte. Both ways say the same.
use Rattle.std.specs.Prelude.{◌≡◌, ◌↔◌, ℕ, true, List, map}
use Rattle.std.specs.List.{list_all}
use Rattle.std.specs.Str.{is_utf8, chars}
use Rattle.zr_key.specs.Expression.{Chunk, is_key, Matches}
use Rattle.zr_key.specs.Key.{expression_of, IsKeyText}
use Rattle.zr_match.specs.Match.{Meets}
use Rattle.zr_match.specs.Laws.{is_scalar}

-- A text matches a key of texts exactly where the text's characters match the key's: so `$*` stands for whole characters.
abbrev pub MatchingIsOfCharacters : Type 0
MatchingIsOfCharacters = (text : List ℕ) (key : List (List ℕ)) → is_utf8 text ≡ true → list_all is_utf8 key ≡ true
    → Matches (expression_of text) key ↔ Matches (expression_of (chars text)) (map chars key)

-- Some key of Unicode characters is matched by both expressions.
abbrev pub MeetInCharacters : List Chunk → List Chunk → Type 0
MeetInCharacters a b = (key : List (List ℕ)) × (is_key key ≡ true) × (list_all (λ chunk. list_all is_scalar chunk) key ≡ true) × Matches a key × Matches b key

-- The expressions of two texts meet exactly where those of their characters do.
abbrev pub MeetingIsOfCharacters : Type 0
MeetingIsOfCharacters = (a b : List ℕ) → IsKeyText a → IsKeyText b
    → Meets (expression_of a) (expression_of b) ↔ MeetInCharacters (expression_of (chars a)) (expression_of (chars b))
