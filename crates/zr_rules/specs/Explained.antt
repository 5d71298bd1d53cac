-- Where a faulty line of rules is wrong, and what is said of it.
use Rattle.std.specs.Prelude.{ℕ, ◌+◌, ◌-◌, ◌==◌, ◌||◌, not, nat_lt, Bool, if◌then◌else◌, List, [], ◌∷◌, ◌++◌, length, take, codes, position, Option, Some, None, is_some}
use Rattle.std.specs.List.{slice_get, slice_split}
use Rattle.zr_id.specs.Zid.{zid_of_hex}
use Rattle.zr_access.specs.Text.{is_readable, is_space, is_word, most_line, words}
use Rattle.zr_access.specs.declared.fault.PolicyFault.{PolicyFault}
use Rattle.zr_access.specs.declared.fault.PolicyFault.TheVariants.{BadWords, BadKey, Misplaced, TooLong}
use Rattle.zr_caret.specs.Shown.{caret_line, place_of_word, shown}

-- ---- the line

-- the part of this number, counted from 1; no bytes where there is none
abbrev pub part_at : ℕ → List (List ℕ) → List ℕ
part_at number [] = []
part_at number (part ∷ parts) = if nat_lt 1 number then part_at (number - 1) parts else part

-- the line of this number, without its end
abbrev pub line_at : ℕ → List ℕ → List ℕ
line_at number bytes = part_at number (slice_split (λ b. b == 10) bytes)

-- as much of it as is shown: a byte more than a line may have
abbrev pub shown_line : ℕ → List ℕ → List ℕ
shown_line number bytes = take (most_line + 1) (line_at number bytes)

-- ---- the place

-- `default allow` and `default deny` have one word behind the first
abbrev pub bad_default : List (List ℕ) → ℕ
bad_default [] = 1
bad_default (verb ∷ []) = 1
bad_default (verb ∷ word ∷ more) = 2

-- a word that names a client, or each
abbrev pub is_client : List ℕ → Bool
is_client word = is_word word (codes "*") || is_some (zid_of_hex word)

-- a rule has three words behind the first: a client, an act and a key
abbrev pub bad_rule : List (List ℕ) → ℕ
bad_rule [] = 1
bad_rule (client ∷ []) = 2
bad_rule (client ∷ act ∷ []) = 3
bad_rule (client ∷ act ∷ key ∷ []) = if is_client client then 2 else 1
bad_rule (client ∷ act ∷ key ∷ word ∷ more) = 4

abbrev pub is_verb : List ℕ → Bool
is_verb word = is_word word (codes "allow") || is_word word (codes "deny")

-- the number of the first word that fits no rule, from 0: one that is missing or too much comes before one that has not its form
abbrev pub bad_word : List (List ℕ) → ℕ
bad_word [] = 0
bad_word (first ∷ more) = if is_word first (codes "default") then bad_default more else if is_verb first then bad_rule more else 0

-- where a line begins or else ends with a space
abbrev pub place_of_space : List ℕ → Option ℕ
place_of_space line =
    if is_space (slice_get line 0) then Some 0 else if is_space (slice_get line (length line - 1)) then Some (length line - 1) else None

-- where a line is not clean: at its first control character, or else at such a space
abbrev pub place_of_bytes : Option ℕ → List ℕ → Option ℕ
place_of_bytes (Some place) line = Some place
place_of_bytes None line = place_of_space line

abbrev pub place_of_words : Option ℕ → List ℕ → ℕ
place_of_words (Some place) line = place
place_of_words None line = place_of_word (bad_word (words line)) line

-- the place of the byte or the word that is wrong
abbrev pub place : List ℕ → PolicyFault → ℕ
place line BadWords = place_of_words (place_of_bytes (position (λ b. not (is_readable b)) line) line) line
place line BadKey = place_of_word 3 line
place line Misplaced = 0
place line TooLong = if nat_lt most_line (length line) then most_line else 0

-- ---- what is said

abbrev pub cause : PolicyFault → List ℕ
cause BadWords = codes "a line is allow or deny with a client, an act and a key, or default with allow or deny"
cause BadKey = codes "this is no key expression"
cause Misplaced = codes "nothing may stand behind the default"
cause TooLong = codes "a line has at most 4096 bytes, and there are at most 4096 lines"

-- the line, a caret under what is wrong, and what is said of it
abbrev pub explanation : List ℕ → PolicyFault → List ℕ
explanation line fault = shown line ++ codes "\n" ++ caret_line (place line fault) ++ cause fault ++ codes "\n"
