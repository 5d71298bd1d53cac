-- That the caret of a line which is refused whatever the network is stands under what makes the line wrong.
use Rattle.std.specs.Prelude.{◌≡◌, ℕ, ◌+◌, ◌<◌, ◌≤◌, ◌⊎◌, Bool, true, false, List, ◌++◌, length, take, drop, Some, Err, is_ok}
use Rattle.std.specs.List.{slice_get}
use Rattle.zr_caret.specs.Shown.{place_of_word}
use Rattle.zr_script_spec.specs.declared.error.ScriptError.{ScriptError}
use Rattle.zr_script_spec.specs.declared.error.ScriptError.TheVariants.{UnknownCommand, BadWords, BadKey, Limit}
use Rattle.zr_script_spec.specs.Command.{by_words}
use Rattle.zr_script_spec.specs.Lines.{most_line}
use Rattle.zr_script_spec.specs.Words.{is_clean, is_printable, is_space, key_at, words}
use Rattle.zr_script_explain.specs.Places.{place}

-- ---- what makes a line wrong

-- The word of this number, counted from 0, is at fault by itself: each line of the same command that has the same word there is refused so, whatever its
-- other words are. Where a line has no such word, each line of its command that has none there either is refused so
abbrev pub IsAtFault : Bool → List (List ℕ) → ScriptError → ℕ → Type 0
IsAtFault clean ws error at = (other : List (List ℕ)) → slice_get other 0 ≡ slice_get ws 0 → slice_get other at ≡ slice_get ws at → by_words clean other ≡ Err error

-- The word is at fault behind those before it: each line that begins with the words up to it is refused so, and one that begins with those before it is right
abbrev pub IsAtFaultBehind : List (List ℕ) → ScriptError → ℕ → Type 0
IsAtFaultBehind ws error at =
    ((more : List (List ℕ)) → by_words true (take (at + 1) ws ++ more) ≡ Err error) × (more : List (List ℕ)) × (is_ok (by_words true (take at ws ++ more)) ≡ true)

-- the byte at this place makes a line wrong: it is not printable, or is a space with which the line begins or ends
abbrev pub IsWrongByte : List ℕ → ℕ → Type 0
IsWrongByte line at =
    (b : ℕ) × (slice_get line at ≡ Some b) × ((is_printable b ≡ false) ⊎ ((is_space (Some b) ≡ true) × ((at ≡ 0) ⊎ (at + 1 ≡ length line))))

-- ---- where the caret is

-- under the word of this number in each line of these words whose bytes are right; behind the line where it has no such word
abbrev pub IsCaretUnder : List (List ℕ) → ScriptError → ℕ → Type 0
IsCaretUnder ws error at = (line : List ℕ) → is_clean line ≡ true → words line ≡ ws → place line (words line) error ≡ place_of_word at line

pub record CaretsAreUnderFaults : Type 0 where
  -- the place of a number has the word of that number, or is behind the line where there is none
  pub there : (line : List ℕ) (number : ℕ) (word : List ℕ) → slice_get (words line) number ≡ Some word → take (length word) (drop (place_of_word number line) line) ≡ word
  pub none : (line : List ℕ) (number : ℕ) → length (words line) ≤ number → place_of_word number line ≡ length line
  -- under a first word that is no command
  pub commands : (clean : Bool) (line : List ℕ) → by_words clean (words line) ≡ Err UnknownCommand
      → (place line (words line) UnknownCommand ≡ place_of_word 0 line) × IsAtFault clean (words line) UnknownCommand 0
  -- under a word that doesn't fit the command
  pub misfits : (ws : List (List ℕ)) → by_words true ws ≡ Err BadWords
      → (at : ℕ) × IsCaretUnder ws BadWords at × (IsAtFault true ws BadWords at ⊎ IsAtFaultBehind ws BadWords at)
  -- under a word that is to be a key expression and is none
  pub keys : (ws : List (List ℕ)) → by_words true ws ≡ Err BadKey
      → (at : ℕ) × IsCaretUnder ws BadKey at × (key : List ℕ) × (slice_get ws at ≡ Some key) × (key_at key ≡ Err BadKey)
  -- under a byte that no line may have there
  pub bytes : (line : List ℕ) → is_clean line ≡ false → IsWrongByte line (place line (words line) BadWords)
  -- of a line that is too long, under the first byte that is too much
  pub long : (line : List ℕ) → most_line < length line → place line (words line) Limit ≡ most_line
