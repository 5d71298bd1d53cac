-- That the caret stands under the word which makes a line wrong.
use Rattle.std.specs.Prelude.{◌≡◌, ℕ, ◌+◌, ◌<◌, ◌⊎◌, true, List, ◌++◌, length, take, Some, Err, is_ok}
use Rattle.std.specs.List.{slice_get}
use Rattle.zr_access.specs.Text.{by_words, is_clean, key_at, words}
use Rattle.zr_access.specs.declared.fault.PolicyFault.{PolicyFault}
use Rattle.zr_access.specs.declared.fault.PolicyFault.TheVariants.{BadWords, BadKey}
use Rattle.zr_caret.specs.Shown.{place_of_word}
use Rattle.zr_rules.specs.Explained.{place}

-- ---- right lines

-- these words are a rule or the default
abbrev pub AreRight : List (List ℕ) → Type 0
AreRight ws = (number : ℕ) × (is_ok (by_words number ws) ≡ true)

-- a right line begins with these words
abbrev pub BeginOne : List (List ℕ) → Type 0
BeginOne ws = (more : List (List ℕ)) × AreRight (ws ++ more)

-- each line that begins with these words fits no form
abbrev pub BeginNone : List (List ℕ) → Type 0
BeginNone ws = (number : ℕ) (more : List (List ℕ)) → by_words number (ws ++ more) ≡ Err BadWords

-- a right line that begins with the same word has so many words
abbrev pub OneHas : List (List ℕ) → ℕ → Type 0
OneHas ws count = (more : List (List ℕ)) × (length (take 1 ws ++ more) ≡ count) × AreRight (take 1 ws ++ more)

-- each line of so many words that begins with the same word fits no form
abbrev pub NoneHas : List (List ℕ) → ℕ → Type 0
NoneHas ws count = (number : ℕ) (more : List (List ℕ)) → length (take 1 ws ++ more) ≡ count → by_words number (take 1 ws ++ more) ≡ Err BadWords

-- ---- the caret

-- The word is missing: the line ends before it, no right line that begins with the same word ends there, and one has more words
abbrev pub IsMissing : List (List ℕ) → ℕ → Type 0
IsMissing ws at = (length ws ≡ at) × NoneHas ws at × (count : ℕ) × (at < count) × OneHas ws count

-- The word is there, and no right line begins with the words up to it. It is the first such: a right line begins with the words before it. Or it is the first
-- that is too much: a right line that begins with the same word ends before it
abbrev pub IsWrong : List (List ℕ) → ℕ → Type 0
IsWrong ws at = (at < length ws) × BeginNone (take (at + 1) ws) × (BeginOne (take at ws) ⊎ OneHas ws at)

-- the caret of a line of these words, which is clean, is under the word of this number, counted from 0
abbrev pub IsCaretUnder : List (List ℕ) → PolicyFault → ℕ → Type 0
IsCaretUnder ws fault at = (line : List ℕ) → is_clean line ≡ true → words line ≡ ws → place line fault ≡ place_of_word at line

-- where the words of a line fit no form the caret is under the first that is missing or wrong
abbrev pub CaretsAreUnderWrongWords : Type 0
CaretsAreUnderWrongWords = (number : ℕ) (ws : List (List ℕ)) → by_words number ws ≡ Err BadWords → (at : ℕ) × IsCaretUnder ws BadWords at × (IsMissing ws at ⊎ IsWrong ws at)

-- where a line has no key the caret is under a word that is no expression
abbrev pub CaretsAreUnderWrongKeys : Type 0
CaretsAreUnderWrongKeys = (number : ℕ) (ws : List (List ℕ)) → by_words number ws ≡ Err BadKey
    → (at : ℕ) × IsCaretUnder ws BadKey at × (key : List ℕ) × (slice_get ws at ≡ Some key) × (key_at key ≡ Err BadKey)
