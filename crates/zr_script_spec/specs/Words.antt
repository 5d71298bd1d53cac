-- The words of a line, and what a word may be: a name, a number, a target, a mode, kinds, a key expression or a payload.
use Rattle.std.specs.Prelude.{ℕ, ◌+◌, ◌-◌, ◌*◌, ◌^◌, ◌==◌, ◌&&◌, not, nat_eq, nat_lt, nat_le, Bool, false, if◌then◌else◌, true, List, [], ◌∷◌, length, filter, codes, Option, Some, None, Result, Ok, Err, bit_or}
use Rattle.std.specs.List.{fold, list_all, slice_split, slice_get}
use Rattle.std.specs.Cmp.Lexicographic.{pointwise}
use Rattle.zr_id.specs.Zid.{zid_of_hex}
use Rattle.zr_key.specs.Key.{read_key}
use Rattle.zr_key.specs.declared.key.KeyError.{KeyError}
use Rattle.zr_msg.specs.declared.msg.Kinds.{Kinds}
use Rattle.zr_msg.specs.declared.msg.TheConstants.{SUBSCRIBERS, QUERYABLES, TOKENS}
use Rattle.zr_msg.specs.declared.msg.Target.{Target}
use Rattle.zr_msg.specs.declared.msg.Target.TheVariants.{Best, All, Complete}
use Rattle.zr_script_spec.specs.declared.command.Mode.{Mode}
use Rattle.zr_script_spec.specs.declared.command.Mode.TheVariants.{Now, Later, Both}
use Rattle.zr_script_spec.specs.declared.error.ScriptError.{ScriptError}
use Rattle.zr_script_spec.specs.declared.error.ScriptError.TheVariants.{BadWords, BadKey}
use Rattle.zr_script_spec.specs.Step.{◌>>=◌}

-- ---- words

-- the words of a line, parted by one or more spaces
abbrev pub words : List ℕ → List (List ℕ)
words line = filter (λ word. nat_lt 0 (length word)) (slice_split (λ b. b == 32) line)

-- whether two words are one
abbrev pub is_word : List ℕ → List ℕ → Bool
is_word a b = pointwise nat_eq a b

-- a byte that a line may have
abbrev pub is_printable : ℕ → Bool
is_printable b = nat_le 32 b && nat_le b 126

-- a space, if there is a byte at all
abbrev pub is_space : Option ℕ → Bool
is_space None = false
is_space (Some b) = b == 32

-- whether a line has printable bytes alone, and neither begins nor ends with a space
abbrev pub is_clean : List ℕ → Bool
is_clean line = list_all is_printable line && not (is_space (slice_get line 0)) && not (is_space (slice_get line (length line - 1)))

-- ---- how many words

abbrev pub one_of : List (List ℕ) → Result (List ℕ) ScriptError
one_of [] = Err BadWords
one_of (a ∷ []) = Ok a
one_of (a ∷ b ∷ more) = Err BadWords

abbrev pub two_of : List (List ℕ) → Result (List ℕ × List ℕ) ScriptError
two_of [] = Err BadWords
two_of (a ∷ []) = Err BadWords
two_of (a ∷ b ∷ []) = Ok (a, b)
two_of (a ∷ b ∷ c ∷ more) = Err BadWords

-- two words, and those behind them
abbrev pub some_two_of : List (List ℕ) → Result (List ℕ × List ℕ × List (List ℕ)) ScriptError
some_two_of [] = Err BadWords
some_two_of (a ∷ []) = Err BadWords
some_two_of (a ∷ b ∷ more) = Ok (a, b, more)

abbrev pub three_of : List (List ℕ) → Result (List ℕ × List ℕ × List ℕ) ScriptError
three_of [] = Err BadWords
three_of (a ∷ []) = Err BadWords
three_of (a ∷ b ∷ []) = Err BadWords
three_of (a ∷ b ∷ c ∷ []) = Ok (a, b, c)
three_of (a ∷ b ∷ c ∷ d ∷ more) = Err BadWords

-- four words, and those behind them
abbrev pub four_of : List (List ℕ) → Result (List ℕ × List ℕ × List ℕ × List ℕ × List (List ℕ)) ScriptError
four_of [] = Err BadWords
four_of (a ∷ []) = Err BadWords
four_of (a ∷ b ∷ []) = Err BadWords
four_of (a ∷ b ∷ c ∷ []) = Err BadWords
four_of (a ∷ b ∷ c ∷ d ∷ more) = Ok (a, b, c, d, more)

-- five words, and those behind them
abbrev pub five_of : List (List ℕ) → Result (List ℕ × List ℕ × List ℕ × List ℕ × List ℕ × List (List ℕ)) ScriptError
five_of [] = Err BadWords
five_of (a ∷ []) = Err BadWords
five_of (a ∷ b ∷ []) = Err BadWords
five_of (a ∷ b ∷ c ∷ []) = Err BadWords
five_of (a ∷ b ∷ c ∷ d ∷ []) = Err BadWords
five_of (a ∷ b ∷ c ∷ d ∷ e ∷ more) = Ok (a, b, c, d, e, more)

-- ---- words that may be left out

-- whether a word stands behind the others: there is one, this one, or there is none
abbrev pub is_there : List ℕ → List (List ℕ) → Result Bool ScriptError
is_there word [] = Ok false
is_there word (w ∷ []) = if is_word w word then Ok true else Err BadWords
is_there word (a ∷ b ∷ more) = Err BadWords

-- ---- names

-- the identifier that a word names
abbrev pub zid_of_word : Option (List ℕ) → Result (List ℕ) ScriptError
zid_of_word (Some id) = Ok id
zid_of_word None = Err BadWords

-- 2 to 32 lower-case hexadecimal digits, an even number, of an identifier
abbrev pub zid_at : List ℕ → Result (List ℕ) ScriptError
zid_at word = zid_of_word (zid_of_hex word)

-- ---- numbers

-- a decimal digit
abbrev pub is_digit : ℕ → Bool
is_digit b = nat_le 48 b && nat_le b 57

-- whether a word is decimal digits without leading zeros
abbrev pub is_number : List ℕ → Bool
is_number [] = false
is_number (b ∷ []) = is_digit b
is_number (b ∷ c ∷ more) = not (b == 48) && list_all is_digit (b ∷ c ∷ more)

-- the value of some digits
abbrev pub value_of : List ℕ → ℕ
value_of digits = fold (λ n b. n * 10 + (b - 48)) 0 digits

-- a number of at most 32 bits
abbrev pub number_at : List ℕ → Result ℕ ScriptError
number_at word = if is_number word && nat_lt (value_of word) (2 ^ 32) then Ok (value_of word) else Err BadWords

-- the time that the words behind a reply's payload spell: there is one word, a number, or there is none
abbrev pub time_at : List (List ℕ) → Result (Option ℕ) ScriptError
time_at [] = Ok None
time_at (word ∷ []) = number_at word >>= (λ time. Ok (Some time))
time_at (a ∷ b ∷ more) = Err BadWords

-- a weight: a number from 1 to 65,535
abbrev pub weight_at : List ℕ → Result ℕ ScriptError
weight_at word =
    if is_number word && nat_lt 0 (value_of word) && nat_lt (value_of word) (2 ^ 16) then Ok (value_of word) else Err BadWords

-- the weight that the words behind a link's names spell: there is one word, or there is none and the weight is 1
abbrev pub link_weight_at : List (List ℕ) → Result ℕ ScriptError
link_weight_at [] = Ok 1
link_weight_at (word ∷ []) = weight_at word
link_weight_at (a ∷ b ∷ more) = Err BadWords

-- ---- targets

-- which queryables a word asks
abbrev pub target_at : List ℕ → Result Target ScriptError
target_at word =
    if is_word word (codes "best") then Ok Best
    else if is_word word (codes "all") then Ok All
    else if is_word word (codes "complete") then Ok Complete
    else Err BadWords

-- whether the words behind a query's target ask for the latest replies alone
abbrev pub latest_at : List (List ℕ) → Result Bool ScriptError
latest_at behind = is_there (codes "latest") behind

-- ---- interests

-- of which declarations a word asks to be told
abbrev pub mode_at : List ℕ → Result Mode ScriptError
mode_at word =
    if is_word word (codes "now") then Ok Now
    else if is_word word (codes "later") then Ok Later
    else if is_word word (codes "both") then Ok Both
    else Err BadWords

-- of which kinds: of subscribers, of queryables, of both together (`all`), or of liveliness tokens
abbrev pub kinds_at : List ℕ → Result Kinds ScriptError
kinds_at word =
    if is_word word (codes "sub") then Ok (record { 0 = SUBSCRIBERS })
    else if is_word word (codes "able") then Ok (record { 0 = QUERYABLES })
    else if is_word word (codes "all") then Ok (record { 0 = bit_or SUBSCRIBERS QUERYABLES })
    else if is_word word (codes "token") then Ok (record { 0 = TOKENS })
    else Err BadWords

-- whether the words behind the key ask that all is told as one
abbrev pub aggregate_at : List (List ℕ) → Result Bool ScriptError
aggregate_at behind = is_there (codes "aggregate") behind

-- ---- keys and payloads

-- the key expression that a word was read as
abbrev pub key_of_word : Result (List ℕ) KeyError → Result (List ℕ) ScriptError
key_of_word (Ok key) = Ok key
key_of_word (Err e) = Err BadKey

-- a key expression, in its canonical form
abbrev pub key_at : List ℕ → Result (List ℕ) ScriptError
key_at word = key_of_word (read_key word)

-- the key expression of an interest, which may have none: `-` is none
abbrev pub optional_key_at : List ℕ → Result (Option (List ℕ)) ScriptError
optional_key_at word = if is_word word (codes "-") then Ok None else key_at word >>= (λ key. Ok (Some key))

-- the payload that a word spells: `-` is the empty one
abbrev pub payload_at : List ℕ → List ℕ
payload_at word = if is_word word (codes "-") then [] else word
