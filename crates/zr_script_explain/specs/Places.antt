-- Where a refused line is wrong: at which word, or at which byte.
use Rattle.std.specs.Prelude.{ℕ, ◌+◌, ◌-◌, ◌^◌, ◌&&◌, ◌||◌, not, nat_lt, nat_le, Bool, if◌then◌else◌, List, length, codes, position, Option, Some, None, is_some}
use Rattle.std.specs.List.{slice_get}
use Rattle.zr_caret.specs.Shown.{place_of_word}
use Rattle.zr_id.specs.Zid.{zid_of_hex}
use Rattle.zr_script_spec.specs.declared.error.ScriptError.{ScriptError}
use Rattle.zr_script_spec.specs.declared.error.ScriptError.TheVariants.{UnknownCommand, BadWords, BadKey, UnknownName, NameTaken, NotLinked, AlreadyLinked, NothingThere, NotAsked, NotSettled, NotSamples, NotJoined, Limit, NoMemory}
use Rattle.zr_script_spec.specs.Lines.{most_line}
use Rattle.zr_script_spec.specs.Words.{is_word, is_clean, is_printable, is_space, is_number, value_of}
use Rattle.zr_script_explain.specs.Forms.{word_at, gives_number, is_query, is_reply, is_interest, links, is_of_client, key_number, words_behind, most_behind}

-- ---- words that have not their form

-- a word that names a router or a client
abbrev pub is_name : List ℕ → Bool
is_name word = is_some (zid_of_hex word)

-- a word that is a number of 32 bits
abbrev pub is_count : List ℕ → Bool
is_count word = is_number word && nat_lt (value_of word) (2 ^ 32)

-- a word that is a target
abbrev pub is_target : List ℕ → Bool
is_target word = is_word word (codes "best") || is_word word (codes "all") || is_word word (codes "complete")

-- a word that tells of which declarations an interest is to be told, and one that tells of which kinds
abbrev pub is_mode : List ℕ → Bool
is_mode word = is_word word (codes "now") || is_word word (codes "later") || is_word word (codes "both")

abbrev pub is_kind : List ℕ → Bool
is_kind word = is_word word (codes "sub") || is_word word (codes "able") || is_word word (codes "token") || is_word word (codes "all")

-- a word that is a weight
abbrev pub is_weight : List ℕ → Bool
is_weight word = is_number word && nat_lt 0 (value_of word) && nat_lt (value_of word) (2 ^ 16)

-- a line has as many words as its command takes
abbrev pub has_all : List (List ℕ) → Bool
has_all ws = nat_le (words_behind (word_at 0 ws) + 1) (length ws) && nat_le (length ws) (most_behind (word_at 0 ws) + 1)

-- the first word behind the command's name is as it must be
abbrev pub is_first_good : List (List ℕ) → Bool
is_first_good ws = if is_word (word_at 0 ws) (codes "run") then is_count (word_at 1 ws) else is_name (word_at 1 ws)

-- where client and number of `get` are as they must be, its target is not, or what stands behind it
abbrev pub is_query_bad : List (List ℕ) → Bool
is_query_bad ws = is_query (word_at 0 ws) && is_count (word_at 2 ws)

-- where client and number of `reply` are as they must be, its time is not
abbrev pub is_time_bad : List (List ℕ) → Bool
is_time_bad ws = is_reply (word_at 0 ws) && is_count (word_at 2 ws)

-- where client and number of `interest` are as they must be, a word behind them is not
abbrev pub is_interest_bad : List (List ℕ) → Bool
is_interest_bad ws = is_interest (word_at 0 ws) && is_count (word_at 2 ws)

-- where both routers of `link` are as they must be, a weight stands behind them that is none
abbrev pub is_weight_bad : List (List ℕ) → Bool
is_weight_bad ws = links (word_at 0 ws) && is_name (word_at 2 ws) && nat_lt 3 (length ws) && not (is_weight (word_at 3 ws))

-- the target, or what stands behind it
abbrev pub query_word : List (List ℕ) → ℕ
query_word ws = if is_target (word_at 4 ws) then 5 else 4

-- the mode, or the kinds, or what stands behind the key
abbrev pub interest_word : List (List ℕ) → ℕ
interest_word ws = if not (is_mode (word_at 3 ws)) then 3 else if not (is_kind (word_at 4 ws)) then 4 else 6

-- the word that is wrong where the first one is good
abbrev pub later_word : List (List ℕ) → ℕ
later_word ws =
    if is_query_bad ws then query_word ws
    else if is_time_bad ws then 5
    else if is_interest_bad ws then interest_word ws
    else if is_weight_bad ws then 3
    else 2

-- the first word that is not what its command takes there: one that is missing or too much comes before one that has not its form
abbrev pub bad_word : List (List ℕ) → ℕ
bad_word ws = if not (has_all ws) then most_behind (word_at 0 ws) + 1 else if is_first_good ws then later_word ws else 1

-- ---- the number of the word that is wrong, by the command's name

-- `client ID ROUTER` names a router that is not there; any other command that names somebody does so first
abbrev pub unknown_word : List ℕ → ℕ
unknown_word name = if is_word name (codes "client") then 2 else 1

-- a number that is not free stands behind the client
abbrev pub taken_word : List ℕ → ℕ
taken_word name = if gives_number name then 2 else 1

-- a client has one link; of a router's links the neighbour tells which
abbrev pub linked_word : List ℕ → ℕ
linked_word name = if is_of_client name then 1 else 2

-- ---- places

-- the place of the first byte that is not printable
abbrev pub odd_byte : List ℕ → Option ℕ
odd_byte line = position (λ b. not (is_printable b)) line

-- where a line begins or else ends with a space
abbrev pub place_of_space : List ℕ → ℕ
place_of_space line = if is_space (slice_get line 0) then 0 else length line - 1

-- where a line is not clean: at its first byte that is not printable, or else at a space with which it begins or ends
abbrev pub place_of_byte : Option ℕ → List ℕ → ℕ
place_of_byte (Some place) line = place
place_of_byte None line = place_of_space line

-- a line that is too long is wrong at the first byte too many
abbrev pub place_of_limit : List ℕ → List ℕ → ℕ
place_of_limit line name =
    if nat_lt most_line (length line) then most_line else place_of_word (if is_word name (codes "run") then 1 else 0) line

-- the place of the word that is wrong, or of the byte where a byte is wrong, in a line of these words
abbrev pub place : List ℕ → List (List ℕ) → ScriptError → ℕ
place line ws UnknownCommand = place_of_word 0 line
place line ws BadWords = if is_clean line then place_of_word (bad_word ws) line else place_of_byte (odd_byte line) line
place line ws BadKey = place_of_word (key_number (word_at 0 ws)) line
place line ws UnknownName = place_of_word (unknown_word (word_at 0 ws)) line
place line ws NameTaken = place_of_word (taken_word (word_at 0 ws)) line
place line ws NotLinked = place_of_word (linked_word (word_at 0 ws)) line
place line ws AlreadyLinked = place_of_word 2 line
place line ws NothingThere = place_of_word 2 line
place line ws NotAsked = place_of_word 2 line
place line ws NotSettled = place_of_word 0 line
place line ws NotSamples = place_of_word 0 line
place line ws NotJoined = place_of_word 0 line
place line ws Limit = place_of_limit line (word_at 0 ws)
place line ws NoMemory = 0
