-- What is said of a refused line: a sentence with the cause.
use Rattle.std.specs.Prelude.{ℕ, ◌||◌, not, nat_eq, nat_lt, Bool, if◌then◌else◌, List, [], ◌∷◌, ◌++◌, length, drop, codes, Option, Some, None, Result, Ok, Err}
use Rattle.std.specs.List.{slice_get}
use Rattle.std.specs.Cmp.Lexicographic.{pointwise}
use Rattle.zr_caret.specs.Shown.{shown}
use Rattle.zr_key.specs.Key.{read_key}
use Rattle.zr_key.specs.declared.key.KeyError.{KeyError}
use Rattle.zr_key.specs.declared.key.KeyError.TheVariants as k
use Rattle.zr_script_spec.specs.declared.error.ScriptError.{ScriptError}
use Rattle.zr_script_spec.specs.declared.error.ScriptError.TheVariants.{UnknownCommand, BadWords, BadKey, UnknownName, NameTaken, NotLinked, AlreadyLinked, NothingThere, NotAsked, NotSettled, NotSamples, NotJoined, Limit, NoMemory}
use Rattle.zr_script_spec.specs.Lines.{most_line}
use Rattle.zr_script_spec.specs.Words.{is_word, is_clean, is_space}
use Rattle.zr_script_explain.specs.Forms.{word_at, declares, undeclares, is_query, is_interest, ends_interest, is_of_client, is_numbered, key_number, form}
use Rattle.zr_script_explain.specs.Places.{has_all, is_first_good, is_name, is_target, is_mode, is_kind, is_query_bad, is_time_bad, is_interest_bad, is_weight_bad, odd_byte}

-- ---- words as they are shown

-- the word of this number, as it is shown
abbrev pub told : ℕ → List (List ℕ) → List ℕ
told number ws = shown (word_at number ws)

-- two words, with texts around them
abbrev pub of_two : List ℕ → ℕ → List ℕ → ℕ → List ℕ → List (List ℕ) → List ℕ
of_two before one between other behind ws = before ++ told one ws ++ between ++ told other ws ++ behind

-- ---- one cause each

abbrev pub command_cause : List (List ℕ) → List ℕ
command_cause [] = codes "the line has spaces alone"
command_cause (name ∷ more) = shown name ++ codes " is no command"

-- a rest of a line that begins with a byte that is not printable
abbrev pub odd_cause : List ℕ → List ℕ
odd_cause rest = if pointwise nat_eq rest (13 ∷ []) then codes "a carriage return at the end of the line" else codes "a byte that is not printable ASCII"

-- a line that begins or else ends with a space
abbrev pub space_cause : List ℕ → List ℕ
space_cause line = if is_space (slice_get line 0) then codes "a space at the start of the line" else codes "a space at the end of the line"

-- by the place of the first byte that is not printable
abbrev pub byte_cause : Option ℕ → List ℕ → List ℕ
byte_cause (Some place) line = odd_cause (drop place line)
byte_cause None line = space_cause line

-- a word that must be a name, and is none
abbrev pub name_cause : ℕ → List (List ℕ) → List ℕ
name_cause number ws = told number ws ++ codes " is no identifier, which is 2 to 32 lower-case hexadecimal digits, an even number of them, not all 0"

-- a word that must be a number, and is none
abbrev pub number_cause : ℕ → List (List ℕ) → List ℕ
number_cause number ws = told number ws ++ codes " is no number, which is decimal digits without leading zeros, at most 4294967295"

-- the first word is no name or, behind `run`, no number
abbrev pub first_cause : List (List ℕ) → List ℕ
first_cause ws = if is_word (word_at 0 ws) (codes "run") then number_cause 1 ws else name_cause 1 ws

-- the second word is no name, or no number, or the router that `link` has named already
abbrev pub second_cause : List (List ℕ) → List ℕ
second_cause ws =
    if is_numbered (word_at 0 ws) then number_cause 2 ws
    else if is_name (word_at 2 ws) then codes "no router is linked to itself"
    else name_cause 2 ws

-- a word of a query behind its number is not as it must be
abbrev pub query_cause : List (List ℕ) → List ℕ
query_cause ws =
    if is_target (word_at 4 ws) then told 5 ws ++ codes " is not latest, which alone may stand behind the target"
    else told 4 ws ++ codes " is no target, which is best, all or complete"

-- a word of an interest behind its number is not as it must be
abbrev pub interest_cause : List (List ℕ) → List ℕ
interest_cause ws =
    if not (is_mode (word_at 3 ws)) then told 3 ws ++ codes " is no mode, which is now, later or both"
    else if not (is_kind (word_at 4 ws)) then told 4 ws ++ codes " is no kind, which is sub, able, token or all"
    else told 6 ws ++ codes " is not aggregate, which alone may stand behind the key"

-- a word that must be a weight, and is none
abbrev pub weight_cause : List (List ℕ) → List ℕ
weight_cause ws = told 3 ws ++ codes " is no weight, which is a number from 1 to 65535"

-- a word behind the first one is wrong
abbrev pub later_cause : List (List ℕ) → List ℕ
later_cause ws =
    if is_query_bad ws then query_cause ws
    else if is_time_bad ws then number_cause 5 ws
    else if is_interest_bad ws then interest_cause ws
    else if is_weight_bad ws then weight_cause ws
    else second_cause ws

-- there are too few words, or too many
abbrev pub form_cause : List ℕ → List ℕ
form_cause name = codes "the form is " ++ form name

abbrev pub words_cause : List (List ℕ) → List ℕ
words_cause ws =
    if not (has_all ws) then form_cause (word_at 0 ws)
    else if is_first_good ws then later_cause ws
    else first_cause ws

-- a rule that a key breaks
abbrev pub fault_cause : KeyError → List ℕ
fault_cause k.Empty = codes "a key without bytes"
fault_cause k.EmptyChunk = codes "empty chunk in a key"
fault_cause k.BadChar = codes "# or ? in a key"
fault_cause k.BadStar = codes "* or $ in a key where none may stand"
fault_cause k.NotUtf8 = codes "a key that is not UTF-8"
fault_cause k.TooLong = codes "a key of more than 2048 bytes"
fault_cause k.NoMemory = []

-- the first rule that a word breaks which is to be a key
abbrev pub key_cause : Result (List ℕ) KeyError → List ℕ
key_cause (Ok key) = []
key_cause (Err fault) = fault_cause fault

-- `client` and `show` name a router, the others one or two names of which one is unknown
abbrev pub unknown_cause : List (List ℕ) → List ℕ
unknown_cause ws =
    if is_word (word_at 0 ws) (codes "client") then codes "no router is named " ++ told 2 ws
    else if is_word (word_at 0 ws) (codes "show") then codes "no router is named " ++ told 1 ws
    else if is_word (word_at 0 ws) (codes "link") then of_two (codes "no router is named ") 1 (codes ", or none is named ") 2 [] ws
    else if undeclares (word_at 0 ws) then of_two (codes "no client is named ") 1 (codes ", or it has not declared id ") 2 [] ws
    else if ends_interest (word_at 0 ws) then of_two (codes "no client is named ") 1 (codes ", or it has no interest ") 2 [] ws
    else if is_of_client (word_at 0 ws) then codes "no client is named " ++ told 1 ws
    else of_two (codes "no router is named ") 1 (codes ", or nobody is named ") 2 [] ws

abbrev pub taken_cause : List (List ℕ) → List ℕ
taken_cause ws =
    if declares (word_at 0 ws) then of_two (codes "id ") 2 (codes " is already declared by ") 1 [] ws
    else if is_interest (word_at 0 ws) then of_two (codes "id ") 2 (codes " is that of an interest of ") 1 [] ws
    else if is_query (word_at 0 ws) then of_two (codes "number ") 2 (codes " is that of a query of ") 1 (codes " whose final was not sent yet") ws
    else codes "a router or a client is already named " ++ told 1 ws

abbrev pub link_cause : List (List ℕ) → List ℕ
link_cause ws =
    if is_of_client (word_at 0 ws) then codes "the link of " ++ told 1 ws ++ codes " is broken"
    else if is_word (word_at 0 ws) (codes "up") || is_word (word_at 0 ws) (codes "break") then of_two [] 1 (codes " has no link to ") 2 (codes ", or it is broken") ws
    else if is_word (word_at 0 ws) (codes "down") then of_two [] 1 (codes " has no broken link to ") 2 (codes " that it holds for up") ws
    else if is_word (word_at 0 ws) (codes "handle") then of_two [] 1 (codes " has no link to ") 2 (codes " that it holds for up") ws
    else of_two [] 1 (codes " has no link to ") 2 (codes " that it holds for up, or it is broken") ws

abbrev pub already_cause : List (List ℕ) → List ℕ
already_cause ws =
    if is_word (word_at 0 ws) (codes "link") then of_two [] 1 (codes " and ") 2 (codes " are already linked") ws
    else of_two [] 1 (codes " holds its link to ") 2 (codes " for up already") ws

abbrev pub nothing_cause : List (List ℕ) → List ℕ
nothing_cause ws =
    if is_word (word_at 0 ws) (codes "handle") then of_two (codes "nothing waits at ") 1 (codes " on the wire from ") 2 [] ws
    else of_two (codes "nothing waits at ") 1 (codes " in the queue for ") 2 [] ws

-- a number that is not that of a request which the client may answer
abbrev pub asked_cause : List (List ℕ) → List ℕ
asked_cause ws = of_two [] 1 (codes " was not sent request ") 2 (codes ", or has ended it") ws

abbrev pub limit_cause : Bool → List ℕ → List ℕ
limit_cause long name =
    if long then codes "a line of more than 4096 bytes"
    else if is_word name (codes "router") then codes "more than 64 routers"
    else if is_word name (codes "client") then codes "more than 1024 clients"
    else if is_word name (codes "link") then codes "more than 512 links between routers"
    else if is_word name (codes "run") then codes "more than 10000000 steps of all runs together"
    else if is_word name (codes "fan") then codes "more than 2000 samples under way, or more than 1048576 bytes of keys and bodies"
    else if is_query name then codes "more than 4096 open queries of a client"
    else codes "declarations and interests of the clients of a router weigh more than 4194304"

-- ---- all

-- the cause why a line of these words is refused
abbrev pub cause : List ℕ → List (List ℕ) → ScriptError → List ℕ
cause line ws UnknownCommand = command_cause ws
cause line ws BadWords = if is_clean line then words_cause ws else byte_cause (odd_byte line) line
cause line ws BadKey = key_cause (read_key (word_at (key_number (word_at 0 ws)) ws))
cause line ws UnknownName = unknown_cause ws
cause line ws NameTaken = taken_cause ws
cause line ws NotLinked = link_cause ws
cause line ws AlreadyLinked = already_cause ws
cause line ws NothingThere = nothing_cause ws
cause line ws NotAsked = asked_cause ws
cause line ws NotSettled = codes "the network is not settled"
cause line ws NotSamples = codes "not only samples are under way"
cause line ws NotJoined = codes "the routers are not joined"
cause line ws Limit = limit_cause (nat_lt most_line (length line)) (word_at 0 ws)
cause line ws NoMemory = []
