-- What words a command takes.
use Rattle.std.specs.Prelude.{ℕ, ◌==◌, ◌||◌, ◌-◌, Bool, if◌then◌else◌, List, [], ◌∷◌, codes}
use Rattle.zr_script_spec.specs.Words.{is_word}

-- the word of this number, the command's name being number 0; no bytes where there is none
abbrev pub word_at : ℕ → List (List ℕ) → List ℕ
word_at number [] = []
word_at number (word ∷ more) = if number == 0 then word else word_at (number - 1) more

-- a command that declares: `CLIENT N KEY` stands behind it
abbrev pub declares : List ℕ → Bool
declares name = is_word name (codes "sub") || is_word name (codes "able") || is_word name (codes "full") || is_word name (codes "token")

-- a command that takes a declaration back: `CLIENT N` stands behind it
abbrev pub undeclares : List ℕ → Bool
undeclares name = is_word name (codes "unsub") || is_word name (codes "unable") || is_word name (codes "untoken")

-- a command that publishes: `CLIENT KEY` stands behind it
abbrev pub publishes : List ℕ → Bool
publishes name = is_word name (codes "put") || is_word name (codes "del")

-- the command of a query: `CLIENT N KEY TARGET` stands behind it, and maybe one word more; and that of a reply: `CLIENT N KEY PAYLOAD`, and maybe
-- a time
abbrev pub is_query : List ℕ → Bool
is_query name = is_word name (codes "get")

abbrev pub is_reply : List ℕ → Bool
is_reply name = is_word name (codes "reply")

-- a command that asks or answers a query: `CLIENT N` stands behind it, and behind that what it asks or answers
abbrev pub is_of_query : List ℕ → Bool
is_of_query name = is_query name || is_reply name || is_word name (codes "end")

-- the command of an interest: `CLIENT N MODE KIND KEY` stands behind it, and maybe one word more; and the one that ends it: `CLIENT N`
abbrev pub is_interest : List ℕ → Bool
is_interest name = is_word name (codes "interest")

abbrev pub ends_interest : List ℕ → Bool
ends_interest name = is_word name (codes "uninterest")

-- the command that links two routers: `A B` stands behind it, and maybe a weight
abbrev pub links : List ℕ → Bool
links name = is_word name (codes "link")

-- a command whose second word behind the name is a number
abbrev pub is_numbered : List ℕ → Bool
is_numbered name = declares name || undeclares name || is_interest name || ends_interest name || is_of_query name

-- a command whose first word behind the name is the client that acts
abbrev pub is_of_client : List ℕ → Bool
is_of_client name = publishes name || is_numbered name

-- a command that gives something of a client a number that must be free: a declaration, an interest or a query
abbrev pub gives_number : List ℕ → Bool
gives_number name = declares name || is_interest name || is_query name

-- the number of the word that is the key, where a command takes one
abbrev pub key_number : List ℕ → ℕ
key_number name = if is_interest name then 5 else if declares name || is_of_query name then 3 else 2

-- a command that takes one word
abbrev pub is_single : List ℕ → Bool
is_single name = is_word name (codes "router") || is_word name (codes "run") || is_word name (codes "show")

-- how many words a command takes behind its name, at least
abbrev pub words_behind : List ℕ → ℕ
words_behind name =
    if is_word name (codes "mark") || is_word name (codes "fan") then 0
    else if is_single name then 1
    else if declares name || is_word name (codes "put") then 3
    else if is_query name || is_reply name then 4
    else if is_interest name then 5
    else 2

-- and at most
abbrev pub most_behind : List ℕ → ℕ
most_behind name =
    if is_interest name then 6
    else if is_query name || is_reply name then 5
    else if links name then 3
    else words_behind name

-- which words a command takes that sends messages or lets them move on, or that stands behind these
unfoldable pub last_form : List ℕ → List ℕ
last_form name =
    if is_word name (codes "put") then codes "put CLIENT KEY PAYLOAD"
    else if is_word name (codes "del") then codes "del CLIENT KEY"
    else if is_word name (codes "get") then codes "get CLIENT N KEY TARGET [latest]"
    else if is_word name (codes "reply") then codes "reply CLIENT N KEY PAYLOAD [TIME]"
    else if is_word name (codes "end") then codes "end CLIENT N"
    else if is_word name (codes "handle") then codes "handle ROUTER FROM"
    else if is_word name (codes "take") then codes "take ROUTER TO"
    else if is_word name (codes "run") then codes "run N"
    else if is_word name (codes "fan") then codes "fan"
    else if is_word name (codes "show") then codes "show ROUTER"
    else codes "mark"

-- which words one takes by which clients declare, or one that stands behind these
unfoldable pub later_form : List ℕ → List ℕ
later_form name =
    if is_word name (codes "sub") then codes "sub CLIENT N KEY"
    else if is_word name (codes "unsub") then codes "unsub CLIENT N"
    else if is_word name (codes "able") then codes "able CLIENT N KEY"
    else if is_word name (codes "full") then codes "full CLIENT N KEY"
    else if is_word name (codes "unable") then codes "unable CLIENT N"
    else if is_word name (codes "token") then codes "token CLIENT N KEY"
    else if is_word name (codes "untoken") then codes "untoken CLIENT N"
    else if is_word name (codes "interest") then codes "interest CLIENT N MODE KIND KEY [aggregate]"
    else if is_word name (codes "uninterest") then codes "uninterest CLIENT N"
    else last_form name

-- which words a command takes
unfoldable pub form : List ℕ → List ℕ
form name =
    if is_word name (codes "router") then codes "router ID"
    else if is_word name (codes "client") then codes "client ID ROUTER"
    else if is_word name (codes "link") then codes "link A B [W]"
    else if is_word name (codes "up") then codes "up A B"
    else if is_word name (codes "break") then codes "break A B"
    else if is_word name (codes "down") then codes "down A B"
    else later_form name
