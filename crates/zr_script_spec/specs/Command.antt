-- What a line of a script asks, or why it is refused. An empty line and a comment ask nothing.
--
-- The order of refusals. A line is refused by the first of these that applies, whatever the order of its words; the first four are judged
-- here, by the line alone, and the others by the world (`zr_world_spec`, Acts and Next), in this order too.
--
--   Limit           the line is longer than `most_line` bytes
--   UnknownCommand  the first word is no command
--   BadWords        the words or the bytes don't fit the form of the command
--   BadKey          a word that is to be a key expression is none
--   UnknownName     a router or a client isn't there; an id to undeclare isn't declared, or no interest under an id to end
--   NameTaken       the name is taken; the id is declared; the number is that of a query whose final was not sent yet
--   NotLinked       there is no such link, or it or its end isn't as the command needs it
--   AlreadyLinked   the link is in place, or its end is up
--   NothingThere    nothing waits there
--   NotAsked        the client was not sent that request, or has ended it
--   NotSettled      the network is not settled
--   NotSamples      not only samples are under way
--   NotJoined       not each router is reached from each other
--   Limit           a limit of the world would be passed
--
-- Out of memory, `NoMemory`, is no refusal: no definition says it.
use Rattle.std.specs.Prelude.{◌≡◌, ℕ, ◌==◌, ◌||◌, not, nat_lt, Bool, true, false, if◌then◌else◌, List, [], ◌∷◌, ◌++◌, length, codes, Option, Some, None, Result, Ok, Err}
use Rattle.zr_id.specs.Zid.{is_named}
use Rattle.zr_bytes.specs.Number.{writes}
use Rattle.zr_bytes.specs.Text.{writes_text}
use Rattle.zr_body.specs.Payload.{put_body, del_body}
use Rattle.zr_msg.specs.declared.content.Parts.{Parts}
use Rattle.zr_msg.specs.Extras.{no_extras}
use Rattle.zr_script_spec.specs.declared.error.ScriptError.{ScriptError}
use Rattle.zr_script_spec.specs.declared.error.ScriptError.TheVariants.{UnknownCommand, BadWords, Limit}
use Rattle.zr_script_spec.specs.declared.command.Act as act
use Rattle.zr_script_spec.specs.declared.command.Act.TheVariants.{Router, Client, Link, Up, Break, Down, Show, Sub, Unsub, Token, Untoken, Able, Unable, Interest, Uninterest, Publish, Get, Reply, End, Handle, Take, Mark}
use Rattle.zr_script_spec.specs.declared.command.Command.{Command}
use Rattle.zr_script_spec.specs.declared.command.Command.TheVariants.{Act, Run, Fan}
use Rattle.zr_script_spec.specs.Step.{◌>>=◌}
use Rattle.zr_script_spec.specs.Lines.{most_line}
use Rattle.zr_script_spec.specs.Words.{words, is_word, is_clean, one_of, two_of, some_two_of, three_of, four_of, five_of, zid_at, number_at, time_at, link_weight_at, target_at, latest_at, mode_at, kinds_at, aggregate_at, key_at, optional_key_at, payload_at}

-- ---- one command each, by the words behind its name

-- router ID
unfoldable pub router_line : List (List ℕ) → Result Command ScriptError
router_line args = do
  w ← one_of args
  id ← zid_at w
  Ok (Act (Router id))

-- client ID ROUTER
unfoldable pub client_line : List (List ℕ) → Result Command ScriptError
client_line args = do
  w ← two_of args
  id ← zid_at w.0
  router ← zid_at w.1
  Ok (Act (Client id router))

-- link ONE OTHER, or with the weight behind the names: two routers, which differ
unfoldable pub link_line : List (List ℕ) → Result Command ScriptError
link_line args = do
  w ← some_two_of args
  one ← zid_at w.0
  other ← zid_at w.1
  weight ← link_weight_at w.2
  if is_named one other then Err BadWords else Ok (Act (Link one other weight))

-- up ROUTER NEIGHBOUR
unfoldable pub up_line : List (List ℕ) → Result Command ScriptError
up_line args = do
  w ← two_of args
  router ← zid_at w.0
  neighbour ← zid_at w.1
  Ok (Act (Up router neighbour))

-- break ROUTER NEIGHBOUR
unfoldable pub break_line : List (List ℕ) → Result Command ScriptError
break_line args = do
  w ← two_of args
  router ← zid_at w.0
  neighbour ← zid_at w.1
  Ok (Act (Break router neighbour))

-- down ROUTER NEIGHBOUR
unfoldable pub down_line : List (List ℕ) → Result Command ScriptError
down_line args = do
  w ← two_of args
  router ← zid_at w.0
  neighbour ← zid_at w.1
  Ok (Act (Down router neighbour))

-- sub CLIENT N KEY
unfoldable pub sub_line : List (List ℕ) → Result Command ScriptError
sub_line args = do
  w ← three_of args
  client ← zid_at w.0
  id ← number_at w.1
  key ← key_at w.2
  Ok (Act (Sub client id key))

-- unsub CLIENT N
unfoldable pub unsub_line : List (List ℕ) → Result Command ScriptError
unsub_line args = do
  w ← two_of args
  client ← zid_at w.0
  id ← number_at w.1
  Ok (Act (Unsub client id))

-- token CLIENT N KEY
unfoldable pub token_line : List (List ℕ) → Result Command ScriptError
token_line args = do
  w ← three_of args
  client ← zid_at w.0
  id ← number_at w.1
  key ← key_at w.2
  Ok (Act (Token client id key))

-- untoken CLIENT N
unfoldable pub untoken_line : List (List ℕ) → Result Command ScriptError
untoken_line args = do
  w ← two_of args
  client ← zid_at w.0
  id ← number_at w.1
  Ok (Act (Untoken client id))

-- able CLIENT N KEY, or full CLIENT N KEY of a complete queryable
unfoldable pub able_line : Bool → List (List ℕ) → Result Command ScriptError
able_line complete args = do
  w ← three_of args
  client ← zid_at w.0
  id ← number_at w.1
  key ← key_at w.2
  Ok (Act (Able client id key complete))

-- unable CLIENT N
unfoldable pub unable_line : List (List ℕ) → Result Command ScriptError
unable_line args = do
  w ← two_of args
  client ← zid_at w.0
  id ← number_at w.1
  Ok (Act (Unable client id))

-- interest CLIENT N MODE KIND KEY, or with `aggregate` behind the key
unfoldable pub interest_line : List (List ℕ) → Result Command ScriptError
interest_line args = do
  w ← five_of args
  client ← zid_at w.0
  id ← number_at w.1
  mode ← mode_at w.2
  kinds ← kinds_at w.3
  aggregate ← aggregate_at w.5
  key ← optional_key_at w.4
  Ok (Act (Interest client id mode kinds key aggregate))

-- uninterest CLIENT N
unfoldable pub uninterest_line : List (List ℕ) → Result Command ScriptError
uninterest_line args = do
  w ← two_of args
  client ← zid_at w.0
  id ← number_at w.1
  Ok (Act (Uninterest client id))

-- a sample, a query or a reply as a script makes it: nothing stands beside key and body
abbrev pub plain : List ℕ → List ℕ → Parts
plain key body = record { key = key; extras = no_extras; body = body }

-- put CLIENT KEY PAYLOAD
unfoldable pub put_line : List (List ℕ) → Result Command ScriptError
put_line args = do
  w ← three_of args
  client ← zid_at w.0
  key ← key_at w.1
  Ok (Act (Publish client (plain key (put_body (payload_at w.2)))))

-- del CLIENT KEY
unfoldable pub del_line : List (List ℕ) → Result Command ScriptError
del_line args = do
  w ← two_of args
  client ← zid_at w.0
  key ← key_at w.1
  Ok (Act (Publish client (plain key del_body)))

-- The bodies of queries and replies have no extensions, and no flags but those of two: the consolidation of a query for the latest replies,
-- and the timestamp of a reply that has a time (Zenoh protocol 1.0, "QUERY", "REPLY" and "PUT").

-- the body of a query, and that of a query for the latest replies alone, whose consolidation is 3
abbrev pub query_body : List ℕ
query_body = 3 ∷ []

abbrev pub latest_body : List ℕ
latest_body = 0x23 ∷ 3 ∷ []

abbrev pub asking_body : Bool → List ℕ
asking_body latest = if latest then latest_body else query_body

-- the body of a reply with a payload, and that of one whose PUT has a time and the clock that gave it
abbrev pub reply_body : List ℕ → List ℕ
reply_body payload = 4 ∷ put_body payload

abbrev pub timed_body : ℕ → List ℕ → List ℕ → List ℕ
timed_body time clock payload = 4 ∷ 0x21 ∷ writes time ++ writes_text clock ++ writes_text payload

abbrev pub answer_body : Option ℕ → List ℕ → List ℕ → List ℕ
answer_body None clock payload = reply_body payload
answer_body (Some time) clock payload = timed_body time clock payload

-- get CLIENT N KEY TARGET, or with `latest` behind the target
unfoldable pub get_line : List (List ℕ) → Result Command ScriptError
get_line args = do
  w ← four_of args
  client ← zid_at w.0
  number ← number_at w.1
  target ← target_at w.3
  latest ← latest_at w.4
  key ← key_at w.2
  Ok (Act (Get client number target (plain key (asking_body latest))))

-- reply CLIENT N KEY PAYLOAD, or with the time behind the payload: the client is the clock that gave it
unfoldable pub reply_line : List (List ℕ) → Result Command ScriptError
reply_line args = do
  w ← four_of args
  client ← zid_at w.0
  number ← number_at w.1
  time ← time_at w.4
  key ← key_at w.2
  Ok (Act (Reply client number (plain key (answer_body time client (payload_at w.3)))))

-- end CLIENT N
unfoldable pub end_line : List (List ℕ) → Result Command ScriptError
end_line args = do
  w ← two_of args
  client ← zid_at w.0
  number ← number_at w.1
  Ok (Act (End client number))

-- handle ROUTER FROM
unfoldable pub handle_line : List (List ℕ) → Result Command ScriptError
handle_line args = do
  w ← two_of args
  router ← zid_at w.0
  from ← zid_at w.1
  Ok (Act (Handle router from))

-- take ROUTER TO
unfoldable pub take_line : List (List ℕ) → Result Command ScriptError
take_line args = do
  w ← two_of args
  router ← zid_at w.0
  to ← zid_at w.1
  Ok (Act (Take router to))

-- run N
unfoldable pub run_line : List (List ℕ) → Result Command ScriptError
run_line args = do
  w ← one_of args
  steps ← number_at w
  Ok (Run steps)

-- fan
unfoldable pub fan_line : List (List ℕ) → Result Command ScriptError
fan_line [] = Ok Fan
fan_line (a ∷ more) = Err BadWords

-- mark
unfoldable pub mark_line : List (List ℕ) → Result Command ScriptError
mark_line [] = Ok (Act Mark)
mark_line (a ∷ more) = Err BadWords

-- show ROUTER
unfoldable pub show_line : List (List ℕ) → Result Command ScriptError
show_line args = do
  w ← one_of args
  router ← zid_at w
  Ok (Act (Show router))

-- ---- a line

-- whether a word names a command by which clients send, messages move on, or more is told
abbrev pub is_last_command : List ℕ → Bool
is_last_command name =
    is_word name (codes "put") || is_word name (codes "del") || is_word name (codes "get") || is_word name (codes "reply")
    || is_word name (codes "end") || is_word name (codes "handle") || is_word name (codes "take")
    || is_word name (codes "run") || is_word name (codes "fan") || is_word name (codes "mark") || is_word name (codes "show")

-- whether it names one of these, or one by which clients declare
abbrev pub is_later_command : List ℕ → Bool
is_later_command name =
    is_word name (codes "sub") || is_word name (codes "unsub")
    || is_word name (codes "able") || is_word name (codes "full") || is_word name (codes "unable")
    || is_word name (codes "token") || is_word name (codes "untoken")
    || is_word name (codes "interest") || is_word name (codes "uninterest")
    || is_last_command name

-- whether a word names a command
abbrev pub is_command : List ℕ → Bool
is_command name =
    is_word name (codes "router") || is_word name (codes "client") || is_word name (codes "link") || is_word name (codes "up")
    || is_word name (codes "break") || is_word name (codes "down")
    || is_later_command name

-- what such a name and the words behind it ask, by which clients send, messages move on, or more is told
unfoldable pub by_last_name : List ℕ → List (List ℕ) → Result Command ScriptError
by_last_name name args =
    if is_word name (codes "put") then put_line args
    else if is_word name (codes "del") then del_line args
    else if is_word name (codes "get") then get_line args
    else if is_word name (codes "reply") then reply_line args
    else if is_word name (codes "end") then end_line args
    else if is_word name (codes "handle") then handle_line args
    else if is_word name (codes "take") then take_line args
    else if is_word name (codes "run") then run_line args
    else if is_word name (codes "fan") then fan_line args
    else if is_word name (codes "mark") then mark_line args
    else if is_word name (codes "show") then show_line args
    else Err UnknownCommand

-- the same of these names and of those by which clients declare
unfoldable pub by_later_name : List ℕ → List (List ℕ) → Result Command ScriptError
by_later_name name args =
    if is_word name (codes "sub") then sub_line args
    else if is_word name (codes "unsub") then unsub_line args
    else if is_word name (codes "able") then able_line false args
    else if is_word name (codes "full") then able_line true args
    else if is_word name (codes "unable") then unable_line args
    else if is_word name (codes "token") then token_line args
    else if is_word name (codes "untoken") then untoken_line args
    else if is_word name (codes "interest") then interest_line args
    else if is_word name (codes "uninterest") then uninterest_line args
    else by_last_name name args

-- what a command's name and the words behind it ask
unfoldable pub by_name : List ℕ → List (List ℕ) → Result Command ScriptError
by_name name args =
    if is_word name (codes "router") then router_line args
    else if is_word name (codes "client") then client_line args
    else if is_word name (codes "link") then link_line args
    else if is_word name (codes "up") then up_line args
    else if is_word name (codes "break") then break_line args
    else if is_word name (codes "down") then down_line args
    else by_later_name name args

-- what the words of a line ask, where it is told whether its bytes are clean
unfoldable pub by_words : Bool → List (List ℕ) → Result Command ScriptError
by_words clean [] = Err UnknownCommand
by_words clean (name ∷ args) =
    if not (is_command name) then Err UnknownCommand
    else if not clean then Err BadWords
    else by_name name args

-- whether a line asks nothing: it is empty, or a comment
abbrev pub is_silent : List ℕ → Bool
is_silent [] = true
is_silent (b ∷ bs) = b == 35

-- what a line asks, if it asks anything
unfoldable pub command_of : List ℕ → Result (Option Command) ScriptError
command_of line =
    if nat_lt most_line (length line) then Err Limit
    else if is_silent line then Ok None
    else by_words (is_clean line) (words line) >>= (λ command. Ok (Some command))

-- Some line asks for the act. Its words are short, since a line is.
abbrev pub IsLineAct : act.Act → Type 0
IsLineAct x = (line : List ℕ) × (command_of line ≡ Ok (Some (Act x)))
