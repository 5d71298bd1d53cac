-- What the words ask for: the values of `clap`'s matches, where they are in range.
use Rattle.std.specs.Prelude.{ℕ, ◌^◌, nat_lt, nat_le, ◌&&◌, not, Bool, false, if◌then◌else◌, List, [], ◌∷◌, Option, Some, None, codes, option_and_then, unwrap_or}
use Rattle.std.specs.Option.{option_map, option_map_or}
use Rattle.std.specs.Str.{bytes_eq}
use Rattle.clap.specs.Words.{Kinds, Row, all_of, fault_of, first_of, subcommand_of, takes}
use Rattle.zr_id.specs.Zid.{zid_of_hex}
use Rattle.zr_script_spec.specs.Words.{is_number, value_of}
use Rattle.zr_dial.specs.Dial.{DialState, dial_of}
use Rattle.zr_make.specs.declared.plan.MakePlan.{MakePlan}
use Rattle.zr_make.specs.Plan.{is_in_range}
use Rattle.zr_top_words.specs.App.{app}
use Rattle.zr_top_words.specs.declared.plan.NetPlan.{NetPlan}

-- ---- what `clap` makes of the words

-- the kinds of error with which `clap` may refuse the words: none where it takes them
unfoldable pub faults : List (List ℕ) → Kinds
faults words = fault_of app words

-- the words are such as `clap` promises to take
unfoldable pub is_promised : List (List ℕ) → Bool
is_promised words = takes app words

-- the command that the words name, and what was found of its options
unfoldable pub found : List (List ℕ) → Option (List ℕ × List Row)
found words = subcommand_of app words

-- ---- the values of the matches

-- whether an option without a value stands
abbrev pub is_given : List ℕ → List Row → Bool
is_given name rows = option_map_or (λ text. bytes_eq text (codes "true")) (first_of name rows) false

-- what some words ask to be dialled; none where one of them asks for nothing
abbrev pub dials_of : List (List ℕ) → Option (List DialState)
dials_of [] = Some []
dials_of (word ∷ words) = option_and_then (λ dial. option_map (λ dials. dial ∷ dials) (dials_of words)) (dial_of word)

-- what `serve` asks for: an identifier, the address at which it listens, whether its links have logs, whether rules are read, whether a faulty line of
-- them is explained, whether it has an administration space, and what it dials
pub record Served : Type 0 where
  pub id : List ℕ
  pub listen : List ℕ
  pub log : Bool
  pub rules : Bool
  pub explain : Bool
  pub admin : Bool
  pub dials : List DialState

-- the number below a limit that a word spells, in decimal digits without leading zeros
abbrev pub number_below : ℕ → List ℕ → Option ℕ
number_below limit word = if is_number word then (if nat_lt (value_of word) limit then Some (value_of word) else None) else None

-- on how many threads routers are handled at most
abbrev pub most_threads : ℕ
most_threads = 16

-- a number of threads that is in range
abbrev pub as_threads : ℕ → Option ℕ
as_threads n = if nat_le 1 n && nat_le n most_threads then Some n else None

-- on how many threads routers are handled: the number that the word spells, in decimal digits without leading zeros, or one where there is no word
abbrev pub threads_of : Option (List ℕ) → Option ℕ
threads_of None = Some 1
threads_of (Some word) = option_and_then as_threads (number_below (2 ^ 32) word)

abbrev pub net_with : List Row → ℕ → NetPlan
net_with rows threads = record { summary = is_given (codes "summary") rows; explain = is_given (codes "explain") rows; threads = threads }

abbrev pub net_by : List Row → Option NetPlan
net_by rows = option_map (net_with rows) (threads_of (first_of (codes "threads") rows))

abbrev pub dials_at : List Row → Option (List DialState)
dials_at rows = dials_of (unwrap_or (all_of (codes "dial") rows) [])

abbrev pub served_at : List Row → List ℕ → List ℕ → List DialState → Served
served_at rows listen id dials = record {
  id = id;
  listen = listen;
  log = is_given (codes "log") rows;
  rules = is_given (codes "rules") rows;
  explain = is_given (codes "explain") rows;
  admin = is_given (codes "admin") rows;
  dials = dials;
}

-- a router of this identifier, where each word asks for a dial
abbrev pub served_as_named : List Row → List ℕ → List ℕ → Option Served
served_as_named rows listen id = option_map (served_at rows listen id) (dials_at rows)

-- a faulty line of rules is explained where rules are read
abbrev pub if_it_explains : Served → Option Served
if_it_explains s = if s.explain && not s.rules then None else Some s

-- the identifier has to be one, and rules are read where they are explained
abbrev pub served_by : List Row → Option Served
served_by rows = option_and_then if_it_explains
    (option_and_then (λ listen. option_and_then (served_as_named rows listen) (option_and_then zid_of_hex (first_of (codes "id") rows)))
    (first_of (codes "listen") rows))

abbrev pub number_at : ℕ → List ℕ → List Row → Option ℕ
number_at limit name rows = option_and_then (number_below limit) (first_of name rows)

-- the plan of four numbers, where they are in range
abbrev pub plan_in_range : ℕ → ℕ → ℕ → ℕ → Option MakePlan
plan_in_range number routers clients messages =
    if is_in_range routers clients messages then Some (record { number = number; routers = routers; clients = clients; messages = messages }) else None

abbrev pub made_by : List Row → Option MakePlan
made_by rows =
    option_and_then (λ n. option_and_then (λ r. option_and_then (λ c. option_and_then (λ m. plan_in_range n r c m)
    (number_at (2 ^ 32) (codes "messages") rows)) (number_at (2 ^ 32) (codes "clients") rows)) (number_at (2 ^ 32) (codes "routers") rows))
    (number_at (2 ^ 64) (codes "number") rows)

-- ---- the plan

-- what is asked for
pub data Asked : Type 0 where
  net : NetPlan → Asked
  serve : Served → Asked
  make : MakePlan → Asked

abbrev pub asked_by : List ℕ × List Row → Option Asked
asked_by (name, rows) =
    if bytes_eq name (codes "net") then option_map net (net_by rows)
    else (if bytes_eq name (codes "serve") then option_map serve (served_by rows)
    else (if bytes_eq name (codes "make") then option_map make (made_by rows) else None))

-- what was found, where there is no fault
abbrev pub unless_fault : {A : Type 0} → Kinds → Option A → Option A
unless_fault [] found = found
unless_fault (kind ∷ kinds) found = None

-- what the words ask for; none where `clap` refuses them, or a value is out of range
unfoldable pub asked_of : List (List ℕ) → Option Asked
asked_of words = unless_fault (faults words) (option_and_then asked_by (found words))

-- the words ask for `net`, `serve` or `make`
abbrev pub net_part : Asked → Option NetPlan
net_part (net plan) = Some plan
net_part other = None

abbrev pub serve_part : Asked → Option Served
serve_part (serve plan) = Some plan
serve_part other = None

abbrev pub make_part : Asked → Option MakePlan
make_part (make plan) = Some plan
make_part other = None

abbrev pub net_of : List (List ℕ) → Option NetPlan
net_of words = option_and_then net_part (asked_of words)

abbrev pub served_of : List (List ℕ) → Option Served
served_of words = option_and_then serve_part (asked_of words)

abbrev pub made_of : List (List ℕ) → Option MakePlan
made_of words = option_and_then make_part (asked_of words)
