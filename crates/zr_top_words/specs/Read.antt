-- How the words were read.
use Rattle.std.specs.Prelude.{◌≡◌, ◌≤◌, ◌⊎◌, ℕ, Bool, true, false, not, List, [], Option, Some, None, Result, Ok, Err, option_and_then}
use Rattle.std.specs.List.{list_any}
use Rattle.std.specs.String.{string_bytes}
use Rattle.clap.specs.Words.{Row}
use Rattle.clap.specs.declared.error.kind.ErrorKind.{ErrorKind}
use Rattle.clap.specs.declared.error.kind.ErrorKind.TheVariants.{DisplayHelp, DisplayVersion, OutOfMemory}
use Rattle.zr_make.specs.Plan.{is_in_range}
use Rattle.zr_top_words.specs.declared.plan.Plan.{Plan}
use Rattle.zr_top_words.specs.declared.plan.Plan.TheVariants as plan
use Rattle.zr_top_words.specs.declared.plan.ServeWords.{ServeWords}
use Rattle.zr_top_words.specs.declared.plan.WordsError.{WordsError}
use Rattle.zr_top_words.specs.declared.plan.WordsError.TheVariants as error
use Rattle.zr_top_words.specs.Asked.{Asked, Served, net, serve, make, asked_by, asked_of, faults, is_promised, made_of, most_threads, net_of, served_of}

-- what a plan asks for
abbrev pub served_as : ServeWords → Served
served_as plan = record { id = plan.id; listen = string_bytes plan.listen; log = plan.log; rules = plan.rules; explain = plan.explain; admin = plan.admin; dials = plan.dials.items }

abbrev pub asked_as : Plan → Asked
asked_as (plan.Net p) = net p
asked_as (plan.Serve p) = serve (served_as p)
asked_as (plan.Make p) = make p

-- `clap` answers with help or the version
abbrev pub is_answer : ErrorKind → Bool
is_answer DisplayHelp = true
is_answer DisplayVersion = true
is_answer kind = false

-- `clap` may answer the words so
abbrev pub may_answer : List (List ℕ) → Bool
may_answer words = list_any is_answer (faults words)

-- `clap` may refuse the words for another cause than memory
abbrev pub may_refuse : List (List ℕ) → Bool
may_refuse words = list_any (λ kind. not (is_answer kind)) (faults words)

-- `clap` takes the words, and a value is out of range
abbrev pub IsOutOfRange : List (List ℕ) → Type 0
IsOutOfRange words = (faults words ≡ []) × (asked_of words ≡ None)

-- the words are none that `clap` promises to take, and it refuses them; or a value is out of range
abbrev pub IsWrong : List (List ℕ) → Type 0
IsWrong words = ((is_promised words ≡ false) × (may_refuse words ≡ true)) ⊎ IsOutOfRange words

-- why words gave no plan; running out of memory has no cause
abbrev pub IsCause : WordsError → List (List ℕ) → Type 0
IsCause (error.Told text) words = may_answer words ≡ true
IsCause error.Wrong words = IsWrong words
IsCause error.NoMemory words = Unit {0}

-- the plan is what the words ask for, or there is a cause for none
abbrev pub Reads : List (List ℕ) → Result Plan WordsError → Type 0
Reads words (Ok p) = asked_of words ≡ Some (asked_as p)
Reads words (Err e) = IsCause e words

-- the plan is what is asked for, or nothing is
abbrev pub PlansOf : Option Asked → Result Plan WordsError → Type 0
PlansOf asked (Ok p) = asked ≡ Some (asked_as p)
PlansOf asked (Err (error.Told text)) = ⊥
PlansOf asked (Err error.Wrong) = asked ≡ None
PlansOf asked (Err error.NoMemory) = Unit {0}

-- the same, by what was found of the words
abbrev pub PlansBy : Option (List ℕ × List Row) → Result Plan WordsError → Type 0
PlansBy found result = PlansOf (option_and_then asked_by found) result

-- what comes of an error of `clap`
abbrev pub Refuses : ErrorKind → WordsError → Type 0
Refuses kind (error.Told text) = is_answer kind ≡ true
Refuses kind error.Wrong = (is_answer kind ≡ false) × ((kind ≡ OutOfMemory) → ⊥)
Refuses kind error.NoMemory = Unit {0}

-- routers can be handled on so many threads
abbrev pub AreThreads : ℕ → Type 0
AreThreads n = (1 ≤ n) × (n ≤ most_threads)

-- a script can be made of the plan, or read with so many threads
abbrev pub CanBeMade : Plan → Type 0
CanBeMade (plan.Net p) = AreThreads p.threads
CanBeMade (plan.Make p) = is_in_range p.routers p.clients p.messages ≡ true
CanBeMade other = Unit {0}

-- `clap` refuses the words, whatever memory there is, and answers none of them; or a value is out of range
abbrev pub IsRefused : List (List ℕ) → Type 0
IsRefused words = ((may_refuse words ≡ true) × (may_answer words ≡ false)) ⊎ IsOutOfRange words

-- the words ask for no plan; where memory ran out nothing is known of them
abbrev pub AsksNone : WordsError → List (List ℕ) → Type 0
AsksNone (error.Told text) words = (net_of words ≡ None) × (served_of words ≡ None) × (made_of words ≡ None)
AsksNone error.Wrong words = (net_of words ≡ None) × (served_of words ≡ None) × (made_of words ≡ None)
AsksNone error.NoMemory words = Unit {0}
