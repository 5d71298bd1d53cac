-- What one router knows of the change logs of all, its own among them.
use Rattle.std.specs.Prelude.{◌≡◌, ℕ, ◌+◌, ◌-◌, ◌^◌, ◌<◌, ◌==◌, ◌&&◌, not, nat_lt, Bool, if◌then◌else◌, List, [], map, Option, Some, None, Result, Ok, Err}
use Rattle.std.specs.Cmp.Lexicographic.{slice_cmp}
use Rattle.std.specs.List.{AllByRecursion}
use Rattle.std.specs.Option.{option_map_or}
use Rattle.std.specs.Ordering.{nat_cmp}
use Rattle.zr_id.specs.Zid.{is_named}
use Rattle.zr_msg.specs.declared.decl.Decl.{Decl}
use Rattle.zr_lists.specs.Ascending.{IsAscending, at_key, put}
use Rattle.zr_log_set.specs.Decls.{set_of, weight, most_weight}
use Rattle.zr_log.specs.declared.log.Log.{Log}
use Rattle.zr_log.specs.declared.error.KnownError.{KnownError}
use Rattle.zr_log.specs.declared.error.KnownError.TheVariants.{Gap, TextLimit, Worn, NoMemory}
use Rattle.zr_log.specs.Log.{Change, changed, change_held, change_more}

-- the router itself, and the logs of which it knows a change, in ascending order of their routers
pub record KnownState : Type 0 where
  pub me : List ℕ
  pub logs : List Log

-- the routers ascend, of each a change is known, and what its clients declare is a set
pub record AreInOrder (k : KnownState) : Type 0 where
  pub ascending : IsAscending (slice_cmp nat_cmp) (λ l. l.source) k.logs
  pub begun : AllByRecursion (λ l. 0 < l.position) k.logs

-- of whom a change is known
abbrev pub sources : KnownState → List (List ℕ)
sources k = map (λ l. l.source) k.logs

-- what is known of a router's log
abbrev pub log_of : KnownState → List ℕ → Option Log
log_of k source = at_key (slice_cmp nat_cmp) (λ l. l.source) k.logs source

-- how many of its changes are known, and the set that they lead to
abbrev pub position : KnownState → List ℕ → ℕ
position k source = option_map_or (λ l. l.position) (log_of k source) 0

abbrev pub decls : KnownState → List ℕ → List Decl
decls k source = option_map_or (λ l. l.decls) (log_of k source) []

-- with another position and set of one router
abbrev pub with_log : KnownState → List ℕ → ℕ → List Decl → KnownState
with_log k source number set =
    record { me = k.me; logs = put (slice_cmp nat_cmp) (λ l. l.source) k.logs (record { source = source; position = number; decls = set }) }

-- a router that knows nothing yet
abbrev pub nothing_known : List ℕ → KnownState
nothing_known me = record { me = me; logs = [] }

-- a log with one change more, of this number
abbrev pub changed_log : Log → ℕ → Change → Log
changed_log l number c = record { source = l.source; position = number; decls = changed l.decls c }

-- ---- the own log

-- the own log has one change more
abbrev pub after_own : KnownState → Change → KnownState
after_own k c = with_log k k.me (position k k.me + 1) (changed (decls k k.me) c)

-- its positions are numbers of 64 bits
abbrev pub refuses_own : KnownState → Option KnownError
refuses_own k = if position k k.me == 2 ^ 64 - 1 then Some Worn else None

-- ---- the logs of others

-- a number is the next one of another router's log, is beyond what is known of it, and is one beyond the next
abbrev pub is_next : KnownState → List ℕ → ℕ → Bool
is_next k source number = not (is_named source k.me) && number == position k source + 1

abbrev pub is_newer : KnownState → List ℕ → ℕ → Bool
is_newer k source number = not (is_named source k.me) && nat_lt (position k source) number

abbrev pub is_gap : KnownState → List ℕ → ℕ → Bool
is_gap k source number = not (is_named source k.me) && nat_lt (position k source + 1) number

-- a change that is the next is taken over; one that is known, or the router's own, leaves all as it is
abbrev pub after_step : KnownState → List ℕ → ℕ → Change → KnownState
after_step k source number c = if is_next k source number then with_log k source number (changed (decls k source) c) else k

-- a snapshot that is beyond what is known takes its place; another one, or the router's own, leaves all as it is
abbrev pub after_snap : KnownState → List ℕ → ℕ → List Decl → KnownState
after_snap k source number ds = if is_newer k source number then with_log k source number (set_of ds) else k

-- a set weighs more than it may, where so much is held and so much comes
abbrev pub over_limit : ℕ → ℕ → Option KnownError
over_limit held more = if nat_lt most_weight (held + more) then Some (TextLimit held more) else None

-- a change is refused where one is missing before it, and where it would be taken over and leave a set that weighs too much
abbrev pub refuses_step : KnownState → List ℕ → ℕ → Change → Option KnownError
refuses_step k source number c =
    if is_gap k source number then Some (Gap source (position k source) number)
    else if is_next k source number then over_limit (change_held (decls k source) c) (change_more c)
    else None

-- a snapshot is refused where it would be taken over and weighs too much; nothing of the former set stays
abbrev pub refuses_snap : KnownState → List ℕ → ℕ → List Decl → Option KnownError
refuses_snap k source number ds = if is_newer k source number then over_limit 0 (weight (set_of ds)) else None

-- ---- answers

-- the refusal that was answered: out of memory is none
abbrev pub refusal : {X : Type 0} → Result X KnownError → Option KnownError
refusal (Ok x) = None
refusal (Err (Gap source has came)) = Some (Gap source has came)
refusal (Err (TextLimit held more)) = Some (TextLimit held more)
refusal (Err Worn) = Some Worn
refusal (Err NoMemory) = None

-- the refusal was answered, or memory ran out first
abbrev pub IsRefusedAs : {X : Type 0} → Option KnownError → Result X KnownError → Type 0
IsRefusedAs r (Ok x) = r ≡ None
IsRefusedAs r (Err (Gap source has came)) = r ≡ Some (Gap source has came)
IsRefusedAs r (Err (TextLimit held more)) = r ≡ Some (TextLimit held more)
IsRefusedAs r (Err Worn) = r ≡ Some Worn
IsRefusedAs r (Err NoMemory) = Unit {0}
