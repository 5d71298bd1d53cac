-- The one broker, on queries: what each client that is asked has replied and which have ended, so what replies each asker is to have and when its
-- final. The lines of the script say it, and of the report those that say what clients were sent: no router or table is known here.
use Rattle.std.specs.Prelude.{ℕ, ◌==◌, ◌&&◌, ◌||◌, not, nat_lt, nat_le, Bool, false, List, filter, Option, Some, None, is_none, if◌then◌else◌}
use Rattle.std.specs.List.{list_any, list_all, filter_map, slice_get, count_by}
use Rattle.std.specs.Option.{option_map_or}
use Rattle.zr_id.specs.Zid.{is_named}
use Rattle.zr_msg.specs.declared.content.Parts.{Parts}
use Rattle.zr_script_spec.specs.declared.command.Act.{Act}
use Rattle.zr_script_spec.specs.declared.report.ReportLine.{ReportLine}
use Rattle.zr_world_spec.specs.Moments.{Numbered}
use Rattle.zr_guarantee.specs.Names.{clients}
use Rattle.zr_guarantee.specs.Item.{Query, Reply}
use Rattle.zr_guarantee.specs.Meaning.{meaning}
pub use Rattle.zr_guarantee.specs.Meaning.{Asked, Saying}
use Rattle.zr_guarantee.specs.Broker.{is_for}
use Rattle.zr_guarantee.specs.Sent.{requests_to, told_to, finals_in}

-- ---- queries

-- the query that an act of a line asks, if it asks one
abbrev pub asked_in : ℕ → Act → Option Asked
asked_in line act = (meaning act).asks line

-- the queries of some acts
abbrev pub queries : List Numbered → List Asked
queries acts = filter_map (λ x. asked_in x.0 x.1) acts

-- a query is this client's, under this number
abbrev pub is_under : List ℕ → ℕ → Asked → Bool
is_under client number q = is_named client q.client && q.number == number

-- how many queries a client has asked under a number
abbrev pub times_asked : List Numbered → List ℕ → ℕ → ℕ
times_asked acts client number = count_by (λ q. is_under client number q) (queries acts)

-- how many its client had asked under its number once it had asked this one: a client asks anew under a number only once it was sent the final
-- of the query before, so as many finals of the number are that one's and those before it
abbrev pub turn : List Numbered → Asked → ℕ
turn acts q = count_by (λ p. is_under q.client q.number p && nat_le p.line q.line) (queries acts)

-- the query that a client asked under a number after so many others
abbrev pub query_at : List Numbered → List ℕ → ℕ → ℕ → Option Asked
query_at acts client number turns = slice_get (filter (λ q. is_under client number q) (queries acts)) turns

-- whether a query asks a client: another one, attached, that has a queryable which can answer
abbrev pub asks : List Numbered → Asked → List ℕ → Bool
asks acts q client = is_for acts q.client client (Query q.target q.content)

-- ---- what clients say to their requests

-- what an act of a line says to a request, if it says something
abbrev pub saying_in : ℕ → Act → Option Saying
saying_in line act = (meaning act).says line

-- all that clients say
abbrev pub sayings : List Numbered → List Saying
sayings acts = filter_map (λ x. saying_in x.0 x.1) acts

-- a client's end of a request under a number
abbrev pub is_end : List ℕ → ℕ → Saying → Bool
is_end client number s = is_named client s.client && (s.number == number && is_none s.reply)

-- how often a client has ended a request under a number
abbrev pub times_ended : List Numbered → List ℕ → ℕ → ℕ
times_ended acts client number = count_by (λ s. is_end client number s) (sayings acts)

-- how many requests a client had ended under a number before a line
abbrev pub ended_before : List Numbered → List ℕ → ℕ → ℕ → ℕ
ended_before acts client number line = count_by (λ s. is_end client number s && nat_lt s.line line) (sayings acts)

-- the line of the query to which something is said: under a number a client is sent one request after another, the next one only once it has
-- ended the one before
abbrev pub query_of : List Numbered → List ReportLine → Saying → Option ℕ
query_of acts report s = slice_get (requests_to report s.client s.number) (ended_before acts s.client s.number s.line)

-- whether it is said to the query of a line
abbrev pub is_said_to : List Numbered → List ReportLine → ℕ → Saying → Bool
is_said_to acts report line s = option_map_or (λ l. l == line) (query_of acts report s) false

-- ---- what is to be had

-- the reply of a saying, if it is one of the replier to the query, under the number of the query
abbrev pub reply_of : List Numbered → List ReportLine → Asked → List ℕ → Saying → Option Parts → Option Reply
reply_of acts report q replier s None = None
reply_of acts report q replier s (Some content) =
    if is_named replier s.client && is_said_to acts report q.line s then Some (record { line = s.line; number = q.number; content = content }) else None

-- the replies of a replier to a query so far, in their order: its client is to have them
abbrev pub replies : List Numbered → List ReportLine → Asked → List ℕ → List Reply
replies acts report q replier = filter_map (λ s. reply_of acts report q replier s s.reply) (sayings acts)

-- whether a client has ended its request of a query
abbrev pub has_ended : List Numbered → List ReportLine → Asked → List ℕ → Bool
has_ended acts report q client = list_any (λ s. is_named client s.client && (is_none s.reply && is_said_to acts report q.line s)) (sayings acts)

-- whether all clients that a query asks have ended their requests; who is asked stands in the lines before the phase
abbrev pub is_finished : List Numbered → List Numbered → List ReportLine → Asked → Bool
is_finished before acts report q = list_all (λ c. not (asks before q c) || has_ended acts report q c) (clients before)

-- whether its client was sent the final of a query
abbrev pub has_final : List Numbered → List ReportLine → Asked → Bool
has_final acts report q = nat_le (turn acts q) (finals_in q.number (told_to report q.client))
