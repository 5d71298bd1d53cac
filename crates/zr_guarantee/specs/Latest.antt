-- The one broker, on queries for the latest replies alone: of all that clients reply, the best of each key, and not before all that are asked have ended.
use Rattle.std.specs.Prelude.{◌≡◌, ℕ, ◌-◌, ◌==◌, ◌&&◌, ◌≤◌, Bool, true, false, if◌then◌else◌, List, [], ◌∷◌, ◌++◌, map, filter, Option, Some, None, is_some}
use Rattle.std.specs.List.{filter_map, list_any, list_all, sum_by}
use Rattle.std.specs.Cmp.Lexicographic.{slice_cmp}
use Rattle.std.specs.Option.{option_map_or}
use Rattle.std.specs.Ordering.{is_eq, nat_cmp}
use Rattle.zr_body.specs.Latest.{is_latest, is_reply}
use Rattle.zr_lists.specs.Prefix.{IsPrefixOf}
use Rattle.zr_msg.specs.declared.content.Parts.{Parts}
use Rattle.zr_pend_spec.specs.Held.{gathered, reply_weight, most_held}
use Rattle.zr_pend_spec.specs.Best.{key_body}
use Rattle.zr_script_spec.specs.declared.report.ReportLine.{ReportLine}
use Rattle.zr_world_spec.specs.World.{is_quiet}
use Rattle.zr_world_spec.specs.Moments.{Numbered, Moment}
use Rattle.zr_guarantee.specs.Item.{Reply}
use Rattle.zr_guarantee.specs.Queries.{Asked, queries, turn, query_at, Saying, sayings, is_said_to, is_finished, has_final}
use Rattle.zr_guarantee.specs.Sent.{Told, told_to, reply_in, replies_in, finals_in, told_in_turn}

-- whether a query asks for the latest replies alone (Zenoh protocol 1.0: the consolidation of a QUERY)
abbrev pub asks_latest : Asked → Bool
asks_latest q = is_latest q.content.body

-- ---- what is to be had

-- what all clients have replied to a query so far, in the order of the lines
abbrev pub said_if : Bool → Option Parts → Option Parts
said_if true reply = reply
said_if false reply = None

abbrev pub all_replies : List Numbered → List ReportLine → Asked → List Parts
all_replies acts report q = filter_map (λ s. said_if (is_said_to acts report q.line s) s.reply) (sayings acts)

-- the best of them: by ascending keys, for each key the key and body of a reply of that key than which none of that key is later
abbrev pub best : List Numbered → List ReportLine → Asked → List (List ℕ × List ℕ)
best acts report q = map key_body (gathered (all_replies acts report q))

-- ---- what was sent

-- the keys and bodies of the replies that its client was sent under the number of a query, in the query's turn
abbrev pub sent_in_turn : List Numbered → List ReportLine → Asked → List (List ℕ × List ℕ)
sent_in_turn acts report q =
    map (λ r. key_body r.content) (filter (λ r. r.number == q.number) (replies_in (told_in_turn q.number (turn acts q - 1) (told_to report q.client))))

-- A query of a phase for the latest is answered as one broker answers it. `before` are the acts before the mark, and `acts` those and the phase's.
pub record IsAnsweredLatest (before acts : List Numbered) (m : Moment) (q : Asked) : Type 0 where
  -- what its client was sent begins the best
  pub prefix : IsPrefixOf (sent_in_turn acts m.report q) (best acts m.report q)
  -- it is nothing unless all that are asked have ended
  pub early : is_finished before acts m.report q ≡ false → sent_in_turn acts m.report q ≡ []
  -- its final is sent only then, and behind the whole
  pub finished : has_final acts m.report q ≡ true → is_finished before acts m.report q ≡ true
  pub complete : has_final acts m.report q ≡ true → sent_in_turn acts m.report q ≡ best acts m.report q
  -- where nothing is under way, and all that are asked have ended, the whole was sent, and the final
  pub whole : is_quiet m.world ≡ true → is_finished before acts m.report q ≡ true → sent_in_turn acts m.report q ≡ best acts m.report q
  pub final : is_quiet m.world ≡ true → is_finished before acts m.report q ≡ true → has_final acts m.report q ≡ true

-- ---- which replies may come

-- whether a reply is what is said: it comes from that line, or to a query for the latest it has that key and body
abbrev pub has_content : Parts → Option Parts → Bool
has_content content None = false
has_content content (Some said) = is_eq (slice_cmp nat_cmp content.key said.key) && is_eq (slice_cmp nat_cmp content.body said.body)

abbrev pub is_what_is_said : Asked → Reply → Saying → Bool
is_what_is_said q reply s = if asks_latest q then has_content reply.content s.reply else s.line == reply.line && is_some s.reply

-- whether a reply may come to a client behind so many finals of the reply's number: a client has said it, to the query that this one has asked under
-- that number after so many others
abbrev pub may_come : List Numbered → List ReportLine → List ℕ → ℕ → Reply → Bool
may_come acts report client turns reply =
    option_map_or (λ q. list_any (λ s. is_said_to acts report q.line s && is_what_is_said q reply s) (sayings acts)) (query_at acts client reply.number turns) false

-- whether all replies among some messages may come, behind other messages
abbrev pub all_may_come : List Numbered → List ReportLine → List ℕ → List Told → List Told → Bool
all_may_come acts report client behind [] = true
all_may_come acts report client behind (x ∷ told) =
    option_map_or (λ r. may_come acts report client (finals_in r.number behind) r) (reply_in x.tag x.msg) true && all_may_come acts report client (behind ++ x ∷ []) told

-- ---- what the replies of a script are

-- each is a REPLY, and together they weigh no more than a router may hold, so that each that is to be held is held
abbrev pub reply_bodies : Saying → Bool
reply_bodies s = option_map_or (λ c. is_reply c.body) s.reply true

abbrev pub saying_weight : Saying → ℕ
saying_weight s = option_map_or reply_weight s.reply 0

pub record RepliesFit (acts : List Numbered) : Type 0 where
  pub bodies : list_all reply_bodies (sayings acts) ≡ true
  pub light : sum_by saying_weight (sayings acts) ≤ most_held

-- so it is where a query asks for the latest
abbrev pub LatestFit : List Numbered → Type 0
LatestFit acts = list_any asks_latest (queries acts) ≡ true → RepliesFit acts
