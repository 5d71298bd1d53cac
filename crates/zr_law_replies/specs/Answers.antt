-- What is known of answers at every moment: which query each number of each link belongs to, and that all that clients said and were sent agrees
-- with it. From this alone, without any tree: no reply goes to another asker, no more finals than queries, and what a line answers stays what it is.
use Rattle.std.specs.Prelude.{◌≡◌, ◌⊎◌, ℕ, ◌+◌, ◌==◌, ◌&&◌, not, Bool, true, cond, List, [], length, filter, Some, None, Option, is_some, IfSome}
use Rattle.std.specs.List.{AllByRecursion, list_any, slice_get}
use Rattle.std.specs.Option.{option_map}
use Rattle.zr_id.specs.Zid.{is_named}
use Rattle.zr_script_spec.specs.declared.report.ReportLine.{ReportLine}
use Rattle.zr_world_spec.specs.World.{ClientState, client_of}
use Rattle.zr_world_spec.specs.Acts.{has_number}
use Rattle.zr_world_spec.specs.Moments.{Numbered, Moment, ascends, reached}
use Rattle.zr_guarantee.specs.Item.{Reply}
use Rattle.zr_guarantee.specs.Latest.{asks_latest}
use Rattle.zr_guarantee.specs.Queries.{Asked, queries, Saying, sayings, query_of, times_asked, times_ended}
pub use Rattle.zr_guarantee.specs.Queries.{query_at}
use Rattle.zr_guarantee.specs.Sent.{told_to, requests_to, replies_in, finals_in}
pub use Rattle.zr_guarantee.specs.Sent.{up_to_final, told_in_turn}
use Rattle.zr_law_queries.specs.Link.{Hop, Free, Asked as AskedHop, Open}
use Rattle.zr_law_numbers.specs.Waiting as waiting
use Rattle.zr_law_numbers.specs.Waiting.{Said, Place, is_whole}
use Rattle.zr_law_numbers.specs.Numbers.{NumbersHold}

abbrev pub HopState : Type 0
HopState = Hop waiting.Asked Place Said

-- the line of the query that a hop is of, if it is one's, and the replies that are on their way back
abbrev pub line_of : HopState → Option ℕ
line_of Free = None
line_of (AskedHop request by) = Some request.line
line_of (Open request by replies done) = Some request.line

abbrev pub replies_of : HopState → List Said
replies_of Free = []
replies_of (AskedHop request by) = []
replies_of (Open request by replies done) = replies

-- a line is that of a query
abbrev pub IsAsked : List Numbered → ℕ → Type 0
IsAsked acts line = list_any (λ p. p.line == line) (queries acts) ≡ true

-- a line is that of a query for the latest which a name has asked
abbrev pub is_latest_of : List Numbered → List ℕ → ℕ → Bool
is_latest_of acts name line = list_any (λ p. is_named name p.client && (p.line == line && asks_latest p)) (queries acts)

-- a line is one of the acts', and no reply's
abbrev pub is_other_line : List Numbered → ℕ → Bool
is_other_line acts line = list_any (λ x. x.0 == line) acts && not (list_any (λ s. s.line == line && is_some s.reply) (sayings acts))

-- A reply that comes to a name is one of the acts' sayings, and was said to the query of a line. It comes with the line on which it was said. Where that name
-- has asked the query, for the latest, it may also come with another line, which is no reply's: that of the event that released it.
pub record IsSaidTo (acts : List Numbered) (report : List ReportLine) (name : List ℕ) (line : ℕ) (said : Said) : Type 0 where
  pub place : ℕ
  pub saying : Saying
  pub stands : slice_get (sayings acts) place ≡ Some saying
  pub line_is : (saying.line ≡ said.line) ⊎ ((is_latest_of acts name line ≡ true) × (is_other_line acts said.line ≡ true))
  pub reply_is : saying.reply ≡ Some said.content
  pub query : query_of acts report saying ≡ Some line

-- a reply that a client was sent under a number, after so many finals of it, was said to its query of that turn
pub record IsAnswer (acts : List Numbered) (report : List ReportLine) (client : List ℕ) (number turns : ℕ) (reply : Reply) : Type 0 where
  pub query : Asked
  pub asked : query_at acts client number turns ≡ Some query
  pub said : IsSaidTo acts report client query.line (record { line = reply.line; content = reply.content })

pub record AnswersHold (acts : List Numbered) (m : Moment) (hop : List ℕ → List ℕ → ℕ → HopState) : Type 0 where
  pub numbers : NumbersHold hop m.world
  -- each hop is of a query that was asked, and its replies are lines said to it, which come to the upper end
  pub asked : (x y : List ℕ) (n : ℕ) → is_whole m.world x y ≡ true → IfSome (line_of (hop x y n)) (IsAsked acts)
  pub said : (x y : List ℕ) (n line : ℕ) → is_whole m.world x y ≡ true → line_of (hop x y n) ≡ Some line → AllByRecursion (IsSaidTo acts m.report x line) (replies_of (hop x y n))
  -- under each number a client was sent as many requests as it has ended and keeps, and the last one is the one that it keeps
  pub sent : (d : List ℕ) (s : ClientState) (n : ℕ) → client_of m.world.clients d ≡ Some s →
      length (requests_to m.report d n) ≡ times_ended acts d n + cond (has_number s.requests n) 1 0
  pub kept : (d : List ℕ) (s : ClientState) (n : ℕ) → client_of m.world.clients d ≡ Some s → is_whole m.world s.router d ≡ true → has_number s.requests n ≡ true →
      slice_get (requests_to m.report d n) (times_ended acts d n) ≡ line_of (hop s.router d n)
  -- under each number a client was sent as many finals as it has asked queries that are not open, and the last one is the one that is open
  pub finals : (c : List ℕ) (s : ClientState) (n : ℕ) → client_of m.world.clients c ≡ Some s →
      finals_in n (told_to m.report c) + cond (has_number s.queries n) 1 0 ≡ times_asked acts c n
  pub asks : (c : List ℕ) (s : ClientState) (n : ℕ) → client_of m.world.clients c ≡ Some s → is_whole m.world c s.router ≡ true → has_number s.queries n ≡ true →
      option_map (λ q. q.line) (query_at acts c n (finals_in n (told_to m.report c))) ≡ line_of (hop c s.router n)
  -- each reply that a client was sent was said to its query of that turn
  pub told : (c : List ℕ) (s : ClientState) (n turns : ℕ) → client_of m.world.clients c ≡ Some s →
      AllByRecursion (λ r. IsAnswer acts m.report c n turns r) (filter (λ r. r.number == n) (replies_in (told_in_turn n turns (told_to m.report c))))

-- at each moment to which acts lead whose numbers ascend
abbrev pub AnswersAlwaysHold : Type 0
AnswersAlwaysHold = (acts : List Numbered) (m : Moment) → ascends 0 acts ≡ true → reached acts ≡ Some m → (hop : List ℕ → List ℕ → ℕ → HopState) × AnswersHold acts m hop
