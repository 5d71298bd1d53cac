-- The network refines one broker: from each accepted mark on, at each moment of its phase.
use Rattle.std.specs.Prelude.{◌≡◌, ℕ, ◌≤◌, suc, length, ◌==◌, ◌||◌, nat_lt, Bool, true, false, List, [], ◌∷◌, ◌++◌, filter, Some}
use Rattle.std.specs.List.{list_any, list_all, AllByRecursion}
use Rattle.zr_script_spec.specs.declared.command.Act.TheVariants.{Mark}
use Rattle.zr_script_spec.specs.declared.report.ReportLine.{ReportLine}
use Rattle.zr_lists.specs.Prefix.{IsPrefixOf}
use Rattle.zr_world_spec.specs.World.{is_quiet}
use Rattle.zr_world_spec.specs.Moments.{Numbered, ascends, Moment, reached}
use Rattle.zr_guarantee.specs.Phase.{is_phase}
use Rattle.zr_guarantee.specs.Names.{is_router}
use Rattle.zr_guarantee.specs.Item.{Item, Reply}
use Rattle.zr_guarantee.specs.Broker.{is_line_of, is_line, from}
use Rattle.zr_guarantee.specs.Queries.{Asked, queries, times_asked, times_ended, turn, replies, is_finished}
pub use Rattle.zr_guarantee.specs.Queries.{has_final}
use Rattle.zr_guarantee.specs.Latest.{asks_latest, all_may_come, IsAnsweredLatest, LatestFit}
use Rattle.zr_guarantee.specs.Sent.{Told, told_to, requests_to, sent_to, replies_in, finals_in, behind_finals}

-- ---- samples and requests

-- what the receiver was sent of the publisher's lines in a phase
abbrev pub sent_of : List Numbered → Moment → List ℕ → List ℕ → List Item
sent_of phase m publisher receiver = filter (λ i. is_line_of phase publisher i.line) (sent_to m.report receiver)

-- ---- replies and finals

-- of some messages that its client was sent, the replies of a replier to a query: those of lines that reply to it
abbrev pub sent_of_query : List Numbered → List ReportLine → Asked → List ℕ → List Told → List Reply
sent_of_query acts report q replier told = filter (λ r. list_any (λ d. d.line == r.line) (replies acts report q replier)) (replies_in told)

-- A query of a phase is answered as one broker answers it. `before` are the acts before the mark, and `acts` those and the phase's.
pub record IsAnswered (before acts : List Numbered) (m : Moment) (q : Asked) : Type 0 where
  -- replier by replier, what its client was sent begins what it is to have, under the number of the query
  pub prefix : (replier : List ℕ) → IsPrefixOf (sent_of_query acts m.report q replier (told_to m.report q.client)) (replies acts m.report q replier)
  -- its final is sent only where all that are asked have ended, and all their replies were sent
  pub finished : has_final acts m.report q ≡ true → is_finished before acts m.report q ≡ true
  pub complete : has_final acts m.report q ≡ true → (replier : List ℕ) →
      sent_of_query acts m.report q replier (told_to m.report q.client) ≡ replies acts m.report q replier
  -- and no reply is sent behind it
  pub last : (replier : List ℕ) → sent_of_query acts m.report q replier (behind_finals q.number (turn acts q) (told_to m.report q.client)) ≡ []
  -- where nothing is under way, all replies were sent, and the final too if all that are asked have ended
  pub whole : is_quiet m.world ≡ true → (replier : List ℕ) →
      sent_of_query acts m.report q replier (told_to m.report q.client) ≡ replies acts m.report q replier
  pub final : is_quiet m.world ≡ true → is_finished before acts m.report q ≡ true → has_final acts m.report q ≡ true

-- so is each, whether it asks for the latest or not
abbrev pub IsAnsweredBy : Bool → List Numbered → List Numbered → Moment → Asked → Type 0
IsAnsweredBy true before acts m q = IsAnsweredLatest before acts m q
IsAnsweredBy false before acts m q = IsAnswered before acts m q

-- ---- samples and requests of a phase

-- At a moment of a phase samples and requests come as one broker sends them. `before` are the acts before the mark, `mark` is the number of its
-- line, and `phase` are the acts after it, up to the moment. Publishers are any names, and receivers any but routers'.
pub record Delivers (before : List Numbered) (mark : ℕ) (phase : List Numbered) (m : Moment) : Type 0 where
  -- publisher by publisher, what a receiver was sent of samples and requests begins what it is to have, in one order
  pub prefix : (publisher receiver : List ℕ) → is_router before receiver ≡ false → IsPrefixOf (sent_of phase m publisher receiver) (from before phase publisher receiver)
  -- where nothing is under way, it is the whole
  pub whole : is_quiet m.world ≡ true → (publisher receiver : List ℕ) → is_router before receiver ≡ false →
      sent_of phase m publisher receiver ≡ from before phase publisher receiver
  -- nothing else was sent: each sample and each request is a line of the phase, or comes from before the mark
  pub nothing_else : (receiver : List ℕ) → list_all (λ i. nat_lt i.line mark || is_line phase i.line) (sent_to m.report receiver) ≡ true

-- at every moment of every phase they do
abbrev pub PhasesDeliver : Type 0
PhasesDeliver = (before phase : List Numbered) (mark : ℕ) (m : Moment) →
    ascends 0 (before ++ (mark, Mark) ∷ phase) ≡ true → is_phase phase ≡ true →
    reached (before ++ (mark, Mark) ∷ phase) ≡ Some m → Delivers before mark phase m

-- ---- all of it

-- At a moment of a phase the network has done what one broker does.
pub record Refines (before : List Numbered) (mark : ℕ) (phase : List Numbered) (m : Moment) : Type 0 where
  -- samples and requests come as one broker sends them
  pub delivers : Delivers before mark phase m
  -- each query of the phase is answered: its replies come, and one final behind them
  pub answered : AllByRecursion (λ q. IsAnsweredBy (asks_latest q) before (before ++ phase) m q) (queries phase)
  -- each reply was said by a client, to the query that its receiver has asked under that number and whose final it was not sent yet
  pub no_other_reply : (receiver : List ℕ) → is_router before receiver ≡ false → all_may_come (before ++ phase) m.report receiver [] (told_to m.report receiver) ≡ true
  -- under each number a client is sent the next request only once it has ended the one before
  pub one_at_a_time : (receiver : List ℕ) (number : ℕ) → is_router before receiver ≡ false →
      length (requests_to m.report receiver number) ≤ suc (times_ended (before ++ phase) receiver number)
  -- and under each number there are no more finals than queries
  pub no_other_final : (receiver : List ℕ) (number : ℕ) → is_router before receiver ≡ false →
      finals_in number (told_to m.report receiver) ≤ times_asked (before ++ phase) receiver number

-- every moment of every phase refines one broker: where a query asks for the latest, as far as what clients reply may be held
abbrev pub PhasesRefine : Type 0
PhasesRefine = (before phase : List Numbered) (mark : ℕ) (m : Moment) →
    ascends 0 (before ++ (mark, Mark) ∷ phase) ≡ true → is_phase phase ≡ true → LatestFit (before ++ phase) →
    reached (before ++ (mark, Mark) ∷ phase) ≡ Some m → Refines before mark phase m
