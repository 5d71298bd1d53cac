-- How shares begin, go on by rounds, and tell their lines once nothing waits at any.
use Rattle.std.specs.Prelude.{◌≡◌, ◌≤◌, ℕ, ◌+◌, Bool, true, false, if◌then◌else◌, List, [], ◌∷◌, ◌++◌, map, length, Some, Ok}
use Rattle.std.specs.List.{AllByRecursion, concat, flat_map, list_any, sum_by}
use Rattle.std.specs.List.Sorted.{IsStrictlySortedBy}
use Rattle.std.specs.Map.{keys_of}
use Rattle.std.specs.Ordering.{nat_cmp}
use Rattle.std.specs.Cmp.Lexicographic.{slice_cmp}
use Rattle.zr_orders.specs.Bag.{weigh, AreSame, Goes}
use Rattle.zr_orders.specs.Ranked.{ranked}
use Rattle.zr_id.specs.Zid.{is_named}
use Rattle.zr_script_spec.specs.declared.report.FanSteps.{FanSteps}
use Rattle.zr_script_spec.specs.declared.report.ReportLine.{ReportLine}
use Rattle.zr_script_spec.specs.declared.report.ReportLine.TheVariants.{Fanned, Taken}
use Rattle.zr_script_spec.specs.Report.{line_text}
use Rattle.zr_world_spec.specs.World.{Tagged, EndState, End, Ends, WorldState, end_of, is_idle, is_settled, turned}
use Rattle.zr_world_spec.specs.Acts.{hub_of}
use Rattle.zr_world_spec.specs.Fan.{are_samples, most_fan_steps}
use Rattle.zr_world_spec.specs.Next.{fan_done}
use Rattle.zr_world_spec.specs.Sound.{IsSound}
use Rattle.zr_law_fan.specs.Samples.{Move, Handling, under_way, next_moves, can_go, quieted, IsCalm}
use Rattle.zr_world_gang.specs.declared.share.Turn.TheVariants as turn
use Rattle.zr_world_gang.specs.Shares.{ShareState, MayBeHandled, lines_in, new_share}
use Rattle.zr_world_gang.specs.Turns.{AllHaveDone}
use Rattle.zr_law_rounds.specs.Rounds.{waits, Weights, told_by, line_weight, IsOf}

-- what shares have told is that some samples of the world have moved, each where it can go; the others wait at the shares, and at ends from which nothing
-- was taken yet
pub record HaveGone (w : WorldState) (ss : List ShareState) (rest : Ends) : Type 0 where
  pub moved : List Move
  pub goes : Goes (next_moves w) (under_way w.ends) moved (waits ss ++ under_way rest)
  pub can : AllByRecursion (λ m. can_go w m ≡ true) moved
  pub told : (f : Weights) → told_by f ss ≡ weigh (line_weight w f) moved

-- how many lines of each kind shares have, and how many of all
abbrev pub kinds_in : List ShareState → FanSteps
kinds_in ss = record { handled = sum_by (λ s. length s.handled) ss; taken = sum_by (λ s. length s.taken) ss; sent = sum_by (λ s. length s.sent) ss }

abbrev pub steps_in : List ShareState → ℕ
steps_in ss = (kinds_in ss).handled + ((kinds_in ss).taken + (kinds_in ss).sent)

-- the line that tells all lines of shares, in the order of their bytes
abbrev pub told_of : List ShareState → ReportLine
told_of ss = Fanned (concat (ranked (flat_map lines_in ss))) (steps_in ss) (kinds_in ss)

-- ---- how shares come to that

-- the shares of the same routers, in the same order
abbrev pub Stay : List ShareState → List ShareState → Type 0
Stay ss ts = (map (λ s. s.name) ts ≡ map (λ s. s.name) ss) × (map (λ s. s.hub) ts ≡ map (λ s. s.hub) ss)

-- these wait among shares too, lines of such a weight are told more, and routers stay
pub record HaveCome (moves : List Move) (tells : Weights → ℕ) (ss ts : List ShareState) : Type 0 where
  pub waits_are : AreSame (waits ts) (moves ++ waits ss)
  pub told_are : (f : Weights) → told_by f ts ≡ told_by f ss + tells f
  pub stay : Stay ss ts

-- no line is told
abbrev pub nothing : Weights → ℕ
nothing f = 0

-- what becomes of samples that are taken from the queue at an end, and what their lines weigh
abbrev pub went : Bool → End → List Tagged → List Move
went is_router e ms = if is_router then map (λ m. Handling (turned e) m) ms else []

abbrev pub taken_weighs : Bool → End → Tagged → Weights → ℕ
taken_weighs is_router e m f = if is_router then f.taken (line_text (Taken e.0 e.1 m.msg m.tag)) else f.sent (line_text (Taken e.0 e.1 m.msg m.tag))

abbrev pub went_weighs : Bool → End → List Tagged → Weights → ℕ
went_weighs is_router e ms f = weigh (λ m. taken_weighs is_router e m f) ms

-- a fan may begin with new shares of all routers: the network is settled, only samples are under way, and routers are calm
pub record MayFan (w : WorldState) (ss : List ShareState) : Type 0 where
  pub sound : IsSound w
  pub settled : is_settled w ≡ true
  pub samples : are_samples w ≡ true
  pub calm : IsCalm w
  pub in_order : IsStrictlySortedBy (slice_cmp nat_cmp) (keys_of w.routers)
  pub shares : ss ≡ map (λ e. new_share e.0 (hub_of e.1)) w.routers

-- what waits at an end has begun: what is on the wire is to be handled, and what is queued has been taken; the end is up where anything waits
pub record HasBegun (e : End) (s : EndState) (ss ts : List ShareState) : Type 0 where
  pub come : HaveCome (map (λ m. Handling e m) s.wire ++ went (list_any (λ z. is_named e.1 z.name) ss) e s.queue) (went_weighs (list_any (λ z. is_named e.1 z.name) ss) e s.queue) ss ts
  pub up : is_idle s ≡ false → s.up ≡ true

-- so it has at all ends but for some, which are as they were
pub record AreBeginning (w : WorldState) (new ss : List ShareState) (rest : Ends) : Type 0 where
  pub may : MayFan w new
  pub stay : Stay new ss
  pub found : AllByRecursion (λ x. end_of w.ends x.0 ≡ Some x.1) rest
  pub gone : HaveGone w ss rest

-- shares of a settled world whose routers are calm, and nothing waits at its ends any more
pub record AreUnderWay (w : WorldState) (ss : List ShareState) : Type 0 where
  pub sound : IsSound w
  pub settled : is_settled w ≡ true
  pub samples : are_samples w ≡ true
  pub calm : IsCalm w
  pub of : AllByRecursion (λ s. IsOf w s) ss
  pub gone : HaveGone w ss []

abbrev pub StartGoes : Type 0
StartGoes = (w : WorldState) (ss : List ShareState) → MayFan w ss → AreBeginning w ss ss w.ends

abbrev pub EndGoes : Type 0
EndGoes = (w : WorldState) (new ss ts : List ShareState) (e : End) (s : EndState) (rest : Ends) → AreBeginning w new ss ((e, s) ∷ rest) → HasBegun e s ss ts → AreBeginning w new ts rest

abbrev pub AllHaveBegun : Type 0
AllHaveBegun = (w : WorldState) (new ss : List ShareState) → AreBeginning w new ss [] → AreUnderWay w ss

-- what went to routers waits there
abbrev pub PassGoes : Type 0
PassGoes = (w : WorldState) (ss ts : List ShareState) → AreUnderWay w ss → HaveCome [] nothing ss ts → AreUnderWay w ts

-- each has handled what waited
abbrev pub RoundGoes : Type 0
RoundGoes = (w : WorldState) (ss ts : List ShareState) → AreUnderWay w ss → AllByRecursion (λ s. MayBeHandled s.hub s.input) ss → AllHaveDone turn.Handle ss ts → AreUnderWay w ts × Stay ss ts

-- ---- the end

-- once nothing waits, that line is what a fan tells, and the world in which nothing waits is what it leaves
abbrev pub RoundsTell : Type 0
RoundsTell = (w : WorldState) (ss : List ShareState) → AreUnderWay w ss → waits ss ≡ [] → steps_in ss ≤ most_fan_steps → (line : ℕ) → fan_done line w ≡ Ok (told_of ss ∷ [], quieted w)

-- ---- how their lines are told

-- its lines stand in order, and so does their text
pub record IsTold (s : ShareState) : Type 0 where
  pub in_order : ranked s.lines ≡ s.lines
  pub text : s.text ≡ concat s.lines

-- where shares have told their lines each is told, and all of these lines are those that there were
pub record HaveToldLines (ss ts : List ShareState) : Type 0 where
  pub told : AllByRecursion (λ s. IsTold s) ts
  pub lines : ranked (flat_map (λ s. s.lines) ts) ≡ ranked (flat_map lines_in ss)
  pub stay : Stay ss ts

abbrev pub TurnTells : Type 0
TurnTells = (ss ts : List ShareState) → AllHaveDone turn.Tell ss ts → HaveToldLines ss ts
