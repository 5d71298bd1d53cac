-- What the shares of a round do, as moves of samples.
use Rattle.std.specs.Prelude.{◌≡◌, ℕ, ◌+◌, true, if◌then◌else◌, List, [], ◌∷◌, ◌++◌, map, Some, is_some}
use Rattle.std.specs.List.{AllByRecursion}
use Rattle.zr_orders.specs.Bag.{weigh, Goes}
use Rattle.zr_script_spec.specs.Report.{line_text}
use Rattle.zr_world_spec.specs.World.{RouterState, WorldState, router_of, is_settled}
use Rattle.zr_world_spec.specs.Acts.{hub_of}
use Rattle.zr_world_spec.specs.Sound.{IsSound}
use Rattle.zr_law_fan.specs.Samples.{Move, Handling, Taking, tagged, line_of, next_moves, can_go, IsCalm}
use Rattle.zr_world_gang.specs.declared.share.Turn.TheVariants as turn
use Rattle.zr_world_gang.specs.Shares.{ShareState, MayBeHandled}
use Rattle.zr_world_gang.specs.Turns.{HasDone, AllHaveDone}

-- ---- what waits

-- what waits at a share: its input is to be handled by its router, and its output by the routers to which it went
abbrev pub waits_in : ShareState → List Move
waits_in s = map (λ m. Handling (s.name, m.name) (tagged m.tag m.msg)) s.input ++ map (λ m. Handling (m.to, s.name) (tagged m.tag m.msg)) s.output

abbrev pub waits : List ShareState → List Move
waits [] = []
waits (s ∷ ss) = waits_in s ++ waits ss

-- ---- what is told

-- what lines weigh: of messages that were handled, that went to routers, and that were sent to clients
pub record Weights : Type 0 where
  pub handled : List ℕ → ℕ
  pub taken : List ℕ → ℕ
  pub sent : List ℕ → ℕ

abbrev pub told_in : Weights → ShareState → ℕ
told_in f s = weigh f.handled s.handled + (weigh f.taken s.taken + weigh f.sent s.sent)

abbrev pub told_by : Weights → List ShareState → ℕ
told_by f ss = weigh (told_in f) ss

-- what the line of a move weighs
abbrev pub line_weight : WorldState → Weights → Move → ℕ
line_weight w f (Handling e m) = f.handled (line_text (line_of (Handling e m)))
line_weight w f (Taking e m) = if is_some (router_of w.routers e.1) then f.taken (line_text (line_of (Taking e m))) else f.sent (line_text (line_of (Taking e m)))

-- ---- what shares do

-- a share is that of a router of a world
pub record IsOf (w : WorldState) (s : ShareState) : Type 0 where
  pub router : RouterState
  pub there : router_of w.routers s.name ≡ Some router
  pub hub : hub_of router ≡ s.hub

-- it has made moves, each where it can go, has told just these, and is that of the same router
pub record HasMoved (w : WorldState) (s t : ShareState) : Type 0 where
  pub moved : List Move
  pub goes : Goes (next_moves w) (waits_in s) moved (waits_in t)
  pub can : AllByRecursion (λ m. can_go w m ≡ true) moved
  pub told : (f : Weights) → told_in f t ≡ told_in f s + weigh (line_weight w f) moved
  pub name : t.name ≡ s.name
  pub hub : t.hub ≡ s.hub

-- where a network is settled and its routers are calm, a share that handles its input does so
abbrev pub SharesGo : Type 0
SharesGo = (w : WorldState) → IsSound w → is_settled w ≡ true → IsCalm w → (s t : ShareState) → IsOf w s → MayBeHandled s.hub s.input → HasDone turn.Handle s t → HasMoved w s t

-- all shares together
pub record HaveMoved (w : WorldState) (ss ts : List ShareState) : Type 0 where
  pub moved : List Move
  pub goes : Goes (next_moves w) (waits ss) moved (waits ts)
  pub can : AllByRecursion (λ m. can_go w m ≡ true) moved
  pub told : (f : Weights) → told_by f ts ≡ told_by f ss + weigh (line_weight w f) moved
  pub names : map (λ s. s.name) ts ≡ map (λ s. s.name) ss
  pub hubs : map (λ s. s.hub) ts ≡ map (λ s. s.hub) ss

abbrev pub RoundsGo : Type 0
RoundsGo = (w : WorldState) → IsSound w → is_settled w ≡ true → IsCalm w → (ss ts : List ShareState) → AllByRecursion (λ s. IsOf w s) ss → AllByRecursion (λ s. MayBeHandled s.hub s.input) ss →
    AllHaveDone turn.Handle ss ts → HaveMoved w ss ts
