-- Several running routers by their histories: each is legal, its entries close no link and leave no sample out, and what they tell is a run of several
-- routers, whose premises stand in `zr_law_running` (Allowed).
use Rattle.std.specs.Prelude.{◌≡◌, ℕ, true, List, [], map, Some}
use Rattle.std.specs.List.{AllByRecursion}
use Rattle.zr_msg.specs.declared.event.Event.{Event}
use Rattle.zr_port.specs.declared.entry.Entry.{Entry}
use Rattle.zr_router_queue.specs.History.{is_legal}
use Rattle.zr_router_queue.specs.Tables.{replay}
use Rattle.zr_world_spec.specs.World.{RouterState, router_of}
use Rattle.zr_world_spec.specs.Acts.{hub_of}
use Rattle.zr_world_spec.specs.Moments.{Numbered, ascends, Moment, reached}
use Rattle.zr_law_names.specs.Alike.{DoTheSame}
use Rattle.zr_law_running.specs.Runs.{Heard, part, hub_by, outcome_of}
use Rattle.zr_law_running.specs.Deeds.{deeds}
use Rattle.zr_law_running.specs.Allowed.{is_among, AreRouters, IsRun}
use Rattle.zr_law_running.specs.Laws.{AreHeardIn, IsMomentOf}

-- what a router hears of by its history
abbrev pub events_of : List Entry → List Event
events_of history = map (λ e. e.event) history

-- all that the event sends was queued: so the messages of the run are those that rings were given (Packing)
abbrev pub LeavesNothingOut : Entry → Type 0
LeavesNothingOut e = (e.dropped ≡ []) × (e.closed ≡ [])

-- The histories of several running routers make a run, which has their events in an order of real time: but for events without effect, under what names
-- clients come, and which trees they name.
pub record MakeARun (ids : List (List ℕ)) (history : List ℕ → List Entry) (run : List Heard) : Type 0 where
  pub legal : (x : List ℕ) → is_among ids x ≡ true → is_legal x (history x) ≡ true
  pub whole : (x : List ℕ) → is_among ids x ≡ true → AllByRecursion LeavesNothingOut (history x)
  pub heard : AreHeardIn ids (λ x. events_of (history x)) run
  pub fits : IsRun ids run

-- A router of the world that the run is of has its tables by its part of the run. By its history it does the same, and its tables are the replay's.
pub record IsRouterOf (history : List Entry) (run : List Heard) (m : Moment) (x : List ℕ) : Type 0 where
  pub router : RouterState
  pub is : router_of m.world.routers x ≡ Some router
  pub tables : hub_of router ≡ hub_by x (part run x)
  pub does : DoTheSame x (events_of history) (part run x)
  pub replayed : (replay x history).hub ≡ hub_by x (events_of history)

-- It is the run of a script's world, in which each router's tables are the replay of its own history.
abbrev pub RunningRoutersAreAWorld : Type 0
RunningRoutersAreAWorld = (ids : List (List ℕ)) (history : List ℕ → List Entry) (run : List Heard) → AreRouters ids → MakeARun ids history run →
    (acts : List Numbered) × (ascends 0 acts ≡ true) × (deeds acts ≡ (outcome_of run).deeds) × ((m : Moment) × (reached acts ≡ Some m) × IsMomentOf ids run m
    × ((x : List ℕ) → is_among ids x ≡ true → IsRouterOf (history x) run m x))
