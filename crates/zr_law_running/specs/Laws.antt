-- What holds of each run of several routers.
use Rattle.std.specs.Prelude.{◌≡◌, ℕ, not, Bool, true, false, List, [], ◌∷◌, ◌++◌, map, Option, Some, None}
use Rattle.std.specs.List.{list_all}
use Rattle.zr_msg.specs.declared.event.Event.{Event}
use Rattle.zr_msg.specs.declared.event.Event.TheVariants.{Up, Down, From}
use Rattle.zr_msg.specs.declared.msg.Msg.{Msg}
use Rattle.zr_script_spec.specs.declared.command.Act.TheVariants.{Mark}
use Rattle.zr_world_spec.specs.World.{RouterState, EndState, router_of, client_of, end_of, is_unbroken, unsettles, is_settled, wire_at}
use Rattle.zr_world_spec.specs.Joined.{is_joined}
use Rattle.zr_world_spec.specs.Acts.{hub_of}
use Rattle.zr_world_spec.specs.Moments.{Numbered, ascends, Moment, reached}
use Rattle.zr_guarantee.specs.Latest.{LatestFit}
use Rattle.zr_guarantee.specs.Phase.{is_phase}
use Rattle.zr_guarantee.specs.Refines.{Delivers, PhasesDeliver, Refines, PhasesRefine}
use Rattle.zr_guarantee.specs.Sent.{told_to}
use Rattle.zr_told_spec.specs.Hub.{new_hub}
use Rattle.zr_law_names.specs.Alike.{AreAs, DoTheSame}
use Rattle.zr_law_running.specs.Runs.{Heard, part, hub_by, outcome_of}
use Rattle.zr_law_running.specs.Deeds.{deeds}
use Rattle.zr_law_running.specs.Allowed.{is_among, AreRouters, IsRun}

-- what waits at an end, in the router's queue and on the wire to it
abbrev pub queue_at : Option EndState → List Msg
queue_at None = []
queue_at (Some s) = map (λ t. t.msg) s.queue

-- A moment of a script's world is that of a run: each router has come to its tables by its part alone, its clients are those of the run, the queue of
-- each end has just what was queued there and not yet heard of, nothing is on a wire, the same links are unbroken, and each client was sent all that was
-- queued for it.
pub record IsMomentOf (ids : List (List ℕ)) (run : List Heard) (m : Moment) : Type 0 where
  pub routers : (x : List ℕ) → is_among ids x ≡ true → (r : RouterState) × (router_of m.world.routers x ≡ Some r) × (hub_of r ≡ hub_by x (part run x))
  pub no_other : (x : List ℕ) → is_among ids x ≡ false → router_of m.world.routers x ≡ None
  pub clients : (c : List ℕ) → client_of m.world.clients c ≡ (outcome_of run).clients c
  pub queues : (x y : List ℕ) → queue_at (end_of m.world.ends (x, y)) ≡ ((outcome_of run).links (x, y)).waits
  pub wires : (x y : List ℕ) → wire_at (end_of m.world.ends (x, y)) ≡ []
  pub links : (x y : List ℕ) → is_unbroken m.world.ends (x, y) ≡ ((outcome_of run).links (x, y)).whole
  pub sent : (c : List ℕ) → is_among ids c ≡ false → map (λ t. t.msg) (told_to m.report c) ≡ (outcome_of run).sent c

-- What routers have heard of is a run, but for events without effect, the names of clients, what their links weigh, and the trees that they name. So each
-- coming of a client may have a name of its own in the run, and a sample or a query that names a tree counts as the one that names none.
abbrev pub AreHeardIn : List (List ℕ) → (List ℕ → List Event) → List Heard → Type 0
AreHeardIn ids heard run = (x : List ℕ) → is_among ids x ≡ true → AreAs (new_hub x) (heard x) (part run x)

-- Where it is, it is the run of a script's world: there are acts, all accepted, that lead to the run's moment, and by them clients do just what they do in
-- the run. And each router does by what it heard just what it does in the run, event by event.
abbrev pub RunsAreOfAWorld : Type 0
RunsAreOfAWorld = (ids : List (List ℕ)) (heard : List ℕ → List Event) (run : List Heard) → AreRouters ids → AreHeardIn ids heard run → IsRun ids run →
    (acts : List Numbered) × (ascends 0 acts ≡ true) × (deeds acts ≡ (outcome_of run).deeds) × ((m : Moment) × (reached acts ≡ Some m) × IsMomentOf ids run m)
    × ((x : List ℕ) → is_among ids x ≡ true → DoTheSame x (heard x) (part run x))

-- ---- phases

-- an event after which routers, links and declarations are as before
abbrev pub leaves : Event → Bool
leaves (Up link peer) = false
leaves (Down link) = false
leaves (From link msg) = not (unsettles msg)

-- A phase of a script's world, behind the acts that lead to the moment of a run, leads on to the moment of all the run. So by the laws of phases samples and
-- requests come as one broker sends them, and each query is answered as it answers it.
pub record IsPhaseOf (ids : List (List ℕ)) (all : List Heard) (before : List Numbered) : Type 0 where
  pub mark : ℕ
  pub phase : List Numbered
  pub then : Moment
  pub ascend : ascends 0 (before ++ (mark, Mark) ∷ phase) ≡ true
  pub stays : is_phase phase ≡ true
  pub is_reached : reached (before ++ (mark, Mark) ∷ phase) ≡ Some then
  pub is : IsMomentOf ids all then
  pub deeds_are : deeds (before ++ (mark, Mark) ∷ phase) ≡ (outcome_of all).deeds
  pub delivers : PhasesDeliver → Delivers before mark phase then
  pub refines : PhasesRefine → LatestFit (before ++ phase) → Refines before mark phase then

-- Where the world that a run has come to is settled and its routers are joined, all that follows without a change of links or declarations is a phase.
abbrev pub RunsHavePhases : Type 0
RunsHavePhases = (ids : List (List ℕ)) (run more : List Heard) → AreRouters ids → IsRun ids (run ++ more) → list_all (λ h. leaves h.event) more ≡ true →
    (before : List Numbered) × (deeds before ≡ (outcome_of run).deeds) × ((m : Moment) × (reached before ≡ Some m) × IsMomentOf ids run m
    × (is_settled m.world ≡ true → is_joined m.world ≡ true → IsPhaseOf ids (run ++ more) before))
