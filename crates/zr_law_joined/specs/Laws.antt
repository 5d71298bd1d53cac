-- A run is settled and joined where the script's world is that it is of.
use Rattle.std.specs.Prelude.{◌≡◌, ℕ, true, List, ◌++◌, Some}
use Rattle.std.specs.List.{list_all}
use Rattle.zr_world_spec.specs.World.{is_settled}
use Rattle.zr_world_spec.specs.Joined.{is_joined}
use Rattle.zr_world_spec.specs.Moments.{Numbered, Moment, reached}
use Rattle.zr_law_running.specs.Runs.{Heard, outcome_of}
use Rattle.zr_law_running.specs.Deeds.{deeds}
use Rattle.zr_law_running.specs.Allowed.{AreRouters, IsRun}
use Rattle.zr_law_running.specs.Laws.{IsMomentOf, leaves, IsPhaseOf}
use Rattle.zr_law_joined.specs.Settled.{AreSettled, AreJoined}

-- one holds just where the other does
abbrev pub Alike : Type 0 → Type 0 → Type 0
Alike A B = (A → B) × (B → A)

pub record SettlesAs (ids : List (List ℕ)) (run : List Heard) (m : Moment) : Type 0 where
  pub settled : Alike (AreSettled ids run) (is_settled m.world ≡ true)
  pub joined : AreSettled ids run → Alike (AreJoined ids run) (is_joined m.world ≡ true)

-- at each moment of a script's world that is that of a run
abbrev pub RunsSettleAsWorlds : Type 0
RunsSettleAsWorlds = (ids : List (List ℕ)) (run : List Heard) (acts : List Numbered) (m : Moment) → reached acts ≡ Some m → IsMomentOf ids run m → SettlesAs ids run m

-- Where a run is settled and its routers are joined, all that follows without a change of links or declarations is a phase.
abbrev pub SettledRunsHavePhases : Type 0
SettledRunsHavePhases = (ids : List (List ℕ)) (run more : List Heard) → AreRouters ids → IsRun ids (run ++ more) → list_all (λ h. leaves h.event) more ≡ true →
    (before : List Numbered) × (deeds before ≡ (outcome_of run).deeds) × ((m : Moment) × (reached before ≡ Some m) × IsMomentOf ids run m
    × (AreSettled ids run → AreJoined ids run → IsPhaseOf ids (run ++ more) before))
