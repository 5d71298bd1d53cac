-- The laws of settled runs (`runs_settle_as_worlds`, `settled_runs_have_phases`).
use Rattle.zr_law_running.proofs.Phases.{runs_have_phases}
use Rattle.zr_law_joined.specs.Laws.{RunsSettleAsWorlds, SettledRunsHavePhases}
use Rattle.zr_law_joined.proofs.Settled.{settled_are, joined_are}

pub runs_settle_as_worlds : RunsSettleAsWorlds
runs_settle_as_worlds ids run acts m is h =
    let settled = settled_are ids run m h acts is in record { settled = settled; joined = λ a. joined_are ids run m h acts is (settled.0 a) }

pub settled_runs_have_phases : SettledRunsHavePhases
settled_runs_have_phases ids run more routers is calm =
    let all = runs_have_phases ids run more routers is calm in
    let alike = runs_settle_as_worlds ids run all.0 all.2.0 all.2.1 all.2.2 in
    (all.0, all.1, (all.2.0, all.2.1, all.2.2, λ settled joined. all.2.3 (alike.settled.0 settled) ((alike.joined settled).0 joined)))
