use Rattle.std.proofs.Common.{◌≡◌, refl}
use Rattle.zr_script_spec.specs.declared.error.ScriptError.TheVariants.{Limit}
use Rattle.zr_world_spec.specs.Next.{fan_step}
use Rattle.zr_world.specs.State.{state_of}
use Rattle.zr_world.proofs.Fanning.{no_limit}
use Rattle.zr_world.proofs.Moving.{refused}
use Rattle.zr_world.proofs.tables.WorldTables.fan.Goals as goal

pub returns-in-Err-clause-applies : goal.returns-in-Err-clause-applies
returns-in-Err-clause-applies g c =
    let w = state_of c.args.self.now in
    refused c.in-Err.refusal (fan_step w c.args.line) w w c.args.report.now.items (c.in-Err.ensures.0 c.args.line) refl

pub returns-in-Err-clause-limits : goal.returns-in-Err-clause-limits
returns-in-Err-clause-limits g c = λ limit. let same : c.in-Err.refusal ≡ Limit = cc in c.in-Err.ensures.1 same

pub returns-in-Ok-clause-limits : goal.returns-in-Ok-clause-limits
returns-in-Ok-clause-limits g c = λ limit. absurd (no_limit c.tell_fan.result c.tell_fan.ensures.memory limit)
