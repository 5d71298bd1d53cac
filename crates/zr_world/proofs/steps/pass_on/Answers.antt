use Rattle.zr_world_spec.specs.World.{sent}
use Rattle.zr_world.proofs.Passing.{changed_nowhere}
use Rattle.zr_world.proofs.steps.pass_on.Goals as goal

pub returns : goal.returns
returns g c = changed_nowhere c.args.ends.now c.args.at (λ s. sent s c.args.msg.now c.args.tag) (c.requires.client c.if-is_router.false)
