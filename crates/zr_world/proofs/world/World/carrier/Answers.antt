use Rattle.std.proofs.Common.{ap, subst}
use Rattle.zr_world_ends.specs.Carried.{AreOnWires}
use Rattle.zr_world.specs.Living.{Living}
use Rattle.zr_world.proofs.world.World.carrier.Goals as goal

pub returns : goal.returns
returns g c = subst (λ (l : Living). AreOnWires (g.C.Carrier.wire c.carrier.result.now) l.state.ends) c.self.view_is c.carrier.ensures
