use Rattle.zr_law_histories.proofs.Histories as law
use Rattle.zr_law_histories.proofs.running_routers_are_a_world.Goals as goal

pub returns : goal.returns
returns c = law.running_routers_are_a_world
