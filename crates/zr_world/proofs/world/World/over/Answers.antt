use Rattle.std.proofs.Common.{sym, subst}
use Rattle.zr_world_spec.specs.World.{WorldState}
use Rattle.zr_law_calls.specs.Reached.{IsFitReached}
use Rattle.zr_law_calls.proofs.Reached.{reached_first}
use Rattle.zr_world.proofs.world.World.over.Goals as goal

pub invariant_of-result : goal.invariant_of-result
invariant_of-result g c = λ alive. subst (λ (w : WorldState). IsFitReached w 0) (sym c.new.ensures) reached_first
