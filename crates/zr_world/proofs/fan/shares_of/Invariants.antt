use Rattle.zr_world.proofs.Fanning.{AreTaking}
use Rattle.zr_world.proofs.fan.shares_of.Given as goal

abbrev pub invariant-loop-name : goal.invariant-loop-name
invariant-loop-name l = AreTaking l.fn.routers.entries l.name-iterator l.shares.items l.weights.items
