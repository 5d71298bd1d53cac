use Rattle.zr_world.specs.State.{state_of}
use Rattle.zr_world.proofs.Possible.{counted_reached, reached_led}
use Rattle.zr_world.proofs.world.World.book.Goals as goal

pub invariant_of-self : goal.invariant_of-self
invariant_of-self g c = λ alive. counted_reached c.book.result (state_of c.self.inside.tables) (state_of c.book.new.self) c.self.inside.applied c.args.steps c.book.ensures (c.self.invariant alive)

pub returns-clause-sound : goal.returns-clause-sound
returns-clause-sound g c = λ alive.
    (reached_led (state_of c.book.new.self) c.self.inside.applied
    (counted_reached c.book.result (state_of c.self.inside.tables) (state_of c.book.new.self) c.self.inside.applied c.args.steps c.book.ensures (c.self.invariant alive))).sound
