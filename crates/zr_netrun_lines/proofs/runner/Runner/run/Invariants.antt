-- What is kept is the world of the run so far, of which so many steps are done.
use Rattle.std.proofs.Common.{◌≡◌, ◌+◌, ◌-◌, ◌≤◌, false}
use Rattle.zr_script_spec.specs.declared.command.Command.TheVariants as c
use Rattle.zr_world_spec.specs.World.{most_steps}
use Rattle.zr_netrun_lines.specs.Kept.{seen, writes}
use Rattle.zr_netrun_lines.specs.Counted.{acts_by, CountsAhead}
use Rattle.zr_netrun_lines.proofs.Counting.{steps_left}
use Rattle.zr_netrun_lines.proofs.Stepping.{IsRunning}
use Rattle.zr_netrun_lines.proofs.runner.Runner.run.Given as goal

abbrev pub invariant-loop-done : goal.invariant-loop-done
invariant-loop-done g l = record {
  alive : l.self.world.spent ≡ false;
  number : l.self.number ≡ l.fn.self.number;
  room : l.self.world.applied + (l.fn.steps - l.done) ≤ l.self.number + l.self.world.state.booked;
  booked : l.self.world.state.booked ≤ most_steps;
  later : g.K.Sink.faults l.fn.out ≤ g.K.Sink.faults l.out;
  quiet : g.K.Sink.faults l.out ≡ g.K.Sink.faults l.fn.out;
  counted : CountsAhead l.fn.self (acts_by l.fn.self (c.Run l.fn.steps)) (steps_left l.fn.self (l.fn.steps - l.done) l.self.world.state) l.self;
  running : IsRunning l.fn.self l.fn.steps l.done l.self (seen (writes l.fn.self) (g.K.Sink.held l.fn.out)) (seen (writes l.fn.self) (g.K.Sink.held l.out));
}
