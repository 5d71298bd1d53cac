-- What is kept is the run's of the lines so far, which the lines that are left lead to the same end as all of them.
use Rattle.std.proofs.Common.{◌≡◌, ◌+◌, ◌≤◌, false, ◌++◌, length}
use Rattle.std.specs.List.{fold}
use Rattle.zr_script_spec.specs.Lines.{ended_lines, open_line}
use Rattle.zr_world_spec.specs.Run.{Run, on_line}
use Rattle.zr_world_spec.specs.Accepted.{accepted_from}
use Rattle.zr_netrun_lines.specs.Kept.{fresh, seen, writes, IsAt, refused_line}
use Rattle.zr_netrun_lines.specs.Possible.{StepsGo}
use Rattle.zr_netrun_lines.specs.Counted.{CountsAhead}
use Rattle.zr_netrun_lines.proofs.Lines.{IsOpen}
use Rattle.zr_netrun_lines.proofs.runner.Runner.feed_lines.Given as goal

abbrev pub invariant-loop-place : goal.invariant-loop-place
invariant-loop-place g l = record {
  alive : l.self.world.spent ≡ false;
  goes : StepsGo (fresh l.self);
  is_open : IsOpen l.self.line;
  count : l.self.number + length l.rest ≤ l.fn.self.number + length l.fn.piece;
  later : g.K.Sink.faults l.fn.out ≤ g.K.Sink.faults l.out;
  quiet : g.K.Sink.faults l.out ≡ g.K.Sink.faults l.fn.out;
  counted : CountsAhead l.fn.self (accepted_from (fresh l.fn.self) (ended_lines (l.fn.self.line ++ l.fn.piece))) (accepted_from (fresh l.self) (ended_lines (l.self.line ++ l.rest))) l.self;
  refused : refused_line (fresh l.self) (ended_lines (l.self.line ++ l.rest)) ≡ refused_line (fresh l.fn.self) (ended_lines (l.fn.self.line ++ l.fn.piece));
  at : (run : Run) × IsAt run l.self.line l.fn.self.pending l.self (seen (writes l.fn.self) (g.K.Sink.held l.fn.out)) (seen (writes l.fn.self) (g.K.Sink.held l.out))
      × (fold on_line run (ended_lines (l.self.line ++ l.rest)) ≡ fold on_line (fresh l.fn.self) (ended_lines (l.fn.self.line ++ l.fn.piece)))
      × (open_line (l.self.line ++ l.rest) ≡ open_line (l.fn.self.line ++ l.fn.piece));
}

abbrev pub decreases-loop-place : goal.decreases-loop-place
decreases-loop-place g l = length l.rest
