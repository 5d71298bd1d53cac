-- While it is read: what was kept is the run of what was read, all of its report was written, and the counts tell what happened.
use Rattle.std.proofs.Common.{◌≡◌, ◌-◌, ◌≤◌, false, length}
use Rattle.zr_netrun_lines.specs.Kept.{fresh, seen, writes}
use Rattle.zr_netrun_lines.specs.Possible.{StepsGo}
use Rattle.zr_netrun.specs.Clauses.{OfRead}
use Rattle.zr_netrun.proofs.Reading.{IsAfter}
use Rattle.zr_netrun.proofs.netrun.run_lines.Given as goal

abbrev pub invariant-reading : goal.invariant-reading
invariant-reading g l = record {
  lines : l.runner.number ≤ l.total;
  mode : writes l.runner ≡ writes l.fn.runner;
  alive : l.runner.world.spent ≡ false;
  goes : StepsGo (fresh l.runner);
  most : l.total ≤ 67108864;
  sized : length l.piece ≡ 65536;
  quiets : g.S.Source.quiets l.fn.input ≤ g.S.Source.quiets l.input;
  ends : g.S.Source.ends l.fn.input ≤ g.S.Source.ends l.input;
  input : g.S.Source.faults l.input ≡ g.S.Source.faults l.fn.input;
  out : g.K.Sink.faults l.out ≡ g.K.Sink.faults l.fn.out;
  err : g.E.Sink.faults l.err ≡ g.E.Sink.faults l.fn.err;
  err_same : g.E.Sink.held l.err ≡ g.E.Sink.held l.fn.err;
  read : OfRead (g.S.Source.left l.fn.input) (g.S.Source.left l.input) (IsAfter l.runner l.total (seen (writes l.fn.runner) (g.K.Sink.held l.fn.out)) (seen (writes l.fn.runner) (g.K.Sink.held l.out)));
}

abbrev pub decreases-reading : goal.decreases-reading
decreases-reading g l = 67108864 - l.total
