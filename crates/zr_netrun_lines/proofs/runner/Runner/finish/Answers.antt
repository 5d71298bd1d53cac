use Rattle.std.proofs.Common.{refl}
use Rattle.zr_netrun_lines.specs.Kept.{writes}
use Rattle.zr_netrun_lines.proofs.Writing.{flush_after}
use Rattle.zr_netrun_lines.proofs.Counting.{flush_counts}
use Rattle.zr_netrun_lines.proofs.Refusing.{write_fault_keeps}
use Rattle.zr_outside.proofs.Counting.{only_behind, only_stopped}
use Rattle.zr_netrun_lines.specs.declared.runner.RunStop.TheVariants as stop
use Rattle.zr_netrun_lines.proofs.runner.Runner.finish.Goals as goal

pub returns-clause-turn : goal.returns-clause-turn
returns-clause-turn g c = flush_after (writes c.args.self.now) _ _ _ c.end_last_line.new.self c.flush.new.self _ _ _ c.flush.result c.in_ok-end_last_line.ensures.turn c.flush.ensures.written c.flush.ensures.ok c.flush.ensures.err

pub returns-clause-counts : goal.returns-clause-counts
returns-clause-counts g c = flush_counts _ c.end_last_line.new.self c.flush.new.self _ c.flush.result c.flush.ensures.written c.in_ok-end_last_line.ensures.counts

pub returns-clause-refused : goal.returns-clause-refused
returns-clause-refused g c = write_fault_keeps c.flush.result _ c.flush.new.self _ c.flush.ensures.err

pub returns-in_err-end_last_line-clause-only : goal.returns-in_err-end_last_line-clause-only
returns-in_err-end_last_line-clause-only g c = only_stopped stop.WriteFault c.from_residual.result c.in_err-end_last_line.field-0.0 _ _ _ c.from_residual.ensures.1 refl c.in_err-end_last_line.ensures.only

pub returns-clause-only : goal.returns-clause-only
returns-clause-only g c = only_behind stop.WriteFault c.flush.result _ _ _ c.in_ok-end_last_line.ensures.only c.flush.ensures.only
