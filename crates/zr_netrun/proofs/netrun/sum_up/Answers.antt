use Rattle.std.proofs.Common.{◌≡◌, false, Option, refl, ap, ◌∙◌, subst}
use Rattle.zr_netrun_report.specs.declared.counts.Counts.{Counts}
use Rattle.zr_netrun_lines.specs.Kept.{Kept, writes}
use Rattle.zr_netrun.specs.Counted.{TellsSummary}
use Rattle.zr_netrun.proofs.Summing.{summed, not_summed}
use Rattle.zr_outside.proofs.Counting.{rose_not}
use Rattle.zr_netrun.proofs.netrun.sum_up.Goals as goal

pub returns-in-Done-clause-summed_up : goal.returns-in-Done-clause-summed_up
returns-in-Done-clause-summed_up g c =
    let counting : writes c.run_lines.new.runner ≡ false = c.in-Done.ensures.mode refl ∙ ap (λ (z : Kept). writes z) c.new-runner.ensures in
    let told = subst (λ (o : Option Counts). TellsSummary c.tell_summary.result o (g.K.Sink.held c.args.out.now) (g.K.Sink.held c.tell_summary.new.out)) c.counts.ensures c.tell_summary.ensures.tells in
    summed c.args.options.explain _ _ _ c.run_lines.new.runner _ _ _ _ _ _ c.tell_summary.result counting c.in-Done.ensures.report told

pub returns-clause-summed_up : goal.returns-clause-summed_up
returns-clause-summed_up g c = not_summed c.args.options.explain _ _ _ c.run_lines.new.runner _ _ _ _ _ _ c.run_lines.result c.in_default.not-Done refl c.run_lines.ensures.report

pub returns-in-Done-clause-only_write : goal.returns-in-Done-clause-only_write
returns-in-Done-clause-only_write g c = (
  c.tell_summary.ensures.only_write,
  λ rose.
      let told = c.in-Done.ensures.only_write.1 rose in
      absurd (cc),
)

pub returns-clause-only_write : goal.returns-clause-only_write
returns-clause-only_write g c = (λ rose. rose_not _ _ refl rose, c.run_lines.ensures.only_write.1)
