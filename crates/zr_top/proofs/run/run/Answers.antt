use Rattle.zr_netrun.specs.Judged.{judged_lines}
use Rattle.zr_netrun.proofs.Telling.{of_read}
use Rattle.zr_top.proofs.Lines.{lines_refined}
use Rattle.zr_top.proofs.Branches.{net_reports_before_reads, unhindered}
use Rattle.zr_top.proofs.run.run.Goals as goal

-- what the lines that count have sent refines the one broker: their replies fit
pub returns-clause-headline : goal.returns-clause-headline
returns-clause-headline g c is_net =
    of_read _ _ _ _ (c.run_asked.ensures.read_part is_net) (λ read p to_end few. lines_refined c.lines_refine.ensures c.lines_fit.ensures c.lines_are_within.ensures to_end read few)

-- the lines that count lead to a moment, whichever they are
pub returns-clause-told : goal.returns-clause-told
returns-clause-told g c is_net = of_read _ _ _ _ (c.run_asked.ensures.read_part is_net) (λ read p to_end. (c.lines_are_moments.ensures (judged_lines to_end read)).1)

-- where nothing fails the run isn't hindered
pub returns-clause-complete : goal.returns-clause-complete
returns-clause-complete g c no_read no_out no_err no_host =
    let asked = c.run_asked.ensures in
    unhindered c.run_asked.result _ _ _ _ asked.read asked.write asked.host no_read no_out no_err no_host

-- what has ended was reported before each read
pub returns-clause-prompt : goal.returns-clause-prompt
returns-clause-prompt g c =
    let asked = c.run_asked.ensures in
    net_reports_before_reads _ _ _ _ c.run_asked.result _ _ _ _ _ _ _ _ asked.report asked.read_told asked.write_told.0 asked.out_later
