-- Where a read failed what had ended was reported, with a summary as without.
use Rattle.zr_netrun.proofs.Asked.{reports_before_reads, writes_report, writes_summary}
use Rattle.zr_netrun.proofs.netrun.run_script_over.Goals as goal

pub returns-then-options-clause-prompt : goal.returns-then-options-clause-prompt
returns-then-options-clause-prompt g c =
    let told = c.sum_up.ensures in
    reports_before_reads c.args.options _ _ _ c.sum_up.result _ _ _ _ _ _ _ _
    (writes_summary c.args.options _ _ _ c.sum_up.result _ _ _ _ c.if-options.true told.summed_up) told.only told.only_write.0 told.ends.out_later

pub returns-clause-prompt : goal.returns-clause-prompt
returns-clause-prompt g c =
    let told = c.run_lines.ensures in
    reports_before_reads c.args.options _ _ _ c.run_lines.result _ _ _ _ _ _ _ _
    (writes_report c.args.options _ _ _ c.run_lines.result _ _ _ _ c.new-runner.result c.run_lines.new.runner c.if-options.false c.new-runner.ensures told.report)
    told.only told.only_write.0 told.ends.out_later
