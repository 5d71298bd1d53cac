use Rattle.std.proofs.Common.{Option, refl, ap, sym, ◌∙◌, arith}
use Rattle.std.specs.List.{filter_map}
use Rattle.zr_script_spec.specs.declared.report.ReportLine.{ReportLine}
use Rattle.zr_guarantee.specs.Sent.{Told, told_in}
use Rattle.zr_tests_judge.proofs.Loops.{gathered_all, one_brought, none_brought}
use Rattle.zr_tests_judge.proofs.sent.told_to.Goals.{in-Some+in_ok-push, in_default}
use Rattle.zr_tests_judge.proofs.sent.told_to.Goals as goal

pub loop-x-preserved : goal.loop-x-preserved
loop-x-preserved c =
    let bring : ReportLine → Option Told = told_in c.args.receiver.now in
    elim c.match-told_in.branch [
      | in-Some+in_ok-push w ↦
          one_brought bring c.args.report.now c.loop-x.x-index c.x-item.result c.loop-x-test.true c.x-item.is c.loop-x.told.items _ _ c.loop-x.invariant w.in-Some.t (sym c.told_in.ensures ∙ w.in-Some.is) (ap (λ v. v.items) w.told-is ∙ w.in_ok-push.ensures.items)
      | in_default w ↦
          none_brought bring c.args.report.now c.loop-x.x-index c.x-item.result c.loop-x-test.true c.x-item.is c.loop-x.told.items _ _ c.loop-x.invariant (sym c.told_in.ensures ∙ w.in_default.is) (ap (λ v. v.items) w.told-is)
    ]

pub returns : goal.returns
returns c =
    let bring : ReportLine → Option Told = told_in c.args.receiver.now in
    gathered_all (filter_map bring) refl c.args.report.now c.loop-x.x-index (omega arith) c.loop-x.told.items _ c.loop-x.invariant
