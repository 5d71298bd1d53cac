use Rattle.std.proofs.Common.{List, [], ◌∷◌, Err, sym, ap, ◌∙◌, subst}
use Rattle.std.proofs.lemmas.Result.{err_from_is_err_and}
use Rattle.zr_script_spec.specs.declared.report.ReportLine.{ReportLine}
use Rattle.zr_lists.specs.Prefix.{IsPrefixBehind}
use Rattle.zr_world_spec.specs.Next.{fan_step}
use Rattle.zr_world.specs.Living.{lines_of}
use Rattle.zr_world.specs.State.{state_of}
use Rattle.zr_world.proofs.Fanning.{fan_goes}
use Rattle.zr_world.proofs.Moving.{applied, ran_out, no_lines}
use Rattle.zr_world.proofs.tables.WorldTables.tell_fan.Goals as goal

pub returns-in_err-told-clause-applies : goal.returns-in_err-told-clause-applies
returns-in_err-told-clause-applies g c =
    let w = state_of c.args.self.now in
    let said = fan_step w c.args.line in
    let p = err_from_is_err_and c.from_residual.result c.from_residual.ensures.1 in
    ran_out c.from_residual.result said w _ c.args.report.now.items c.args.report.now.items (p.1 ∙ ap Err p.2) (no_lines c.args.report.now.items (lines_of said))

pub returns-in_err-push-clause-applies : goal.returns-in_err-push-clause-applies
returns-in_err-push-clause-applies g c =
    let w = state_of c.args.self.now in
    let lines = lines_of (fan_step w c.args.line) in
    let p = err_from_is_err_and c.from_residual-in_err-push.result c.from_residual-in_err-push.ensures.1 in
    ran_out c.from_residual-in_err-push.result (fan_step w c.args.line) w _ c.args.report.now.items c.push.new.self.items (p.1 ∙ ap Err p.2)
    (subst (λ (z : List ReportLine). IsPrefixBehind c.args.report.now.items lines z) (sym c.in_err-push.ensures.items) (no_lines c.args.report.now.items lines))

pub returns-clause-applies : goal.returns-clause-applies
returns-clause-applies g c =
    let w = state_of c.args.self.now in
    applied (fan_step w c.args.line) (c.in_ok-told.told ∷ []) w _ c.args.report.now.items c.push.new.self.items (fan_goes w _ c.args.line c.in_ok-told.told c.requires.judged c.in_ok-told.ensures)
    c.in_ok-push.ensures.items
