use Rattle.std.proofs.Common.{Err, ap, ◌∙◌}
use Rattle.std.proofs.lemmas.Result.{err_from_is_err_and}
use Rattle.zr_world_spec.specs.Acts.{mark_step}
use Rattle.zr_world.specs.Living.{lines_of}
use Rattle.zr_world.specs.State.{state_of}
use Rattle.zr_world.proofs.Moving.{ran_out, no_lines}
use Rattle.zr_world.proofs.tables.WorldTables.mark.Goals as goal

pub returns-in_err-push : goal.returns-in_err-push
returns-in_err-push g c =
    let w = state_of c.args.self.now in
    let p = err_from_is_err_and c.from_residual-in_err-push.result c.from_residual-in_err-push.ensures.1 in
    ran_out c.from_residual-in_err-push.result (mark_step w c.args.line) w _ c.args.report.now.items c.push.new.self.items (p.1 ∙ ap Err p.2)
    (rw c.in_err-push.ensures.items (no_lines c.args.report.now.items (lines_of (mark_step w c.args.line))))
