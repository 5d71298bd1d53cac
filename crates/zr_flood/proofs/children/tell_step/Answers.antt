use Rattle.std.proofs.lemmas.Result.{err_from_is_err_and}
use Rattle.zr_lists.proofs.Prefixes.{nothing_said}
use Rattle.zr_flood.proofs.children.tell_step.Goals as goal

pub returns-in_err-copy-clause-err : goal.returns-in_err-copy-clause-err
returns-in_err-copy-clause-err c =
    let p = err_from_is_err_and c.from_residual.result c.from_residual.ensures.1 in
    rw p.1 (nothing_said _ _)

pub returns-in_err-decl-clause-err : goal.returns-in_err-decl-clause-err
returns-in_err-decl-clause-err c =
    let p = err_from_is_err_and c.from_residual-in_err-decl.result c.from_residual-in_err-decl.ensures.1 in
    rw p.1 (nothing_said _ _)

pub returns-clause-ok : goal.returns-clause-ok
returns-clause-ok c = rw (c.in_ok-decl.ensures, c.in_ok-copy.ensures) at c.hand_out.ensures.ok

pub returns-clause-err : goal.returns-clause-err
returns-clause-err c = rw (c.in_ok-decl.ensures, c.in_ok-copy.ensures) at c.hand_out.ensures.err
