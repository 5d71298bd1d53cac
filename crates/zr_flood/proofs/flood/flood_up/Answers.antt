use Rattle.std.proofs.lemmas.Result.{err_from_is_err_and, on_ok_weaker, on_err_weaker}
use Rattle.zr_lists.proofs.Prefixes.{first_prefix, second_prefix, both_said}
use Rattle.zr_node_spec.proofs.Told.{tells_list, tells_prefix}
use Rattle.zr_flood.proofs.Rows.{on_up}
use Rattle.zr_flood.proofs.flood.flood_up.Goals as goal

pub returns-in_err-tell_all-clause-err : goal.returns-in_err-tell_all-clause-err
returns-in_err-tell_all-clause-err c = λ node peer of is.
    let p = err_from_is_err_and c.from_residual.result c.from_residual.ensures.1 in
    rw p.1 (tells_prefix _ _ _ _ (on_up node c.args.links.now peer c.args.base.now of is c.args.up) (first_prefix _ _ _ _ c.in_err-tell_all.ensures.err))

pub returns-clause-ok : goal.returns-clause-ok
returns-clause-ok c = λ node peer of is.
    on_ok_weaker _ (λ e. tells_list _ _ _ _ (on_up node c.args.links.now peer c.args.base.now of is c.args.up) (both_said _ _ _ _ _ c.in_ok-tell_all.ensures.ok e)) c.tell_own.ensures.ok

pub returns-clause-err : goal.returns-clause-err
returns-clause-err c = λ node peer of is.
    on_err_weaker _ (λ h. tells_prefix _ _ _ _ (on_up node c.args.links.now peer c.args.base.now of is c.args.up) (second_prefix _ _ _ _ _ c.in_ok-tell_all.ensures.ok h)) c.tell_own.ensures.err
