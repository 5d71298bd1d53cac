use Rattle.zr_pend_numbers.proofs.InUse.{always_on_err}
use Rattle.zr_pend_rows.proofs.Asking.{taken_back}
use Rattle.zr_pend_rows.proofs.askers.enter.Goals as goal

pub returns-then-is_err-clause-not_asked : goal.returns-then-is_err-clause-not_asked
returns-then-is_err-clause-not_asked c =
    always_on_err c.put_all-done.result
    (taken_back c.args.asked.now c.put.new.self c.take.new.self c.as_branch-own.result (rw c.as_branch-own.ensures c.requires.fresh) c.in_ok-put.ensures.ok c.take.ensures)
