use Rattle.zr_pend_numbers.specs.Numbers.{is_used}
use Rattle.zr_pend_numbers.proofs.InUse.{always_on_err, put_undone}
use Rattle.zr_pend_numbers.proofs.numbers.Numbers.put_all.Goals as goal

pub returns-then-is_err-clause-err : goal.returns-then-is_err-clause-err
returns-then-is_err-clause-err c =
    always_on_err c.put_each-done.result
    (put_undone c.args.branches.now c.args.self.now (λ b. is_used c.put_each-done.new.self b) (λ b. is_used c.take_all.new.self b) c.requires c.put_each-done.ensures.others c.take_all.ensures)
