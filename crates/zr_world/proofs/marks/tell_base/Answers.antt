use Rattle.std.proofs.lemmas.Result.{on_ok_weaker, on_err_weaker}
use Rattle.zr_lists.proofs.Prefixes.{first_prefix, second_prefix, both_said}
use Rattle.zr_world.proofs.Show.{err_by}
use Rattle.zr_world.proofs.marks.tell_base.Goals as goal

pub returns-in_err-tell_records-clause-err : goal.returns-in_err-tell_records-clause-err
returns-in_err-tell_records-clause-err c = err_by c.from_residual.result
    (first_prefix _ _ _ _ (rw c.records.ensures.value at c.in_err-tell_records.ensures.err))

pub returns-clause-told : goal.returns-clause-told
returns-clause-told c = on_ok_weaker c.tell_parents.result
    (λ f. both_said _ _ _ _ _ (rw c.records.ensures.value at c.in_ok-tell_records.ensures.told) f) c.tell_parents.ensures.told

pub returns-clause-err : goal.returns-clause-err
returns-clause-err c = on_err_weaker c.tell_parents.result
    (λ h. second_prefix _ _ _ _ _ (rw c.records.ensures.value at c.in_ok-tell_records.ensures.told) h) c.tell_parents.ensures.err
