use Rattle.zr_bytes.proofs.Fronts.{keeps_more}
use Rattle.zr_script.proofs.message.put_told.Goals as goal

pub returns-clause-err : goal.returns-clause-err
returns-clause-err c =
    keeps_more _ _ _ _ _ c.in_ok-put_declared.ensures.ok (keeps_more _ _ _ _ _ c.in_ok-extend_from_slice.ensures.items c.put_interest.ensures.err)
