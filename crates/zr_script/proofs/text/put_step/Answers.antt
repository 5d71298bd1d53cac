use Rattle.zr_bytes.proofs.Fronts.{keeps_more}
use Rattle.zr_script.proofs.text.put_step.Goals as goal

pub returns-clause-err : goal.returns-clause-err
returns-clause-err c =
    keeps_more _ _ _ _ _ c.in_ok-put_ends.ensures.ok (keeps_more _ _ _ _ _ c.in_ok-put_msg.ensures.ok c.put_tag.ensures.err)
