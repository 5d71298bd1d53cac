use Rattle.zr_bytes.proofs.Fronts.{keeps_more}
use Rattle.zr_script.proofs.message.put_reply.Goals as goal

pub returns-clause-err : goal.returns-clause-err
returns-clause-err c =
    keeps_more _ _ _ _ _ c.in_ok-put_under.ensures.ok
    (keeps_more _ _ _ _ _ c.in_ok-extend_from_slice.ensures.items (keeps_more _ _ _ _ _ c.in_ok-put_content.ensures.ok c.put_time.ensures.err))
