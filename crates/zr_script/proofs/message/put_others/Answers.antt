use Rattle.zr_bytes.proofs.Fronts.{front_kept}
use Rattle.zr_script.proofs.Fronts.{anyway, kept_twice}
use Rattle.zr_script.proofs.message.put_others.Goals as goal

pub returns-in_err-put_link-clause-err : goal.returns-in_err-put_link-clause-err
returns-in_err-put_link-clause-err c =
    anyway _ (kept_twice _ _ _ c.loop-link.invariant.front (front_kept _ _ _ _ c.in_ok-extend_from_slice.ensures.items c.in_err-put_link.ensures.err))
