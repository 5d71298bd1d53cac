use Rattle.zr_pend_spec.proofs.Sound.{finished_sound}
use Rattle.zr_pend_spec.proofs.Askers.{ended_of_rows}
use Rattle.zr_pend.proofs.pending.Pending.finish.Goals as goal

pub invariant_of-self : goal.invariant_of-self
invariant_of-self c =
    rw (c.take_for.ensures.others, c.finish-asker.ensures.rows, c.finish-asker.ensures.asker) (
      finished_sound _ _ c.self.invariant.0,
      ended_of_rows _ _ _ c.self.invariant.0 c.self.invariant.1,
    )
