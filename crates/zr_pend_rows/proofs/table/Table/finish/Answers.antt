use Rattle.std.proofs.Common.{◌&&◌, not, ap, ◌∙◌}
use Rattle.std.specs.Map.{values_of}
use Rattle.zr_pend_numbers.specs.Numbers.{is_used}
use Rattle.zr_pend_spec.proofs.Sound.{finished_sound}
use Rattle.zr_pend_rows.proofs.OnLinks.{pending_finished}
use Rattle.zr_pend_rows.proofs.Asking.{asked_finished, is_who}
use Rattle.zr_pend_rows.proofs.table.Table.finish.Goals as goal

pub invariant_of-self : goal.invariant_of-self
invariant_of-self c =
    rw c.finish-asker.ensures.rows (
      finished_sound _ _ c.self.invariant.0,
      pending_finished c.self.inside.pending c.take.new.self (values_of c.self.inside.rows.entries) c.args.branch c.take.ensures c.self.invariant.1,
      asked_finished c.self.inside.asked c.take_asker.new.asked (values_of c.self.inside.rows.entries) c.args.branch c.self.invariant.0
          (λ b. c.take_asker.ensures b ∙ ap (λ o. not (is_who b o) && is_used c.self.inside.asked b) c.finish-asker.ensures.asker) c.self.invariant.2,
    )
