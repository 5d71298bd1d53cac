use Rattle.zr_pend_spec.specs.Held.{held_if}
use Rattle.zr_pend_spec.proofs.Askers.{held_of_rows}
use Rattle.zr_pend.proofs.pending.Pending.hold.Goals as goal

pub invariant_of-self : goal.invariant_of-self
invariant_of-self c = (
  c.self.invariant.0,
  held_of_rows c.self.inside.rows c.self.inside.gatherings _ c.hold_for.result _ (λ replies. held_if (λ o. c.args.later) replies c.args.reply.now) c.hold_for.ensures.held c.hold_for.ensures.err c.self.invariant.1,
)
