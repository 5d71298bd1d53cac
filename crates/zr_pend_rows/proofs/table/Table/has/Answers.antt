use Rattle.std.proofs.Common.{ap, ◌∙◌}
use Rattle.zr_pend_spec.specs.Pending.{is_pending}
use Rattle.zr_pend_rows.proofs.table.Table.has.Goals as goal

pub returns : goal.returns
returns c = c.has.ensures ∙ c.self.invariant.1 c.args.branch ∙ ap (λ rs. is_pending c.args.branch rs) c.self.view_is
