use Rattle.std.proofs.Common.{ap, ◌∙◌}
use Rattle.std.specs.Map.{values_of}
use Rattle.zr_pend_spec.specs.Pending.{count}
use Rattle.zr_pend_rows.proofs.Asking.{asked_count}
use Rattle.zr_pend_rows.proofs.table.Table.count.Goals as goal

pub returns : goal.returns
returns c =
    c.count.ensures.count ∙ asked_count c.self.inside.asked (values_of c.self.inside.rows.entries) c.args.link c.self.invariant.0 c.self.invariant.2 c.count.ensures.up ∙ ap (λ rs. count c.args.link rs) c.self.view_is
