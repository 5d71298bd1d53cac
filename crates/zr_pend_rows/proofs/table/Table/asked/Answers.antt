use Rattle.std.proofs.Common.{ap, ◌∙◌}
use Rattle.std.specs.Map.{values_of}
use Rattle.zr_pend_spec.specs.Pending.{asked}
use Rattle.zr_pend_rows.specs.Tied.{as_asker}
use Rattle.zr_pend_rows.proofs.table.Table.asked.Goals as goal

pub returns : goal.returns
returns c =
    c.has.ensures ∙ c.self.invariant.2 c.as_branch.result ∙ ap (λ b. asked (as_asker b) (values_of c.self.inside.rows.entries)) c.as_branch.ensures
    ∙ ap (λ rs. asked c.args.from rs) c.self.view_is
