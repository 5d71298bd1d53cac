use Rattle.std.proofs.Common.{ap, ◌∙◌}
use Rattle.std.specs.Map.{values_of}
use Rattle.zr_pend_spec.specs.Pending.{ascending, numbers_on}
use Rattle.zr_pend_rows.proofs.OnLinks.{if_ok, numbers_same}
use Rattle.zr_pend_rows.proofs.table.Table.numbers_on.Goals as goal

pub returns : goal.returns
returns c =
    if_ok c.all_on.result
    (λ ns e. e ∙ numbers_same c.self.inside.pending (values_of c.self.inside.rows.entries) c.args.link c.self.invariant.0 c.self.invariant.1 c.all_on.ensures.up ∙ ap (λ rs. ascending (numbers_on c.args.link rs)) c.self.view_is)
    c.all_on.ensures.items
