use Rattle.std.proofs.Common.{◌-◌, ◌^◌, nat_le, ap, ◌∙◌}
use Rattle.std.specs.Map.{values_of}
use Rattle.zr_pend_spec.specs.Pending.{is_full}
use Rattle.zr_pend_rows.proofs.OnLinks.{count_same}
use Rattle.zr_pend_rows.proofs.table.Table.is_full.Goals as goal

pub returns : goal.returns
returns c =
    ap (λ n. nat_le (2 ^ 32 - 1) n) (c.count.ensures.count ∙ count_same c.self.inside.pending (values_of c.self.inside.rows.entries) c.args.link c.self.invariant.0 c.self.invariant.1 c.count.ensures.up)
    ∙ ap (λ rs. is_full c.args.link rs) c.self.view_is
