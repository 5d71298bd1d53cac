use Rattle.std.proofs.Common.{◌&&◌, sym, ap, ◌∙◌}
use Rattle.std.specs.declared.option.Option.TheVariants.{None}
use Rattle.std.specs.List.{list_any}
use Rattle.zr_told_spec.specs.Rows.{others}
use Rattle.zr_told.specs.Plan.{is_sought}
use Rattle.zr_told.proofs.Found.{complete_if}
use Rattle.zr_told.proofs.search.is_complete_at.Goals as goal

pub returns-else-may_be_complete : goal.returns-else-may_be_complete
returns-else-may_be_complete c =
    c.if-may_be_complete.false
    ∙ sym (ap (λ z. z && list_any (is_sought None c.args.place.now) (others c.args.tables.now c.args.link.0)) (sym c.may_be_complete.ensures ∙ c.if-may_be_complete.false))
    ∙ complete_if (others c.args.tables.now c.args.link.0) c.args.place.now
