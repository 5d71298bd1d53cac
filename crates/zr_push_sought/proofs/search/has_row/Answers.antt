use Rattle.std.proofs.Common.{◌==◌, List, ap, ◌∙◌}
use Rattle.std.specs.List.{list_any}
use Rattle.zr_lists.proofs.Filters.{any_kept}
use Rattle.zr_local.specs.declared.row.Row.{Row}
use Rattle.zr_push_sought.specs.Sought.{is_sought}
use Rattle.zr_push_sought.proofs.search.has_row.Goals as goal

pub returns-clause-has : goal.returns-clause-has
returns-clause-has c =
    c.any_is_sought.ensures
    ∙ ap (λ (rs : List Row). list_any (λ r. is_sought c.args.sought c.args.key.now r.decl) rs) c.on.ensures.rows
    ∙ any_kept (λ (r : Row). is_sought c.args.sought c.args.key.now r.decl) (λ r. r.link.0 == c.args.link.0) c.args.rows.now
