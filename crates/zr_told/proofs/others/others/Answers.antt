use Rattle.std.proofs.Common.{◌≡◌, subst}
use Rattle.std.specs.Prelude.{IfOk}
use Rattle.zr_told_spec.specs.Rows.{others}
use Rattle.zr_told.proofs.Planned.{every}
use Rattle.zr_told.proofs.others.others.Goals as goal

pub returns : goal.returns
returns c = subst (λ z. IfOk c.kept.result (λ ds. ds.items ≡ z)) (every (others c.args.tables.now c.args.link.0)) c.kept.ensures
