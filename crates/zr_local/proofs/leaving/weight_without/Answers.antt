use Rattle.std.proofs.Common.{arith}
use Rattle.zr_local.proofs.Left.{parts_weigh}
use Rattle.zr_local.proofs.leaving.weight_without.Goals as goal

pub loop-row-init : goal.loop-row-init
loop-row-init c = omega (arith, c.requires, parts_weigh c.args.rows.now c.args.link.0)
