use Rattle.std.proofs.Common.{refl}
use Rattle.zr_log.proofs.Logs.{in_order_none}
use Rattle.zr_log.proofs.known.Known.new.Goals as goal

pub invariant_of-result : goal.invariant_of-result
invariant_of-result c = rw (c.new.ensures.items, c.new-2.ensures.items) (in_order_none c.args.me, refl)
