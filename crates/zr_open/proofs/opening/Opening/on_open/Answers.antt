use Rattle.std.proofs.Common.{refl}
use Rattle.zr_open.proofs.Short.{opening_answer_short}
use Rattle.zr_open.proofs.opening.Opening.on_open.Goals as goal

pub opened-requires : goal.opened-requires
opened-requires c = (refl, opening_answer_short 10 c.next.result)
