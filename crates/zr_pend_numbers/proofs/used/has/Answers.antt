use Rattle.std.proofs.Common.{sym}
use Rattle.zr_pend_numbers.proofs.Rising.{gap_free}
use Rattle.zr_pend_numbers.proofs.used.has.Goals as goal

pub returns-in-Err : goal.returns-in-Err
returns-in-Err c = sym (gap_free c.args.numbers.now.items c.args.number c.in-Err.field-0 c.in-Err.ensures.below c.in-Err.ensures.above)
