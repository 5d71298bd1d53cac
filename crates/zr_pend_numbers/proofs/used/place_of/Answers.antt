use Rattle.std.proofs.Common.{arith}
use Rattle.zr_pend_numbers.proofs.Rising.{rising, steep}
use Rattle.zr_pend_numbers.proofs.used.place_of.Goals as goal

pub returns-in-Ok-clause-below : goal.returns-in-Ok-clause-below
returns-in-Ok-clause-below c = λ i lt. omega (arith, steep 0 c.args.numbers.now.items i c.in-Ok.at c.requires (omega (arith, lt)) c.in-Ok.ensures.within, c.in-Ok.ensures.here, lt)

pub returns-in-Ok-clause-above : goal.returns-in-Ok-clause-above
returns-in-Ok-clause-above c = λ i ge lt. omega (arith, rising c.args.numbers.now.items c.requires c.in-Ok.at i ge lt, c.in-Ok.ensures.here)
