use Rattle.zr_pend_numbers.proofs.Rising.{gap_free, take_none}
use Rattle.zr_pend_numbers.proofs.used.take.Goals as goal

pub returns-in-Err-clause-others : goal.returns-in-Err-clause-others
returns-in-Err-clause-others c = λ m.
    take_none c.args.numbers.now.items c.args.number m (gap_free c.args.numbers.now.items c.args.number c.in-Err.field-0 c.in-Err.ensures.below c.in-Err.ensures.above)
