use Rattle.zr_wirekey.proofs.Giving.{none_given}
use Rattle.zr_wirekey.proofs.names.Names.new.Goals as goal

pub invariant_of-result : goal.invariant_of-result
invariant_of-result c = none_given (λ k. k.items) _ _ c.new.ensures.items c.new-2.ensures.empty
