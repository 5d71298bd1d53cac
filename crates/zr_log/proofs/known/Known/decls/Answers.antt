use Rattle.std.specs.List.Sorted.{IsStrictlySortedBy}
use Rattle.zr_log.proofs.known.Known.decls.Goals as goal

pub returns-in-None-clause-set : goal.returns-in-None-clause-set
unfolding IsStrictlySortedBy
returns-in-None-clause-set c = tt
