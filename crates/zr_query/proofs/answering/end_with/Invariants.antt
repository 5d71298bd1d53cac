-- What the requests that are left get sent is left to be said.
use Rattle.std.proofs.Common.{drop}
use Rattle.zr_lists.proofs.Prefixes.{IsSoFar}
use Rattle.zr_query.specs.Answering.{endings_sent}
use Rattle.zr_query.proofs.answering.end_with.Given as goal

abbrev pub invariant-loop-one : goal.invariant-loop-one
invariant-loop-one l = IsSoFar l.fn.out.items (endings_sent l.extras l.ended) l.out.items (endings_sent l.extras (drop l.one-index l.ended))
