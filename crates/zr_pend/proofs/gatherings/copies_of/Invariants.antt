use Rattle.std.proofs.Common.{◌≡◌, ◌++◌, drop}
use Rattle.zr_pend.proofs.gatherings.copies_of.Given as goal

abbrev pub invariant-loop-gathering : goal.invariant-loop-gathering
invariant-loop-gathering l = l.copies.items ++ drop l.gathering-index l.gatherings ≡ l.fn.gatherings
