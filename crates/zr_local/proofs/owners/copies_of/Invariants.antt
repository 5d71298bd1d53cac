use Rattle.std.proofs.Common.{◌≡◌, ◌++◌, drop}
use Rattle.zr_local.proofs.owners.copies_of.Given as goal

abbrev pub invariant-loop-owned : goal.invariant-loop-owned
invariant-loop-owned l = l.copies.items ++ drop l.owned-index l.counts ≡ l.fn.counts
