-- What holds of those that are left holds of all.
use Rattle.std.proofs.Common.{drop}
use Rattle.zr_told_interested.specs.Keys.{AreKeyed}
use Rattle.zr_told_interested.proofs.by_key.know_interests.Given as goal

abbrev pub invariant-loop-interest : goal.invariant-loop-interest
invariant-loop-interest l = AreKeyed (drop l.interest-index l.interests) → AreKeyed l.interests
