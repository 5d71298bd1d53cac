use Rattle.std.proofs.Common.{◌≡◌, ◌++◌, drop}
use Rattle.zr_local.proofs.interest.copies_of.Given as goal

abbrev pub invariant-loop-interest : goal.invariant-loop-interest
invariant-loop-interest l = l.copies.items ++ drop l.interest-index l.interests ≡ l.fn.interests
