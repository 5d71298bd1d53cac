use Rattle.std.proofs.Common.{◌≡◌, ◌++◌}
use Rattle.zr_fan.specs.Parts.{all_of}
use Rattle.zr_fan.proofs.threaded.split.Given as goal

abbrev pub invariant-loop-worker : goal.invariant-loop-worker
invariant-loop-worker l = all_of l.parts.items ++ l.rest.items ≡ l.fn.shares.items
