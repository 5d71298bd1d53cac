use Rattle.std.proofs.Common.{◌≡◌}
use Rattle.zr_fan.specs.Parts.{gathered, AreDone}
use Rattle.zr_fan.proofs.threaded.gather.Given as goal

abbrev pub invariant-loop-one : goal.invariant-loop-one
invariant-loop-one l = AreDone l.yielded × (l.all.items ≡ gathered l.yielded)
