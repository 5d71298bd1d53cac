use Rattle.std.proofs.Common.{◌≡◌, take, length}
use Rattle.zr_wirekey.proofs.names.Names.keep_first.Given as goal

abbrev pub invariant-texts : goal.invariant-texts
invariant-texts l = take l.count l.self ≡ take l.count l.initial.self

abbrev pub decreases-texts : goal.decreases-texts
decreases-texts l = length l.self
