use Rattle.std.proofs.Common.{◌≡◌, take}
use Rattle.zr_world_ends.specs.Kept.{emptied}
use Rattle.zr_world_ends.proofs.waiting.idle_ends.Given as goal

abbrev pub invariant-loop-named : goal.invariant-loop-named
invariant-loop-named l = l.idle.items ≡ emptied (take l.named-index l.ends)
