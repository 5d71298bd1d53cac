-- Nobody so far is the asker.
use Rattle.std.proofs.Common.{◌≡◌, drop}
use Rattle.zr_pend_spec.specs.Held.{gathers_for}
use Rattle.zr_pend.proofs.gatherings.place_of.Given as goal

abbrev pub invariant-loop-i : goal.invariant-loop-i
invariant-loop-i l = gathers_for (drop l.i l.items) l.asker ≡ gathers_for l.items l.asker
