use Rattle.std.proofs.Common.{◌≡◌, drop}
use Rattle.zr_net.specs.Exts.{number_at}
use Rattle.zr_net.proofs.exts.number_at.Given as goal

abbrev pub invariant-loop-ext : goal.invariant-loop-ext
invariant-loop-ext l = number_at l.id (drop l.ext-index l.exts) ≡ number_at l.id l.exts
