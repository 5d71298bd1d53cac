use Rattle.std.proofs.Common.{◌≡◌, drop}
use Rattle.zr_net.specs.Exts.{bytes_at}
use Rattle.zr_net.proofs.exts.bytes_at.Given as goal

abbrev pub invariant-loop-ext : goal.invariant-loop-ext
invariant-loop-ext l = bytes_at l.id (drop l.ext-index l.exts) ≡ bytes_at l.id l.exts
