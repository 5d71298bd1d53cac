-- The rest decides, with the flag, what the chunk decides.
use Rattle.std.proofs.Common.{◌≡◌, false, drop}
use Rattle.zr_key.specs.Key.{is_paired}
use Rattle.zr_key.proofs.faults.is_paired.Given as goal

abbrev pub invariant-loop-b : goal.invariant-loop-b
invariant-loop-b l = is_paired l.after (drop l.b-index l.chunk) ≡ is_paired false l.chunk
