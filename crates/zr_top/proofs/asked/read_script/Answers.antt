-- Memory ran out before a script was read.
use Rattle.std.proofs.Common.{rules, arith}
use Rattle.zr_top.proofs.Branches.{no_script}
use Rattle.zr_top.proofs.asked.read_script.Goals as goal

pub returns-in_default-clause-writes : goal.returns-in_default-clause-writes
returns-in_default-clause-writes g c = no_script _ _ _ _ _

pub returns-in_default-clause-only_write : goal.returns-in_default-clause-only_write
returns-in_default-clause-only_write g c = (λ rose. absurd (omega (arith, rose)), λ rose. absurd (omega (arith, rose)))
