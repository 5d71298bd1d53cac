use Rattle.std.proofs.Common.{[]}
use Rattle.zr_law_rounds.specs.Told.{HaveCome, nothing}
use Rattle.zr_world_rounds.proofs.pass.pass_on.Given as goal

abbrev pub invariant-loop-place : goal.invariant-loop-place
invariant-loop-place l = HaveCome [] nothing l.fn.shares l.shares
