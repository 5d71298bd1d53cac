-- The line that is sought is one of the rest.
use Rattle.std.proofs.Common.{◌≡◌, length}
use Rattle.zr_rules.specs.Explained.{line_at}
use Rattle.zr_rules.proofs.explaining.line_at.Given as goal

abbrev pub invariant-lines : goal.invariant-lines
invariant-lines l = line_at l.left l.rest ≡ line_at l.fn.number l.bytes

abbrev pub decreases-lines : goal.decreases-lines
decreases-lines l = length l.rest
