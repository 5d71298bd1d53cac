use Rattle.std.proofs.Common.{length}
use Rattle.zr_session.proofs.Pieces.{AtRest}
use Rattle.zr_session.proofs.piece.take_piece.Given as goal

abbrev pub invariant-pieces : goal.invariant-pieces
invariant-pieces l = AtRest l.opening l.fn.phase l.fn.kept l.piece l.rest l.kept l.phase l.fn.out l.out

abbrev pub decreases-pieces : goal.decreases-pieces
decreases-pieces l = length l.rest
