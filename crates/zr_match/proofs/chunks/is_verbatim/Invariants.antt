-- The `*`s so far begin no piece.
use Rattle.std.proofs.Common.{◌≡◌, drop}
use Rattle.zr_key.specs.Expression.{begins_verbatim}
use Rattle.zr_key.specs.Key.{pieces_of}
use Rattle.zr_match.proofs.chunks.is_verbatim.Given as goal

abbrev pub invariant-loop-b : goal.invariant-loop-b
invariant-loop-b l = begins_verbatim (pieces_of (drop l.b-index l.chunk)) ≡ begins_verbatim (pieces_of l.chunk)
