-- The text that is left becomes shorter.
use Rattle.std.proofs.Common.{◌+◌}
use Rattle.zr_match.proofs.ChunkSteps.{room}
use Rattle.zr_index.proofs.node.+removing.Given as goal

abbrev pub decreases-Node::remove : goal.decreases-Node::remove
decreases-Node::remove g l = room l.rest + room l.rest

abbrev pub decreases-remove_below : goal.decreases-remove_below
decreases-remove_below g l = room l.rest + room l.rest + 1
