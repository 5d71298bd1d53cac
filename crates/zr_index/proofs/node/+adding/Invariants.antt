-- The text that is left becomes shorter.
use Rattle.std.proofs.Common.{◌+◌}
use Rattle.zr_match.proofs.ChunkSteps.{room}
use Rattle.zr_index.proofs.node.+adding.Given as goal

abbrev pub decreases-Node::add : goal.decreases-Node::add
decreases-Node::add g l = room l.rest + room l.rest

abbrev pub decreases-add_below : goal.decreases-add_below
decreases-add_below g l = room l.rest + room l.rest + 1
