use Rattle.zr_node.proofs.Places.{not_here}
use Rattle.zr_node.proofs.links.gap_of.Goals as goal

pub returns-in-Ok : goal.returns-in-Ok
returns-in-Ok c = absurd (not_here c.args.links.now c.args.number.0 c.in-Ok.at c.requires.absent c.in-Ok.ensures)
