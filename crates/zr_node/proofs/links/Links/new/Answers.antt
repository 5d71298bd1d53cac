use Rattle.std.proofs.Common.{[], arith}
use Rattle.zr_node_spec.proofs.AreLinks.{no_links}
use Rattle.zr_node.proofs.Hints.{hinted_none}
use Rattle.zr_node.proofs.links.Links.new.Goals as goal

pub invariant_of-result : goal.invariant_of-result
invariant_of-result c = rw c.new.ensures.items ((no_links []).ascending, omega arith, hinted_none c.new-2.result [] c.new-2.ensures.empty)
