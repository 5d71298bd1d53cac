-- The numbers so far are those of links.
use Rattle.zr_node.specs.Hints.{AreOfLinks}
use Rattle.zr_node.proofs.links.hints_of.Given as goal

abbrev pub invariant-loop-link : goal.invariant-loop-link
invariant-loop-link l = AreOfLinks l.numbers l.links
