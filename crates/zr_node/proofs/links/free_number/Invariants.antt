-- The number that is counted is the place, and what is left counts on from it.
use Rattle.std.proofs.Common.{◌≡◌, drop}
use Rattle.zr_node.proofs.Free.{counted}
use Rattle.zr_node.proofs.links.free_number.Given as goal

abbrev pub invariant-loop-link : goal.invariant-loop-link
invariant-loop-link l = record {
  place : l.free ≡ l.link-index;
  left : counted l.free (drop l.link-index l.links) ≡ counted 0 l.links;
}
