use Rattle.zr_tree.specs.Hop.{IsSomeHop}
use Rattle.zr_tree.proofs.Ancestors.{IsOnWay}
use Rattle.zr_tree.proofs.rooted.RootedTrees.ancestor.Given as goal

abbrev pub invariant-loop-hop : goal.invariant-loop-hop
invariant-loop-hop l = record {
  way : IsOnWay l.self l.root l.dest l.depth l.x;
  hop : IsSomeHop l.self l.root l.x l.hop;
}

abbrev pub decreases-loop-hop : goal.decreases-loop-hop
decreases-loop-hop l = l.hop.depth
