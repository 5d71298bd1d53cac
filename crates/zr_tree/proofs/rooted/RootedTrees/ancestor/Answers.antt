use Rattle.zr_tree.proofs.Ancestors.{way_first, way_parent, way_jump, parent_nearer, jump_nearer}
use Rattle.zr_tree.proofs.rooted.RootedTrees.ancestor.Goals as goal
use Rattle.zr_tree.proofs.rooted.RootedTrees.ancestor.Goals.{then-hop-depth, else-hop-depth}

pub loop-hop-init : goal.loop-hop-init
loop-hop-init c = record {
  way = way_first c.args.self.now c.args.root c.args.dest c.args.depth c.requires.dest c.requires.reached c.requires.depth;
  hop = c.hop-hop.ensures.kept;
}

pub loop-hop-smaller : goal.loop-hop-smaller
loop-hop-smaller c =
    let way = c.loop-hop.invariant.way in
    let hop = c.loop-hop.invariant.hop in
    elim c.if-hop-depth.branch [
      | then-hop-depth w ↦ jump_nearer c.args.self.now c.args.root hop.0 _ c.args.dest c.args.depth c.loop-hop.x c.loop-hop.hop _ way hop.1 c.loop-hop-test.true (rw w.x-is at c.hop-hop-in-loop-hop.ensures.kept.1)
      | else-hop-depth w ↦ parent_nearer c.args.self.now c.args.root hop.0 _ c.args.dest c.args.depth c.loop-hop.x c.loop-hop.hop _ way hop.1 c.loop-hop-test.true (rw w.x-is at c.hop-hop-in-loop-hop.ensures.kept.1)
    ]

pub loop-hop-preserved : goal.loop-hop-preserved
loop-hop-preserved c =
    let way = c.loop-hop.invariant.way in
    let hop = c.loop-hop.invariant.hop in
    elim c.if-hop-depth.branch [
      | then-hop-depth w ↦ record {
        way = rw w.x-is (way_jump c.args.self.now c.args.root hop.0 c.hop.ensures.kept.0 c.args.dest c.args.depth c.loop-hop.x c.loop-hop.hop c.hop.result way hop.1 c.loop-hop-test.true c.hop.ensures.kept.1 w.if-hop-depth.true);
        hop = c.hop-hop-in-loop-hop.ensures.kept;
      }
      | else-hop-depth w ↦ record {
        way = rw w.x-is (way_parent c.args.self.now c.args.root hop.0 c.args.dest c.args.depth c.loop-hop.x c.loop-hop.hop way hop.1 c.loop-hop-test.true);
        hop = c.hop-hop-in-loop-hop.ensures.kept;
      }
    ]
