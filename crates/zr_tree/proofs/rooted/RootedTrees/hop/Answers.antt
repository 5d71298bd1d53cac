use Rattle.zr_tree.proofs.Ways.{kept_hop}
use Rattle.zr_tree.proofs.rooted.RootedTrees.hop.Goals as goal

pub returns-clause-kept : goal.returns-clause-kept
returns-clause-kept c =
    let root = rw (← c.self.view_is) at c.requires.root in
    let x = rw (← c.self.view_is) at c.requires.at in
    let h = kept_hop c.self.inside.records.items c.self.inside.names.items c.self.inside.trees.items c.self.inside.lists.lists c.args.root c.args.at c.index.result.now _ c.self.invariant root x c.index.ensures in
    (c.self.inside.lists.lists, rw (← c.self.view_is, c.hops.ensures) h)
