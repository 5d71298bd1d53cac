use Rattle.std.proofs.Common.{◌≡◌, List, subst, sym, ◌∙◌}
use Rattle.std.proofs.lemmas.Option.{slice_get_within, same_Some}
use Rattle.zr_id.specs.Record.{RecordState}
use Rattle.zr_tree.specs.Index.{name}
use Rattle.zr_tree.specs.Tree.{children}
use Rattle.zr_tree.specs.Walk.{graph_of}
use Rattle.zr_tree.proofs.Ways.{kept_hop}
use Rattle.zr_tree.proofs.rooted.RootedTrees.children_at.Goals as goal

pub get-requires : goal.get-requires
get-requires c =
    let root = rw (← c.self.view_is) at c.requires.root in
    let x = rw (← c.self.view_is) at c.requires.at in
    let h = kept_hop c.self.inside.records.items c.self.inside.names.items c.self.inside.trees.items c.self.inside.lists.lists c.args.root c.args.at c.index.result.now _ c.self.invariant root x c.index.ensures in
    rw c.hops.ensures (slice_get_within _ _ _ h.children_are)

pub returns : goal.returns
returns c =
    let root = rw (← c.self.view_is) at c.requires.root in
    let x = rw (← c.self.view_is) at c.requires.at in
    let h = kept_hop c.self.inside.records.items c.self.inside.names.items c.self.inside.trees.items c.self.inside.lists.lists c.args.root c.args.at c.index.result.now _ c.self.invariant root x c.index.ensures in
    let found = rw c.hops.ensures at c.get.ensures in
    let P : List RecordState → Type 0 = λ rs. c.get.result.now ≡ children (graph_of rs) (name rs c.args.root) (name rs c.args.at) in
    subst P c.self.view_is (same_Some _ _ (sym found ∙ h.children_are))
