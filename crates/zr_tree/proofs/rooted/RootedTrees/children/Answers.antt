use Rattle.std.proofs.Common.{inl, inr, sym}
use Rattle.zr_tree.proofs.Unknown.{children_unknown}
use Rattle.zr_tree.proofs.rooted.RootedTrees.children.Goals as goal
use Rattle.zr_tree.proofs.rooted.RootedTrees.children.Goals.{in_default-via-in-Some+in_default, in_default-via-in_default}

pub returns-in_default : goal.returns-in_default
returns-in_default c = elim c.in_default.branch [
  | in_default-via-in-Some+in_default w ↦ sym (children_unknown c.args.self.now c.args.root c.args.at (inr w.in_default.ensures'))
  | in_default-via-in_default w ↦ sym (children_unknown c.args.self.now c.args.root c.args.at (inl (rw w.in_default.is-0 at c.index_of.ensures)))
]
