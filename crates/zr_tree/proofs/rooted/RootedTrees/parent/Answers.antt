use Rattle.std.proofs.Common.{sym, ◌∙◌}
use Rattle.zr_tree.proofs.Unknown.{parent_unknown_root, parent_unknown_at}
use Rattle.zr_tree.proofs.rooted.RootedTrees.parent.Goals as goal

pub returns-in_err-root : goal.returns-in_err-root
returns-in_err-root c = c.from_residual.ensures ∙ sym (parent_unknown_root c.args.self.now c.args.root c.args.at c.in_err-root.ensures)

pub returns-in_err-at : goal.returns-in_err-at
returns-in_err-at c = c.from_residual-in_err-at.ensures ∙ sym (parent_unknown_at c.args.self.now c.args.root c.args.at c.in_err-at.ensures)
