use Rattle.std.proofs.Common.{inl, inr, sym}
use Rattle.zr_tree.proofs.Unknown.{reached_itself, reached_unknown}
use Rattle.zr_tree.proofs.rooted.RootedTrees.reached.Goals as goal

pub returns-then-eq : goal.returns-then-eq
returns-then-eq c = sym (reached_itself c.args.self.now c.args.from c.args.to (sym c.if-eq.ensures))

pub returns-in_default : goal.returns-in_default
returns-in_default c = sym (reached_unknown c.args.self.now c.args.from c.args.to (sym c.if-eq.ensures) (inr c.in_default.ensures'))

pub returns-in_default-2 : goal.returns-in_default-2
returns-in_default-2 c = sym (reached_unknown c.args.self.now c.args.from c.args.to (sym c.if-eq.ensures) (inl (rw c.in_default.is-0 at c.index_of.ensures)))
