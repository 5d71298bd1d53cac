use Rattle.std.proofs.Common.{◌≡◌, ◌++◌, drop}
use Rattle.zr_world.proofs.marks.copies.Given as goal

abbrev pub invariant-loop-decl : goal.invariant-loop-decl
invariant-loop-decl l = l.copies.items ++ drop l.decl-index l.decls ≡ l.fn.decls
