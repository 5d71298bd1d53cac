use Rattle.std.proofs.Common.{◌≡◌, ◌++◌, drop}
use Rattle.zr_log_set.proofs.decl_set.copies_of.Given as goal

abbrev pub invariant-loop-decl : goal.invariant-loop-decl
invariant-loop-decl l = l.copies.items ++ drop l.decl-index l.decls ≡ l.fn.decls
