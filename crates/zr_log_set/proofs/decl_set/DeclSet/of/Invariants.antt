use Rattle.std.proofs.Common.{◌≡◌, drop}
use Rattle.std.specs.List.{fold}
use Rattle.zr_log_set.specs.Decls.{with_decl, set_of}
use Rattle.zr_log_set.proofs.decl_set.DeclSet.of.Given as goal

abbrev pub invariant-loop-decl : goal.invariant-loop-decl
invariant-loop-decl l = fold with_decl l.set (drop l.decl-index l.decls) ≡ set_of l.fn.decls
