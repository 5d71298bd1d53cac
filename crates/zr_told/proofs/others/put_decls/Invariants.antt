-- What was put and what is left make all.
use Rattle.std.proofs.Common.{◌≡◌, ◌++◌, drop, filter}
use Rattle.zr_told.specs.Tokens.{is_kept}
use Rattle.zr_told.proofs.others.put_decls.Given as goal

abbrev pub invariant-loop-decl : goal.invariant-loop-decl
invariant-loop-decl l = l.decls.items ++ filter (is_kept l.tokens) (drop l.decl-index l.more) ≡ l.fn.decls.items ++ filter (is_kept l.tokens) l.more
