-- What was put and what is left make all.
use Rattle.std.proofs.Common.{◌≡◌, ◌++◌, drop, filter}
use Rattle.zr_told.specs.Tokens.{is_kept}
use Rattle.zr_local.specs.Rows.{decls_of, left}
use Rattle.zr_told.proofs.others.put_rows.Given as goal

abbrev pub invariant-loop-row : goal.invariant-loop-row
invariant-loop-row l = l.decls.items ++ filter (is_kept l.tokens) (decls_of (left (drop l.row-index l.rows) l.link.0)) ≡ l.fn.decls.items ++ filter (is_kept l.tokens) (decls_of (left l.rows l.link.0))
