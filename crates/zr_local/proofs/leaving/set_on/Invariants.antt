use Rattle.std.proofs.Common.{◌≡◌, drop}
use Rattle.std.specs.List.{fold}
use Rattle.zr_log_set.specs.Decls.{with_decl}
use Rattle.zr_local.specs.Owners.{on_link}
use Rattle.zr_local.specs.Rows.{decls_of, declared_set}
use Rattle.zr_local.proofs.leaving.set_on.Given as goal

abbrev pub invariant-loop-row : goal.invariant-loop-row
invariant-loop-row l = fold with_decl l.set (decls_of (on_link (drop l.row-index l.rows) l.link.0)) ≡ declared_set (on_link l.fn.rows l.link.0)
