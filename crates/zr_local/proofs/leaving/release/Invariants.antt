use Rattle.std.proofs.Common.{◌≡◌, drop}
use Rattle.std.specs.List.{fold}
use Rattle.zr_local.specs.Owners.{on_link, once_less}
use Rattle.zr_local.specs.Rows.{decls_of}
use Rattle.zr_local.proofs.leaving.release.Given as goal

abbrev pub invariant-loop-row : goal.invariant-loop-row
invariant-loop-row l = fold once_less l.owners (decls_of (on_link (drop l.row-index l.rows) l.link.0)) ≡ fold once_less l.fn.owners (decls_of (on_link l.fn.rows l.link.0))
