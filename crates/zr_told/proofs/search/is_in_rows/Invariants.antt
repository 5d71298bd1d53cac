-- What was found so far is nothing, and what is left decides.
use Rattle.std.proofs.Common.{◌≡◌, drop}
use Rattle.std.specs.List.{list_any}
use Rattle.std.specs.Option.{option_copied}
use Rattle.zr_local.specs.Rows.{decls_of, left}
use Rattle.zr_told.specs.Plan.{is_sought}
use Rattle.zr_told.proofs.search.is_in_rows.Given as goal

abbrev pub invariant-loop-row : goal.invariant-loop-row
invariant-loop-row l = list_any (is_sought (option_copied l.interest) l.place) (decls_of (left (drop l.row-index l.rows) l.link.0)) ≡ list_any (is_sought (option_copied l.interest) l.place) (decls_of (left l.rows l.link.0))
