-- What follows of clients' declarations, for the proofs above.
use Rattle.std.specs.Prelude.{◌≡◌, ◌≤◌, List}
use Rattle.std.specs.List.{fold}
use Rattle.zr_log_set.specs.Decls.{with_decl, without_decl, weight}
use Rattle.zr_local.specs.Rows.{declared_set, gone, came, weight_of}
use Rattle.zr_local.specs.declared.row.Row.{Row}

-- who takes what is gone out of the set, and then puts in what came, has the set of the rows after the change
abbrev pub ChangesLeadOn : Type 0
ChangesLeadOn = (before after : List Row) → fold with_decl (fold without_decl (declared_set before) (gone before after)) (came before after) ≡ declared_set after

-- the set weighs no more than the rows
abbrev pub SetsWeighLess : Type 0
SetsWeighLess = (rows : List Row) → weight (declared_set rows) ≤ weight_of rows
