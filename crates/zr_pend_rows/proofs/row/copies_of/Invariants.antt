-- The copies so far and the rows that are left are all.
use Rattle.std.proofs.Common.{◌≡◌, ◌++◌}
use Rattle.std.specs.Map.{values_of}
use Rattle.zr_pend_rows.proofs.row.copies_of.Given as goal

abbrev pub invariant-loop-row : goal.invariant-loop-row
invariant-loop-row l = values_of l.copies.entries ++ l.row-iterator ≡ values_of l.fn.rows.entries
