-- What was added and what is left make all.
use Rattle.std.proofs.Common.{◌≡◌, ◌++◌, drop}
use Rattle.zr_told.specs.Tokens.{row_pairs}
use Rattle.zr_told.proofs.tokens.add_rows.Given as goal

abbrev pub invariant-loop-row : goal.invariant-loop-row
invariant-loop-row l =
    (l.tally.pairs ++ row_pairs (drop l.row-index l.rows) ≡ l.fn.tally.pairs ++ row_pairs l.rows) × (l.tally.reached ≡ l.fn.tally.reached)
