-- What is left to be taken is still held.
use Rattle.std.proofs.Common.{List, ◌++◌, drop}
use Rattle.zr_push_sought.specs.Holders.{HoldJust}
use Rattle.zr_push_sought.specs.Pairs.{Declared, of_clients}
use Rattle.zr_push_sought.proofs.holders.Holders.take_rows.Given as goal

abbrev pub invariant-loop-row : goal.invariant-loop-row
invariant-loop-row l = (rest : List Declared) → HoldJust (of_clients l.rows ++ rest) l.fn.self → HoldJust (of_clients (drop l.row-index l.rows) ++ rest) l.self
