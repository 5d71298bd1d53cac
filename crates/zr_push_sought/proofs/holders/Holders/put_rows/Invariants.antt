-- What was put so far is held.
use Rattle.std.proofs.Common.{List, ◌++◌, take}
use Rattle.zr_push_sought.specs.Holders.{HoldJust}
use Rattle.zr_push_sought.specs.Pairs.{Declared, of_clients}
use Rattle.zr_push_sought.proofs.holders.Holders.put_rows.Given as goal

abbrev pub invariant-loop-row : goal.invariant-loop-row
invariant-loop-row l = (rest : List Declared) → HoldJust rest l.fn.self → HoldJust (of_clients (take l.row-index l.rows) ++ rest) l.self
