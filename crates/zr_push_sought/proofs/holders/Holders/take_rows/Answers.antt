use Rattle.std.proofs.Common.{◌+◌, List, ◌++◌, drop, subst, arith}
use Rattle.std.proofs.lemmas.List.{drop_all}
use Rattle.zr_local.specs.declared.row.Row.{Row}
use Rattle.zr_push_sought.specs.Holders.{HoldJust}
use Rattle.zr_push_sought.specs.Pairs.{Declared, of_clients, of_row}
use Rattle.zr_push_sought.proofs.Alike.{next_out}
use Rattle.zr_push_sought.proofs.holders.Holders.take_rows.Goals as goal

pub loop-row-preserved : goal.loop-row-preserved
loop-row-preserved c = λ rest just.
    c.take.ensures (of_clients (drop (c.loop-row.row-index + 1) c.args.rows.now) ++ rest)
    (subst (λ (xs : List Declared). HoldJust xs c.loop-row.self) (next_out of_row c.args.rows.now c.loop-row.row-index c.row-item.result rest (omega arith) c.row-item.is) (c.loop-row.invariant rest just))

pub returns : goal.returns
returns c = λ rest just.
    subst (λ (rows : List Row). HoldJust (of_clients rows ++ rest) c.loop-row.self) (drop_all c.loop-row.row-index c.args.rows.now (omega arith)) (c.loop-row.invariant rest just)
