use Rattle.std.proofs.Common.{List, ◌++◌, take, subst, arith}
use Rattle.std.proofs.lemmas.List.{take_all}
use Rattle.zr_local.specs.declared.row.Row.{Row}
use Rattle.zr_push_sought.specs.Holders.{HoldJust}
use Rattle.zr_push_sought.specs.Pairs.{of_clients, of_row}
use Rattle.zr_push_sought.proofs.Alike.{hold_alike, next_in}
use Rattle.zr_push_sought.proofs.holders.Holders.put_rows.Goals as goal

pub loop-row-preserved : goal.loop-row-preserved
loop-row-preserved c = λ rest just.
    hold_alike c.put.new.self _ _ (next_in of_row c.args.rows.now c.loop-row.row-index c.row-item.result rest (omega arith) c.row-item.is)
    (c.put.ensures (of_clients (take c.loop-row.row-index c.args.rows.now) ++ rest) (c.loop-row.invariant rest just))

pub returns : goal.returns
returns c = λ rest just.
    subst (λ (rows : List Row). HoldJust (of_clients rows ++ rest) c.loop-row.self) (take_all c.loop-row.row-index c.args.rows.now (omega arith)) (c.loop-row.invariant rest just)
