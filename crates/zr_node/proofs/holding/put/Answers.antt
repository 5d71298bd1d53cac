use Rattle.std.proofs.Common.{List, ◌++◌, sym, subst}
use Rattle.zr_local.specs.declared.row.Row.{Row}
use Rattle.zr_node.specs.Holding.{rows_but}
use Rattle.zr_node.specs.declared.holding.Touched.{Touched}
use Rattle.zr_push_sought.specs.Holders.{HoldJust}
use Rattle.zr_push_sought.specs.Pairs.{of_clients}
use Rattle.zr_node.proofs.holding.put.Goals as goal

pub returns-in-Row : goal.returns-in-Row
returns-in-Row c = λ rest.
    subst (λ (rows : List Row). HoldJust (of_clients (rows_but rows c.args.place.now) ++ rest) c.args.holders.now → HoldJust (of_clients rows ++ rest) c.put_row.new.self) c.rows.ensures.value
    (subst (λ (place : Touched). HoldJust (of_clients (rows_but c.rows.result.now place) ++ rest) c.args.holders.now → HoldJust (of_clients c.rows.result.now ++ rest) c.put_row.new.self) (sym c.in-Row.is) (c.put_row.ensures rest))

pub returns-in-Client : goal.returns-in-Client
returns-in-Client c = λ rest.
    subst (λ (place : Touched). HoldJust (of_clients (rows_but c.args.local.now.rows place) ++ rest) c.args.holders.now → HoldJust (of_clients c.args.local.now.rows ++ rest) c.put_client.new.self) (sym c.in-Client.is) (c.put_client.ensures rest)
