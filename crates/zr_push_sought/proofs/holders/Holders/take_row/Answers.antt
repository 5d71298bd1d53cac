use Rattle.std.proofs.Common.{List, ◌++◌, sym, subst}
use Rattle.zr_local.proofs.Rows.{key_order}
use Rattle.zr_local.specs.Rows.{key_cmp, row_key, undeclared}
use Rattle.zr_local.specs.declared.row.Row.{Row}
use Rattle.zr_push_sought.specs.Holders.{HoldJust}
use Rattle.zr_push_sought.specs.Pairs.{of_clients, of_row}
use Rattle.zr_push_sought.proofs.Alike.{hold_alike, out_of_place}
use Rattle.zr_push_sought.proofs.Keys.{no_place, key_of, place}
use Rattle.zr_push_sought.proofs.holders.Holders.take_row.Goals as goal

pub returns-in-Ok : goal.returns-in-Ok
returns-in-Ok c = λ rest just.
    c.take.ensures (of_clients (undeclared c.args.rows.now (key_of c.args.link c.args.id c.args.kind)) ++ rest)
    (hold_alike c.args.self.now _ _ (out_of_place of_row key_cmp row_key key_order c.args.rows.now (key_of c.args.link c.args.id c.args.kind) c.in-Ok.at c.index-rows-at.result rest (place c.args.rows.now c.args.link c.args.id c.args.kind c.new.result c.in-Ok.at c.new.ensures c.in-Ok.ensures) c.index-rows-at.is) just)

pub returns-in_default : goal.returns-in_default
returns-in_default c = λ rest just.
    subst (λ (rows : List Row). HoldJust (of_clients rows ++ rest) c.args.self.now) (sym (no_place c.args.rows.now c.args.link c.args.id c.args.kind c.new.result c.new.ensures c.place_of.result c.place_of.ensures c.in_default.not-Ok)) just
