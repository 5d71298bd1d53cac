use Rattle.std.proofs.Common.{List, ◌++◌, ap, subst, ◌∙◌}
use Rattle.zr_local.specs.Owners.{on_link}
use Rattle.zr_local.specs.Rows.{left}
use Rattle.zr_local.specs.declared.row.Row.{Row}
use Rattle.zr_push_sought.specs.Holders.{HoldJust}
use Rattle.zr_push_sought.specs.Pairs.{of_clients}
use Rattle.zr_push_sought.proofs.Alike.{alike_back, hold_alike, link_apart}
use Rattle.zr_push_sought.proofs.holders.Holders.put_client.Goals as goal

pub returns : goal.returns
returns c = λ rest just.
    hold_alike c.put_rows.new.self _ _
    (alike_back (of_clients c.args.local.now.rows ++ rest) (of_clients (on_link c.args.local.now.rows c.args.link.0) ++ (of_clients (left c.args.local.now.rows c.args.link.0) ++ rest)) (link_apart c.args.local.now.rows c.args.link.0 rest))
    (subst (λ (on : List Row). HoldJust (of_clients on ++ (of_clients (left c.args.local.now.rows c.args.link.0) ++ rest)) c.put_rows.new.self) (c.on.ensures.rows ∙ ap (λ (rs : List Row). on_link rs c.args.link.0) c.of-rows.ensures)
    (c.put_rows.ensures (of_clients (left c.args.local.now.rows c.args.link.0) ++ rest) just))
