use Rattle.std.proofs.Common.{List, ◌++◌, sym, ap, subst, ◌∙◌}
use Rattle.zr_local.specs.Owners.{on_link}
use Rattle.zr_local.specs.Rows.{left}
use Rattle.zr_local.specs.declared.row.Row.{Row}
use Rattle.zr_push_sought.specs.Holders.{HoldJust}
use Rattle.zr_push_sought.specs.Pairs.{of_clients}
use Rattle.zr_push_sought.proofs.Alike.{hold_alike, link_apart}
use Rattle.zr_push_sought.proofs.holders.Holders.take_client.Goals as goal

pub returns : goal.returns
returns c = λ rest just.
    c.take_rows.ensures (of_clients (left c.args.local.now.rows c.args.link.0) ++ rest)
    (subst (λ (on : List Row). HoldJust (of_clients on ++ (of_clients (left c.args.local.now.rows c.args.link.0) ++ rest)) c.args.self.now) (sym (c.on.ensures.rows ∙ ap (λ (rs : List Row). on_link rs c.args.link.0) c.of-rows.ensures))
    (hold_alike c.args.self.now _ _ (link_apart c.args.local.now.rows c.args.link.0 rest) just))
