use Rattle.std.proofs.Common.{sym, ◌∙◌}
use Rattle.zr_node.proofs.Parts.{undeclare_asked, undeclare_nothing}
use Rattle.zr_node.proofs.node.Node.undeclare.Goals as goal

pub returns-then-not-leads_to_client : goal.returns-then-not-leads_to_client
returns-then-not-leads_to_client c =
    undeclare_nothing c.args.self.now c.args.link c.args.id c.args.kind c.args.out.now.items (sym c.leads_to_client.ensures ∙ c.if-not-leads_to_client.true)

pub returns : goal.returns
returns c =
    undeclare_asked c.args.self.now c.args.link c.args.id c.args.kind c.change_rows.result c.change_rows.new.self c.args.out.now.items c.change_rows.new.out.items (sym c.leads_to_client.ensures ∙ c.if-not-leads_to_client.false) c.change_rows.ensures
