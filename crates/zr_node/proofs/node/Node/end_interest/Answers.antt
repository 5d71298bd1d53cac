use Rattle.std.proofs.Common.{None, sym, ◌∙◌}
use Rattle.zr_node.proofs.Parts.{interest_nothing, interest_noted}
use Rattle.zr_node.proofs.node.Node.end_interest.Goals as goal

pub returns-then-not-leads_to_client : goal.returns-then-not-leads_to_client
returns-then-not-leads_to_client c = λ said. interest_nothing c.args.self.now c.args.link c.args.id None said (sym c.leads_to_client.ensures ∙ c.if-not-leads_to_client.true)

pub returns : goal.returns
returns c = λ said.
    interest_noted c.args.self.now c.args.link c.args.id None c.note.result c.note.new.self said (sym c.leads_to_client.ensures ∙ c.if-not-leads_to_client.false) c.note.ensures.state c.note.ensures.refused c.note.ensures.unchanged
