use Rattle.std.proofs.Common.{Option, refl, sym, subst, ◌∙◌}
use Rattle.zr_local.specs.declared.interest.Interest.{Interest}
use Rattle.zr_node_spec.specs.Table.{live}
use Rattle.zr_node.specs.Done.{Part, IsDone}
use Rattle.zr_node.specs.Steps.{interest_part}
use Rattle.zr_node.proofs.Done.{judged_failed}
use Rattle.zr_node.proofs.Early.{found_judged}
use Rattle.zr_node.proofs.Parts.{interest_nothing, interest_noted, live_id}
use Rattle.zr_node.proofs.node.Node.interest.Goals as goal

pub returns-then-not-leads_to_client : goal.returns-then-not-leads_to_client
returns-then-not-leads_to_client c = λ said.
    interest_nothing c.args.self.now c.args.link c.args.id (live c.args.future (record { id = c.args.id; kinds = c.args.kinds; key = c.args.key.now; aggregate = c.args.aggregate })) said
    (sym c.leads_to_client.ensures ∙ c.if-not-leads_to_client.true)

pub note-requires : goal.note-requires
note-requires c = live_id c.args.future (record { id = c.args.id; kinds = c.args.kinds; key = c.args.key.now; aggregate = c.args.aggregate }) c.in-Ok.interest c.in-Ok.ensures

pub returns-in-Ok : goal.returns-in-Ok
returns-in-Ok c = λ said.
    subst (λ (i : Option Interest). IsDone (interest_part c.args.self.now c.args.link.0 c.args.id i) c.note.result c.note.new.self said said) c.in-Ok.ensures
    (interest_noted c.args.self.now c.args.link c.args.id c.in-Ok.interest c.note.result c.note.new.self said (sym c.leads_to_client.ensures ∙ c.if-not-leads_to_client.false) c.note.ensures.state c.note.ensures.refused c.note.ensures.unchanged)

pub returns-in-Err : goal.returns-in-Err
returns-in-Err c = λ said.
    let i : Interest = record { id = c.args.id; kinds = c.args.kinds; key = c.args.key.now; aggregate = c.args.aggregate } in
    let p : Part = interest_part c.args.self.now c.args.link.0 c.args.id (live c.args.future i) in
    judged_failed p c.lacking.result c.args.self.now said (found_judged p.refused c.refuses_noted.result c.lacking.result c.lacking.ensures (c.refuses_noted.ensures i refl)) refl
