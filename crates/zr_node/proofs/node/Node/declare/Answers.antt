use Rattle.std.proofs.Common.{ℕ, List, refl, sym, subst, ◌∙◌}
use Rattle.zr_local.specs.declared.row.Row.{Row}
use Rattle.zr_node_spec.specs.Table.{row}
use Rattle.zr_node.specs.Done.{Part, IsDone}
use Rattle.zr_node.specs.Steps.{declare_part}
use Rattle.zr_node.proofs.Done.{judged_failed}
use Rattle.zr_node.proofs.Early.{found_judged}
use Rattle.zr_node.proofs.Parts.{declare_asked, declare_nothing}
use Rattle.zr_node.proofs.node.Node.declare.Goals as goal

pub returns-then-not-leads_to_client : goal.returns-then-not-leads_to_client
returns-then-not-leads_to_client c =
    declare_nothing c.args.self.now c.args.link.0 (row c.args.link.0 c.args.id c.args.kind c.args.key.now) c.args.out.now.items (sym c.leads_to_client.ensures ∙ c.if-not-leads_to_client.true)

pub returns-in-Ok : goal.returns-in-Ok
returns-in-Ok c =
    let r : Row = row c.args.link.0 c.args.id c.args.kind c.in-Ok.key in
    subst (λ (key : List ℕ). IsDone (declare_part c.args.self.now c.args.link.0 (row c.args.link.0 c.args.id c.args.kind key)) c.change_rows.result c.change_rows.new.self c.args.out.now.items c.change_rows.new.out.items) c.in-Ok.ensures
    (declare_asked c.args.self.now c.args.link.0 r c.change_rows.result c.change_rows.new.self c.args.out.now.items c.change_rows.new.out.items (sym c.leads_to_client.ensures ∙ c.if-not-leads_to_client.false) c.change_rows.ensures)

pub returns-in-Err : goal.returns-in-Err
returns-in-Err c =
    let p : Part = declare_part c.args.self.now c.args.link.0 (row c.args.link.0 c.args.id c.args.kind c.args.key.now) in
    judged_failed p c.lacking.result c.args.self.now c.args.out.now.items (found_judged p.refused c.refuses_declared.result c.lacking.result c.lacking.ensures c.refuses_declared.ensures) refl
