use Rattle.std.proofs.Common.{subst}
use Rattle.zr_msg.specs.declared.decl.Decl.{Decl}
use Rattle.zr_msg.specs.declared.decl.Kind.{Kind}
use Rattle.zr_node_spec.specs.Table.{refuses_declared, refuses_step_from, row}
use Rattle.zr_node.specs.Answer.{IsFound}
use Rattle.zr_node.proofs.Early.{found_message, found_snap}
use Rattle.zr_node.proofs.node.Node.refuses_message.Goals as goal

pub returns-in-Sub : goal.returns-in-Sub
returns-in-Sub c = found_message c.args.self.now c.args.link.0 c.refuses_declared.result _ c.args.msg.now c.in-Sub.is c.refuses_declared.ensures

pub returns-in-Token : goal.returns-in-Token
returns-in-Token c = found_message c.args.self.now c.args.link.0 c.refuses_declared-in-Token.result _ c.args.msg.now c.in-Token.is c.refuses_declared-in-Token.ensures

pub returns-in-Able : goal.returns-in-Able
returns-in-Able c =
    found_message c.args.self.now c.args.link.0 c.refuses_declared-in-Able.result _ c.args.msg.now c.in-Able.is
    (subst (λ (kind : Kind). IsFound (refuses_declared c.args.self.now c.args.link.0 (row c.args.link.0 c.in-Able.id kind c.in-Able.key)) c.refuses_declared-in-Able.result) c.able_kind.ensures c.refuses_declared-in-Able.ensures)

pub returns-in-Unsub : goal.returns-in-Unsub
returns-in-Unsub c = found_message c.args.self.now c.args.link.0 c.refuses_undeclared.result _ c.args.msg.now c.in-Unsub.is c.refuses_undeclared.ensures

pub returns-in-Untoken : goal.returns-in-Untoken
returns-in-Untoken c = found_message c.args.self.now c.args.link.0 c.refuses_undeclared-in-Untoken.result _ c.args.msg.now c.in-Untoken.is c.refuses_undeclared-in-Untoken.ensures

pub returns-in-Unable : goal.returns-in-Unable
returns-in-Unable c = found_message c.args.self.now c.args.link.0 c.refuses_undeclared-in-Unable.result _ c.args.msg.now c.in-Unable.is c.refuses_undeclared-in-Unable.ensures

pub returns-in-Interest : goal.returns-in-Interest
returns-in-Interest c = found_message c.args.self.now c.args.link.0 c.refuses_noted.result _ c.args.msg.now c.in-Interest.is (c.refuses_noted.ensures _ (λ i. c.in-Interest.key))

pub returns-in-Request : goal.returns-in-Request
returns-in-Request c = found_message c.args.self.now c.args.link.0 c.refuses_asker.result _ c.args.msg.now c.in-Request.is (c.refuses_asker.ensures _)

pub returns-in-Step : goal.returns-in-Step
returns-in-Step c =
    found_message c.args.self.now c.args.link.0 c.refuses_step.result _ c.args.msg.now c.in-Step.is
    (subst (λ (decl : Decl). IsFound (refuses_step_from c.args.self.now c.args.link.0 c.in-Step.source c.in-Step.number (record { added = c.in-Step.added; decl = decl })) c.refuses_step.result) c.get.ensures c.refuses_step.ensures)

pub returns-in-Snap : goal.returns-in-Snap
returns-in-Snap c = found_snap c.args.self.now c.args.link.0 c.args.msg.now _ _ _ c.in-Snap.is
