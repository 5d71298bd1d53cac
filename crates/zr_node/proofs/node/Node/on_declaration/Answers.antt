use Rattle.std.proofs.Common.{refl, subst}
use Rattle.zr_msg.specs.declared.decl.Kind.{Kind}
use Rattle.zr_node_spec.specs.Table.{row}
use Rattle.zr_node.specs.Done.{IsDone}
use Rattle.zr_node.specs.Steps.{declare_part}
use Rattle.zr_node.proofs.Parts.{message_done, end_allowed}
use Rattle.zr_node.proofs.node.Node.on_declaration.Goals as goal

pub returns-in-Sub : goal.returns-in-Sub
returns-in-Sub c = message_done c.args.self.now c.args.link.0 _ c.args.msg.now c.in-Sub.is c.declare.result c.declare.new.self c.args.out.now.items c.declare.new.out.items _ c.declare.ensures refl refl (λ to. refl) refl refl

pub returns-in-Unsub : goal.returns-in-Unsub
returns-in-Unsub c = message_done c.args.self.now c.args.link.0 _ c.args.msg.now c.in-Unsub.is c.undeclare.result c.undeclare.new.self c.args.out.now.items c.undeclare.new.out.items _ c.undeclare.ensures refl refl (λ to. refl) refl refl

pub returns-in-Token : goal.returns-in-Token
returns-in-Token c = message_done c.args.self.now c.args.link.0 _ c.args.msg.now c.in-Token.is c.declare-in-Token.result c.declare-in-Token.new.self c.args.out.now.items c.declare-in-Token.new.out.items _ c.declare-in-Token.ensures refl refl (λ to. refl) refl refl

pub returns-in-Untoken : goal.returns-in-Untoken
returns-in-Untoken c = message_done c.args.self.now c.args.link.0 _ c.args.msg.now c.in-Untoken.is c.undeclare-in-Untoken.result c.undeclare-in-Untoken.new.self c.args.out.now.items c.undeclare-in-Untoken.new.out.items _ c.undeclare-in-Untoken.ensures refl refl (λ to. refl) refl refl

pub returns-in-Able : goal.returns-in-Able
returns-in-Able c =
    message_done c.args.self.now c.args.link.0 _ c.args.msg.now c.in-Able.is c.declare-in-Able.result c.declare-in-Able.new.self c.args.out.now.items c.declare-in-Able.new.out.items _
    (subst (λ (kind : Kind). IsDone (declare_part c.args.self.now c.args.link.0 (row c.args.link.0 c.in-Able.id kind c.in-Able.key)) c.declare-in-Able.result c.declare-in-Able.new.self c.args.out.now.items c.declare-in-Able.new.out.items) c.able_kind.ensures c.declare-in-Able.ensures)
    refl refl (λ to. refl) refl refl

pub returns-in-Unable : goal.returns-in-Unable
returns-in-Unable c = message_done c.args.self.now c.args.link.0 _ c.args.msg.now c.in-Unable.is c.undeclare-in-Unable.result c.undeclare-in-Unable.new.self c.args.out.now.items c.undeclare-in-Unable.new.out.items _ c.undeclare-in-Unable.ensures refl refl (λ to. refl) refl refl

pub returns-in-Interest : goal.returns-in-Interest
returns-in-Interest c =
    message_done c.args.self.now c.args.link.0 _ c.args.msg.now c.in-Interest.is c.interest.result c.interest.new.self c.args.out.now.items c.args.out.now.items _ (c.interest.ensures c.args.out.now.items) refl refl (λ to. refl) refl refl

pub returns-in-EndInterest : goal.returns-in-EndInterest
returns-in-EndInterest c =
    message_done c.args.self.now c.args.link.0 _ c.args.msg.now c.in-EndInterest.is c.end_interest.result c.end_interest.new.self c.args.out.now.items c.args.out.now.items _ (c.end_interest.ensures c.args.out.now.items) refl refl (λ to. refl)
    (end_allowed c.args.self.now c.args.link.0 c.in-EndInterest.id) refl
