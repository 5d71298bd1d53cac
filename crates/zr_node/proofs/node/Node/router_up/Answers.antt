use Rattle.std.proofs.Common.{List, Err, refl, subst, ◌∙◌}
use Rattle.zr_id.specs.Record.{RecordState}
use Rattle.zr_msg.specs.declared.peer.Role.TheVariants.{Router}
use Rattle.zr_node_spec.specs.Snapshots.{sends_snapshots}
use Rattle.zr_node_spec.specs.Event.{Tells, TellsPrefix}
use Rattle.zr_node_spec.specs.State.{NodeState, tables}
use Rattle.zr_node.specs.Done.{IsLeft, IsDone}
use Rattle.zr_node.specs.Steps.{join_part, up_part, up_as, news_to}
use Rattle.zr_node.specs.declared.failure.NodeFailure.TheVariants.{NoMemory}
use Rattle.zr_node.proofs.Done.{failed, first_failed, nothing_sent, then_nothing, then_prefix, then_told}
use Rattle.zr_node.proofs.Early.{up_late}
use Rattle.zr_node.proofs.Ups.{join_first, up_state, news_told}
use Rattle.zr_node.proofs.node.Node.router_up.Goals as goal

pub returns-in-Err : goal.returns-in-Err
returns-in-Err c =
    first_failed (join_part c.args.self.now c.args.link c.args.peer.now) (up_part c.args.self.now c.args.link c.args.peer.now Router) (λ to. news_to c.args.self.now (up_as c.args.self.now c.args.link c.args.peer.now Router) to) (join_first c.args.self.now c.args.link c.args.peer.now) c.in-Err.failure c.join.new.self c.args.out.now.items c.join.new.out.items
    (subst (λ (m : NodeState). IsDone (join_part m c.args.link c.args.peer.now) (Err c.in-Err.failure) c.join.new.self c.args.out.now.items c.join.new.out.items) c.in_ok-before.ensures.same c.in-Err.ensures)

pub returns-in_err-add-in-Ok : goal.returns-in_err-add-in-Ok
returns-in_err-add-in-Ok c =
    failed (up_part c.args.self.now c.args.link c.args.peer.now Router) NoMemory c.from_residual-in_err-add-in-Ok.result c.add.new.self c.args.out.now.items c.join.new.out.items c.from_residual-in_err-add-in-Ok.ensures.1
    (then_nothing (join_part c.args.self.now c.args.link c.args.peer.now) (up_part c.args.self.now c.args.link c.args.peer.now Router) (λ to. news_to c.args.self.now (up_as c.args.self.now c.args.link c.args.peer.now Router) to) (join_first c.args.self.now c.args.link c.args.peer.now) c.join.new.self c.args.out.now.items c.join.new.out.items (subst (λ (m : NodeState). IsLeft (join_part m c.args.link c.args.peer.now) c.join.new.self c.args.out.now.items c.join.new.out.items) c.in_ok-before.ensures.same c.in-Ok.ensures))

pub returns-in_err-tell_new_children-in-Ok : goal.returns-in_err-tell_new_children-in-Ok
returns-in_err-tell_new_children-in-Ok c =
    failed (up_part c.args.self.now c.args.link c.args.peer.now Router) NoMemory c.from_residual-in_err-tell_new_children-in-Ok.result c.tell_new_children.new.self c.args.out.now.items c.tell_new_children.new.out.items c.from_residual-in_err-tell_new_children-in-Ok.ensures.1
    (then_prefix (join_part c.args.self.now c.args.link c.args.peer.now) (up_part c.args.self.now c.args.link c.args.peer.now Router) (λ to. news_to c.args.self.now (up_as c.args.self.now c.args.link c.args.peer.now Router) to) (join_first c.args.self.now c.args.link c.args.peer.now) c.join.new.self c.args.out.now.items c.join.new.out.items c.tell_new_children.new.out.items (subst (λ (m : NodeState). IsLeft (join_part m c.args.link c.args.peer.now) c.join.new.self c.args.out.now.items c.join.new.out.items) c.in_ok-before.ensures.same c.in-Ok.ensures)
    (news_told (λ (m : NodeState) (records : List RecordState). TellsPrefix (sends_snapshots (tables m) records) c.join.new.out.items c.tell_new_children.new.out.items) c.args.self.now c.add.new.self (up_as c.args.self.now c.args.link c.args.peer.now Router) c.in_ok-before.before.family (up_state c.args.self.now c.take_before.new.self c.join.new.self c.add.new.self c.args.link c.args.peer.now c.in_ok-before.ensures.same c.in-Ok.ensures.state c.in_ok-add-in-Ok.ensures) refl
    c.in_ok-before.ensures.children c.in_ok-before.ensures.none refl c.in_err-tell_new_children-in-Ok.ensures.prefix))

pub returns-in_ok-tell_new_children-in-Ok : goal.returns-in_ok-tell_new_children-in-Ok
returns-in_ok-tell_new_children-in-Ok c =
    then_told (join_part c.args.self.now c.args.link c.args.peer.now) (up_part c.args.self.now c.args.link c.args.peer.now Router) (λ to. news_to c.args.self.now (up_as c.args.self.now c.args.link c.args.peer.now Router) to) (join_first c.args.self.now c.args.link c.args.peer.now) c.join.new.self c.tell_new_children.new.self c.args.out.now.items c.join.new.out.items c.tell_new_children.new.out.items (subst (λ (m : NodeState). IsLeft (join_part m c.args.link c.args.peer.now) c.join.new.self c.args.out.now.items c.join.new.out.items) c.in_ok-before.ensures.same c.in-Ok.ensures)
    (news_told (λ (m : NodeState) (records : List RecordState). Tells (sends_snapshots (tables m) records) c.join.new.out.items c.tell_new_children.new.out.items) c.args.self.now c.add.new.self (up_as c.args.self.now c.args.link c.args.peer.now Router) c.in_ok-before.before.family (up_state c.args.self.now c.take_before.new.self c.join.new.self c.add.new.self c.args.link c.args.peer.now c.in_ok-before.ensures.same c.in-Ok.ensures.state c.in_ok-add-in-Ok.ensures) refl
    c.in_ok-before.ensures.children c.in_ok-before.ensures.none refl c.in_ok-tell_new_children-in-Ok.ensures.sends)
    (c.in_ok-tell_new_children-in-Ok.ensures.same ∙ (up_state c.args.self.now c.take_before.new.self c.join.new.self c.add.new.self c.args.link c.args.peer.now c.in_ok-before.ensures.same c.in-Ok.ensures.state c.in_ok-add-in-Ok.ensures))

pub returns-in_err-before : goal.returns-in_err-before
returns-in_err-before c = nothing_sent (up_part c.args.self.now c.args.link c.args.peer.now Router) c.from_residual.result _ c.args.out.now.items c.from_residual.ensures.1 (up_late c.args.self.now.base Router)
