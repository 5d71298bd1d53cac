use Rattle.std.proofs.Common.{List, Err, refl, subst, ◌∙◌}
use Rattle.zr_id.specs.Record.{RecordState}
use Rattle.zr_msg.specs.declared.peer.Role.TheVariants.{Router}
use Rattle.zr_node_spec.specs.Snapshots.{sends_snapshots}
use Rattle.zr_node_spec.specs.Event.{Tells, TellsPrefix}
use Rattle.zr_node_spec.specs.State.{NodeState, tables}
use Rattle.zr_node.specs.Done.{IsLeft, IsDone}
use Rattle.zr_node.specs.Steps.{parting_part, down_part, parted_from, news_to}
use Rattle.zr_node.specs.declared.failure.NodeFailure.TheVariants.{NoMemory}
use Rattle.zr_node.proofs.Done.{failed, first_failed, nothing_sent, then_prefix, then_told}
use Rattle.zr_node.proofs.Early.{parting_late}
use Rattle.zr_node.proofs.Ups.{part_first, down_state, news_told}
use Rattle.zr_node.proofs.node.Node.router_down.Goals as goal

pub returns-in-Err : goal.returns-in-Err
returns-in-Err c =
    first_failed (parting_part c.args.self.now c.args.link.0 c.args.peer.now) (down_part c.args.self.now c.args.link.0 c.args.peer.now) (λ to. news_to c.args.self.now (parted_from c.args.self.now c.args.link.0 c.args.peer.now) to) (part_first c.args.self.now c.args.link c.args.peer.now) c.in-Err.failure c.part.new.self c.args.out.now.items c.part.new.out.items
    (subst (λ (m : NodeState). IsDone (parting_part m c.args.link.0 c.args.peer.now) (Err c.in-Err.failure) c.part.new.self c.args.out.now.items c.part.new.out.items) c.in_ok-before.ensures.same c.in-Err.ensures)

pub returns-in_err-tell_new_children-in-Ok : goal.returns-in_err-tell_new_children-in-Ok
returns-in_err-tell_new_children-in-Ok c =
    failed (down_part c.args.self.now c.args.link.0 c.args.peer.now) NoMemory c.from_residual-in_err-tell_new_children-in-Ok.result c.tell_new_children.new.self c.args.out.now.items c.tell_new_children.new.out.items c.from_residual-in_err-tell_new_children-in-Ok.ensures.1
    (then_prefix (parting_part c.args.self.now c.args.link.0 c.args.peer.now) (down_part c.args.self.now c.args.link.0 c.args.peer.now) (λ to. news_to c.args.self.now (parted_from c.args.self.now c.args.link.0 c.args.peer.now) to) (part_first c.args.self.now c.args.link c.args.peer.now) c.part.new.self c.args.out.now.items c.part.new.out.items c.tell_new_children.new.out.items (subst (λ (m : NodeState). IsLeft (parting_part m c.args.link.0 c.args.peer.now) c.part.new.self c.args.out.now.items c.part.new.out.items) c.in_ok-before.ensures.same c.in-Ok.ensures)
    (news_told (λ (m : NodeState) (records : List RecordState). TellsPrefix (sends_snapshots (tables m) records) c.part.new.out.items c.tell_new_children.new.out.items) c.args.self.now c.remove.new.self (parted_from c.args.self.now c.args.link.0 c.args.peer.now) c.in_ok-before.before.family (down_state c.args.self.now c.take_before.new.self c.part.new.self c.remove.new.self c.args.link.0 c.args.peer.now c.in_ok-before.ensures.same c.in-Ok.ensures.state c.remove.ensures) refl
    c.in_ok-before.ensures.children c.in_ok-before.ensures.none refl c.in_err-tell_new_children-in-Ok.ensures.prefix))

pub returns-in_ok-tell_new_children-in-Ok : goal.returns-in_ok-tell_new_children-in-Ok
returns-in_ok-tell_new_children-in-Ok c =
    then_told (parting_part c.args.self.now c.args.link.0 c.args.peer.now) (down_part c.args.self.now c.args.link.0 c.args.peer.now) (λ to. news_to c.args.self.now (parted_from c.args.self.now c.args.link.0 c.args.peer.now) to) (part_first c.args.self.now c.args.link c.args.peer.now) c.part.new.self c.tell_new_children.new.self c.args.out.now.items c.part.new.out.items c.tell_new_children.new.out.items (subst (λ (m : NodeState). IsLeft (parting_part m c.args.link.0 c.args.peer.now) c.part.new.self c.args.out.now.items c.part.new.out.items) c.in_ok-before.ensures.same c.in-Ok.ensures)
    (news_told (λ (m : NodeState) (records : List RecordState). Tells (sends_snapshots (tables m) records) c.part.new.out.items c.tell_new_children.new.out.items) c.args.self.now c.remove.new.self (parted_from c.args.self.now c.args.link.0 c.args.peer.now) c.in_ok-before.before.family (down_state c.args.self.now c.take_before.new.self c.part.new.self c.remove.new.self c.args.link.0 c.args.peer.now c.in_ok-before.ensures.same c.in-Ok.ensures.state c.remove.ensures) refl
    c.in_ok-before.ensures.children c.in_ok-before.ensures.none refl c.in_ok-tell_new_children-in-Ok.ensures.sends)
    (c.in_ok-tell_new_children-in-Ok.ensures.same ∙ (down_state c.args.self.now c.take_before.new.self c.part.new.self c.remove.new.self c.args.link.0 c.args.peer.now c.in_ok-before.ensures.same c.in-Ok.ensures.state c.remove.ensures))

pub returns-in_err-before : goal.returns-in_err-before
returns-in_err-before c = nothing_sent (down_part c.args.self.now c.args.link.0 c.args.peer.now) c.from_residual.result _ c.args.out.now.items c.from_residual.ensures.1 (parting_late c.args.self.now.base Router)
