use Rattle.std.proofs.Common.{refl, subst}
use Rattle.zr_msg.specs.declared.decl.Decl.{Decl}
use Rattle.zr_node.specs.Done.{IsDone}
use Rattle.zr_node.specs.Steps.{step_part}
use Rattle.zr_node.proofs.Parts.{message_done, at_message}
use Rattle.zr_node.proofs.node.Node.on_flooded.Goals as goal

pub returns-in-State : goal.returns-in-State
returns-in-State c = at_message c.args.self.now c.args.link.0 _ c.args.msg.now c.in-State.is c.accept.result c.accept.new.self c.args.out.now.items c.accept.new.out.items c.accept.ensures

pub returns-in-Step : goal.returns-in-Step
returns-in-Step c =
    message_done c.args.self.now c.args.link.0 _ c.args.msg.now c.in-Step.is c.step.result c.step.new.self c.args.out.now.items c.step.new.out.items _
    (subst (λ (decl : Decl). IsDone (step_part c.args.self.now c.args.link.0 c.in-Step.source c.in-Step.number (record { added = c.in-Step.added; decl = decl })) c.step.result c.step.new.self c.args.out.now.items c.step.new.out.items) c.get.ensures c.step.ensures)
    refl refl (λ to. refl) refl refl

pub returns-in-Snap : goal.returns-in-Snap
returns-in-Snap c = message_done c.args.self.now c.args.link.0 _ c.args.msg.now c.in-Snap.is c.snap.result c.snap.new.self c.args.out.now.items c.snap.new.out.items _ c.snap.ensures refl refl (λ to. refl) refl refl
