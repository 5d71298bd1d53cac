use Rattle.std.proofs.Common.{◌≡◌, false, sym, subst, ◌∙◌}
use Rattle.std.proofs.lemmas.Bool.{true≢false}
use Rattle.zr_node_spec.specs.State.{NodeState}
use Rattle.zr_node.proofs.Handled.{refused_not_memory, refused_not_spent, memory_not_refused, not_early}
use Rattle.zr_node.proofs.node.Node.handle.Goals as goal

pub returns-in-Err-Refused-clause-spent : goal.returns-in-Err-Refused-clause-spent
returns-in-Err-Refused-clause-spent c =
    let awake : c.args.self.now.spent ≡ false = subst (λ (m : NodeState). m.spent ≡ false) c.self.view_is c.if-self.false in
    (λ e. absurd (refused_not_spent c.args.self.now c.args.event.now c.in-Err-Refused.error c.in-Err-Refused.field-0 c.on_event.new.self c.args.out.now.items c.on_event.new.out.items c.in-Err-Refused.field-0-is c.in-Err-Refused.ensures e), λ spent. absurd (true≢false (sym spent ∙ awake)))

pub returns-in-Err-Refused-clause-memory : goal.returns-in-Err-Refused-clause-memory
returns-in-Err-Refused-clause-memory c = λ e. absurd (refused_not_memory c.args.self.now c.args.event.now c.in-Err-Refused.error c.in-Err-Refused.field-0 c.on_event.new.self c.args.out.now.items c.on_event.new.out.items c.in-Err-Refused.field-0-is c.in-Err-Refused.ensures e)

pub returns-in-Err-Refused-clause-prefix : goal.returns-in-Err-Refused-clause-prefix
returns-in-Err-Refused-clause-prefix c = λ e. absurd (refused_not_memory c.args.self.now c.args.event.now c.in-Err-Refused.error c.in-Err-Refused.field-0 c.on_event.new.self c.args.out.now.items c.on_event.new.out.items c.in-Err-Refused.field-0-is c.in-Err-Refused.ensures e)

pub returns-in-Err-NoMemory-clause-unchanged : goal.returns-in-Err-NoMemory-clause-unchanged
returns-in-Err-NoMemory-clause-unchanged c =
    let awake : c.args.self.now.spent ≡ false = subst (λ (m : NodeState). m.spent ≡ false) c.self.view_is c.if-self.false in
    λ why h e. absurd (memory_not_refused c.args.self.now c.args.event.now awake why h e)

pub returns-in-Err-Refused-clause-judged : goal.returns-in-Err-Refused-clause-judged
returns-in-Err-Refused-clause-judged c = λ e. absurd (refused_not_memory c.args.self.now c.args.event.now c.in-Err-Refused.error c.in-Err-Refused.field-0 c.on_event.new.self c.args.out.now.items c.on_event.new.out.items c.in-Err-Refused.field-0-is c.in-Err-Refused.ensures e)

pub returns-in-Err-NoMemory-clause-judged : goal.returns-in-Err-NoMemory-clause-judged
returns-in-Err-NoMemory-clause-judged c =
    let awake : c.args.self.now.spent ≡ false = subst (λ (m : NodeState). m.spent ≡ false) c.self.view_is c.if-self.false in
    λ e. not_early c.args.self.now c.args.event.now awake c.in-Err-NoMemory.field-0 c.on_event.new.self c.args.out.now.items c.on_event.new.out.items c.in-Err-NoMemory.field-0-is c.in-Err-NoMemory.ensures
