use Rattle.std.proofs.Common.{Err, ap, sym, subst, ◌∙◌}
use Rattle.std.proofs.lemmas.Bool.{true≢false}
use Rattle.zr_told_spec.specs.Hub.{HubState}
use Rattle.zr_router_core.specs.Done.{IsDone}
use Rattle.zr_router_core.specs.declared.failure.HubFailure.{HubFailure}
use Rattle.zr_router_core.proofs.Joined.{self_state, self_sends, self_stays, self_prefix, not_early, never_memory, refused_else}
use Rattle.zr_router_core.proofs.hub.Hub.handle.Goals as goal

pub returns-in-Ok-clause-state : goal.returns-in-Ok-clause-state
returns-in-Ok-clause-state c = self_state c.self.inside.node c.self.inside.told c.self.inside.spent c.args.self.now c.self.view_is c.if-self.false (c.self.invariant c.if-self.false).0 c.args.event.now c.on_event.new.node c.on_event.new.told c.args.out.now.items c.on_event.new.out.items c.in-Ok.ensures.done c.in-Ok.ensures.sound

pub returns-in-Ok-clause-sends : goal.returns-in-Ok-clause-sends
returns-in-Ok-clause-sends c = self_sends c.self.inside.node c.self.inside.told c.self.inside.spent c.args.self.now c.self.view_is c.if-self.false (c.self.invariant c.if-self.false).0 c.args.event.now c.on_event.new.node c.on_event.new.told c.args.out.now.items c.on_event.new.out.items c.in-Ok.ensures.done

pub returns-in-Err-Refused-clause-unchanged : goal.returns-in-Err-Refused-clause-unchanged
returns-in-Err-Refused-clause-unchanged c = λ why h k.
    self_stays c.self.inside.node c.self.inside.told c.self.inside.spent c.args.self.now c.self.view_is c.if-self.false (c.self.invariant c.if-self.false).0 c.args.event.now c.on_event.new.node c.on_event.new.told c.args.out.now.items c.on_event.new.out.items c.in-Err-Refused.error
    (subst (λ (f : HubFailure). IsDone c.self.inside.node c.self.inside.told c.args.event.now (Err f) c.on_event.new.node c.on_event.new.told c.args.out.now.items c.on_event.new.out.items) c.in-Err-Refused.field-0-is c.in-Err-Refused.ensures.done)

pub returns-in-Err-NoMemory-clause-unchanged : goal.returns-in-Err-NoMemory-clause-unchanged
returns-in-Err-NoMemory-clause-unchanged c = λ why h k. absurd (never_memory c.self.inside.node c.self.inside.told c.self.inside.spent c.args.self.now c.self.view_is c.if-self.false (c.self.invariant c.if-self.false).0 c.args.event.now why h k)

pub returns-in-Err-NoMemory-clause-prefix : goal.returns-in-Err-NoMemory-clause-prefix
returns-in-Err-NoMemory-clause-prefix c = λ k.
    let d = subst (λ (f : HubFailure). IsDone c.self.inside.node c.self.inside.told c.args.event.now (Err f) c.on_event.new.node c.on_event.new.told c.args.out.now.items c.on_event.new.out.items) c.in-Err-NoMemory.field-0-is c.in-Err-NoMemory.ensures.done in
    self_prefix c.self.inside.node c.self.inside.told c.self.inside.spent c.args.self.now c.self.view_is c.if-self.false (c.self.invariant c.if-self.false).0 c.args.event.now c.args.out.now.items c.on_event.new.out.items d.sends

pub returns-in-Err-Refused-clause-spent : goal.returns-in-Err-Refused-clause-spent
returns-in-Err-Refused-clause-spent c =
    let d = subst (λ (f : HubFailure). IsDone c.self.inside.node c.self.inside.told c.args.event.now (Err f) c.on_event.new.node c.on_event.new.told c.args.out.now.items c.on_event.new.out.items) c.in-Err-Refused.field-0-is c.in-Err-Refused.ensures.done in
    let never = refused_else c.self.inside.node c.self.inside.told c.args.event.now c.in-Err-Refused.error d.node.refused in (
      λ k. absurd (never.1 k),
      λ k. absurd (true≢false (sym k ∙ sym (ap (λ (h : HubState). h.node.spent) c.self.view_is) ∙ c.if-self.false)),
    )

pub returns-in-Err-Refused-clause-memory : goal.returns-in-Err-Refused-clause-memory
returns-in-Err-Refused-clause-memory c = λ k.
    let d = subst (λ (f : HubFailure). IsDone c.self.inside.node c.self.inside.told c.args.event.now (Err f) c.on_event.new.node c.on_event.new.told c.args.out.now.items c.on_event.new.out.items) c.in-Err-Refused.field-0-is c.in-Err-Refused.ensures.done in
    absurd ((refused_else c.self.inside.node c.self.inside.told c.args.event.now c.in-Err-Refused.error d.node.refused).0 k)

pub returns-in-Err-Refused-clause-prefix : goal.returns-in-Err-Refused-clause-prefix
returns-in-Err-Refused-clause-prefix c = λ k.
    let d = subst (λ (f : HubFailure). IsDone c.self.inside.node c.self.inside.told c.args.event.now (Err f) c.on_event.new.node c.on_event.new.told c.args.out.now.items c.on_event.new.out.items) c.in-Err-Refused.field-0-is c.in-Err-Refused.ensures.done in
    absurd ((refused_else c.self.inside.node c.self.inside.told c.args.event.now c.in-Err-Refused.error d.node.refused).0 k)

pub returns-in-Err-Refused-clause-judged : goal.returns-in-Err-Refused-clause-judged
returns-in-Err-Refused-clause-judged c = λ k.
    let d = subst (λ (f : HubFailure). IsDone c.self.inside.node c.self.inside.told c.args.event.now (Err f) c.on_event.new.node c.on_event.new.told c.args.out.now.items c.on_event.new.out.items) c.in-Err-Refused.field-0-is c.in-Err-Refused.ensures.done in
    absurd ((refused_else c.self.inside.node c.self.inside.told c.args.event.now c.in-Err-Refused.error d.node.refused).0 k)

pub returns-in-Err-NoMemory-clause-judged : goal.returns-in-Err-NoMemory-clause-judged
returns-in-Err-NoMemory-clause-judged c = λ k.
    let d = subst (λ (f : HubFailure). IsDone c.self.inside.node c.self.inside.told c.args.event.now (Err f) c.on_event.new.node c.on_event.new.told c.args.out.now.items c.on_event.new.out.items) c.in-Err-NoMemory.field-0-is c.in-Err-NoMemory.ensures.done in
    not_early c.self.inside.node c.self.inside.told c.self.inside.spent c.args.self.now c.self.view_is c.if-self.false (c.self.invariant c.if-self.false).0 c.args.event.now d.late
