-- The outbox returns to its mark, and packs from there on; so its queue is seen as it was, whatever came of the plan.
use Rattle.std.proofs.Common.{◌≡◌, ◌<◌, None, length, option_map, refl, ap, subst, sym, ◌∙◌}
use Rattle.zr_node_spec.specs.Event.{on_link}
use Rattle.zr_frame_pack.specs.Marks.{IsMarkOf}
use Rattle.zr_frame_pack.proofs.Returning.{back_later, back_now}
use Rattle.zr_router_queue.specs.Ends.{EndState, IsOver, IsPlannedFor}
use Rattle.zr_router_queue.specs.Planned.{planned}
use Rattle.zr_router_queue.proofs.Batches.{map_none}
use Rattle.zr_router_queue.proofs.Planning.{asked_anew, planned_anew, queue_back, some_map}
use Rattle.zr_router_queue.proofs.link_end.LinkSender.plan.Goals as goal

-- a link that is closed
pub returns-then-is_some-clause-queue : goal.returns-then-is_some-clause-queue
returns-then-is_some-clause-queue c =
    queue_back _ _ _ (ap (λ (e : EndState). e.queue) c.self.view_is) (back_now c.self.inside.outbox c.return_to.new.self c.self.inside.mark c.return_to.ensures)

pub returns-then-is_some-clause-planned : goal.returns-then-is_some-clause-planned
returns-then-is_some-clause-planned c = some_map (λ d. d.asked) c.self.inside.closed (sym c.is_some.ensures ∙ c.if-is_some.true)

-- memory ran out
pub returns-in_err-plan-clause-queue : goal.returns-in_err-plan-clause-queue
returns-in_err-plan-clause-queue c =
    let is : IsMarkOf c.self.inside.outbox.names c.self.inside.mark = record { alike = c.self.inside.alike; kept = c.self.inside.kept } in
    let back = back_later c.self.inside.outbox c.return_to.new.self c.of.new.outbox c.self.inside.mark is c.return_to.ensures c.of.ensures.later in
    queue_back _ _ _ (ap (λ (e : EndState). e.queue) c.self.view_is) back.0

pub returns-in_err-plan-clause-asked : goal.returns-in_err-plan-clause-asked
returns-in_err-plan-clause-asked c = (ap (λ (e : EndState). e.ring) c.self.view_is, tt)

-- the plan is kept
pub returns-clause-queue : goal.returns-clause-queue
returns-clause-queue c =
    let is : IsMarkOf c.self.inside.outbox.names c.self.inside.mark = record { alike = c.self.inside.alike; kept = c.self.inside.kept } in
    let back = back_later c.self.inside.outbox c.return_to.new.self c.of.new.outbox c.self.inside.mark is c.return_to.ensures c.of.ensures.later in
    c.ask.ensures.same.0 ∙ queue_back _ _ _ (ap (λ (e : EndState). e.queue) c.self.view_is) back.0

pub returns-clause-planned : goal.returns-clause-planned
returns-clause-planned c =
    let o = c.self.inside.outbox in
    let later = c.of.new.outbox in
    let mark = c.self.inside.mark in
    let is : IsMarkOf o.names mark = record { alike = c.self.inside.alike; kept = c.self.inside.kept } in
    let plan = c.in_ok-plan.plan in
    let asked = c.ask.ensures in
    let count = c.count-parcels.ensures in
    let unclosed : option_map (λ d. d.asked) c.self.inside.closed ≡ None = map_none (λ d. d.asked) c.self.inside.closed (sym c.is_some.ensures ∙ c.if-is_some.false) in
    subst (λ l. IsPlannedFor (on_link l c.args.sent.now) c.ask.new.self) (ap (λ (e : EndState). e.queue.link) c.self.view_is)
    (planned_anew (on_link c.self.inside.link c.args.sent.now) c.ask.new.self _ o c.return_to.new.self later mark (planned later plan) is c.return_to.ensures c.of.ensures.later refl unclosed
    c.in_ok-plan.ensures.batches c.in_ok-plan.ensures.outbox c.in_ok-plan.ensures.droppable asked.same.0 asked.same.2
    c.count-parcels.result count asked.answer)

pub returns-clause-asked : goal.returns-clause-asked
returns-clause-asked c =
    let asked = c.ask.ensures in
    let count = c.count-parcels.ensures in
    asked_anew c.args.self.now c.ask.new.self (planned c.of.new.outbox c.in_ok-plan.plan) _ (asked.same.1 ∙ ap (λ (e : EndState). e.ring) c.self.view_is)
    (ap (λ (e : EndState). e.calls) c.self.view_is) asked.same.2 (λ some. asked.called (subst (λ n. 0 < n) (sym count) some))
