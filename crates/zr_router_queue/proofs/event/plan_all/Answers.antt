use Rattle.std.proofs.Common.{◌≡◌, ◌<◌, length, get_or, refl, subst, arith}
use Rattle.zr_node_spec.specs.Event.{on_link}
use Rattle.zr_router_queue.specs.Ends.{EndState, IsPlannedAnew, IsStill}
use Rattle.zr_router_queue.proofs.Stepped.{IsStepped, stepped_all, stepped_more, stepped_next, stepped_part, zip_same, zip_so}
use Rattle.zr_router_queue.proofs.event.plan_all.Goals as goal

pub loop-end-preserved : goal.loop-end-preserved
loop-end-preserved c =
    let R = λ (old new : EndState). IsPlannedAnew (on_link old.queue.link c.args.sent.now) old new in
    let same = stepped_next R c.loop-end.end-index c.args.ends.now c.loop-end.ends c.end-item.result c.loop-end.invariant in
    let within : c.loop-end.end-index < length c.loop-end.ends = omega arith in
    let planned : R (get_or c.loop-end.ends c.loop-end.end-index c.end-item.result) c.plan.new.self = (c.in_ok-plan.ensures.queue, c.in_ok-plan.ensures.planned, c.in_ok-plan.ensures.asked) in
    stepped_more R c.loop-end.end-index c.args.ends.now c.loop-end.ends c.end-item.result c.plan.new.self within c.loop-end.invariant (subst (λ old. R old c.plan.new.self) same planned)

pub returns-clause-planned : goal.returns-clause-planned
returns-clause-planned c =
    let R = λ (old new : EndState). IsPlannedAnew (on_link old.queue.link c.args.sent.now) old new in
    let all : c.loop-end.end-index ≡ length c.args.ends.now = omega arith in
    stepped_all R c.args.ends.now c.loop-end.ends (subst (λ n. IsStepped R n c.args.ends.now c.loop-end.ends) all c.loop-end.invariant)

pub returns-clause-still : goal.returns-clause-still
returns-clause-still c =
    zip_so (λ old new. IsPlannedAnew (on_link old.queue.link c.args.sent.now) old new) (λ old new. IsStill old new) (λ old new p. (p.0, p.2.0)) c.args.ends.now c.loop-end.ends
    (returns-clause-planned c)

-- ---- memory ran out

pub returns-in_err-written-clause-still : goal.returns-in_err-written-clause-still
returns-in_err-written-clause-still c = zip_same (λ old new. IsStill old new) (λ x. (refl, refl)) c.args.ends.now

pub returns-in_err-scratch-clause-still : goal.returns-in_err-scratch-clause-still
returns-in_err-scratch-clause-still c = zip_same (λ old new. IsStill old new) (λ x. (refl, refl)) c.args.ends.now

pub returns-in_err-plan-clause-still : goal.returns-in_err-plan-clause-still
returns-in_err-plan-clause-still c =
    let R = λ (old new : EndState). IsPlannedAnew (on_link old.queue.link c.args.sent.now) old new in
    let S = λ (old new : EndState). IsStill old new in
    let same = stepped_next R c.loop-end.end-index c.args.ends.now c.loop-end.ends c.end-item.result c.loop-end.invariant in
    let within : c.loop-end.end-index < length c.loop-end.ends = omega arith in
    let still : S (get_or c.loop-end.ends c.loop-end.end-index c.end-item.result) c.plan.new.self = (c.plan.ensures.queue, c.plan.ensures.asked.0) in
    stepped_part R S (λ old new p. (p.0, p.2.0)) (λ x. (refl, refl)) c.loop-end.end-index c.args.ends.now c.loop-end.ends c.end-item.result c.plan.new.self within c.loop-end.invariant
    (subst (λ old. S old c.plan.new.self) same still)
