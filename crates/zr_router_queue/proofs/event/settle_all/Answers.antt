use Rattle.std.proofs.Common.{◌≡◌, ◌<◌, length, get_or, sym, subst, ◌∙◌, arith}
use Rattle.zr_hist.specs.Words.{seen}
use Rattle.zr_told_spec.specs.Hub.{HubState}
use Rattle.zr_router_queue.specs.Ends.{IsEntered, IsSettled}
use Rattle.zr_router_queue.proofs.Stepped.{IsStepped, stepped_all, stepped_more, stepped_next}
use Rattle.zr_router_queue.proofs.event.settle_all.Goals as goal

pub settle-requires-clause-entered : goal.settle-requires-clause-entered
settle-requires-clause-entered c =
    let inv = c.loop-end.invariant in
    let same = stepped_next (λ old new. IsSettled c.args.entry.now old new) c.loop-end.end-index c.args.ends.now c.loop-end.ends c.end-item.result inv.3 in
    subst (λ l. (hub : HubState) × IsEntered c.args.me l hub c.args.entry.now (get_or c.loop-end.ends c.loop-end.end-index c.end-item.result)) (sym inv.1)
    (subst (λ x. (hub : HubState) × IsEntered c.args.me (seen c.args.pass.now) hub c.args.entry.now x) (sym same)
    (c.requires.entered c.loop-end.end-index c.end-item.result c.loop-end-test.true))

pub loop-end-preserved : goal.loop-end-preserved
loop-end-preserved c =
    let inv = c.loop-end.invariant in
    let same = stepped_next (λ old new. IsSettled c.args.entry.now old new) c.loop-end.end-index c.args.ends.now c.loop-end.ends c.end-item.result inv.3 in
    let within : c.loop-end.end-index < length c.loop-end.ends = omega arith in
    let pass = c.settle.ensures.pass in
    let settled : IsSettled c.args.entry.now (get_or c.loop-end.ends c.loop-end.end-index c.end-item.result) c.settle.new.self = (c.settle.ensures.queue, c.settle.ensures.ring) in (
      (pass.0.0 ∙ inv.0.0, pass.0.1 ∙ inv.0.1),
      pass.1 ∙ inv.1,
      pass.2 ∙ inv.2,
      stepped_more (λ old new. IsSettled c.args.entry.now old new) c.loop-end.end-index c.args.ends.now c.loop-end.ends c.end-item.result c.settle.new.self within inv.3
          (subst (λ old. IsSettled c.args.entry.now old c.settle.new.self) same settled),
    )

pub returns-clause-each : goal.returns-clause-each
returns-clause-each c =
    let all : c.loop-end.end-index ≡ length c.args.ends.now = omega arith in
    stepped_all (λ old new. IsSettled c.args.entry.now old new) c.args.ends.now c.loop-end.ends
    (subst (λ n. IsStepped (λ old new. IsSettled c.args.entry.now old new) n c.args.ends.now c.loop-end.ends) all c.loop-end.invariant.3)
