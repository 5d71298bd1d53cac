use Rattle.std.proofs.Common.{◌<◌, ◌≡◌, ◌∙◌, length, le_trans, arith, subst, sym}
use Rattle.zr_outside.proofs.Counting.{rose_since}
use Rattle.zr_serve.proofs.Reaching.{dials_all_at, dials_more_at, dials_stop}
use Rattle.zr_serve.proofs.service.dial_all.Goals as goal

pub returns-in-Err-clause-stopped : goal.returns-in-Err-clause-stopped
returns-in-Err-clause-stopped g c =
    dials_stop c.args.targets.now c.loop-target.target-index c.target-item.result _ _ _ c.loop-target-test.true
    c.target-item.is c.loop-target.invariant.0 c.in-Err.ensures.stopped

pub loop-target-preserved : goal.loop-target-preserved
loop-target-preserved g c = (
  dials_more_at c.args.targets.now c.loop-target.target-index c.target-item.result _ _ _ c.loop-target-test.true
      c.target-item.is c.loop-target.invariant.0 c.in_default.ensures.dialled,
  le_trans c.loop-target.invariant.1 c.in_default.ensures.later.0,
  le_trans c.loop-target.invariant.2 c.in_default.ensures.later.1,
  le_trans c.loop-target.invariant.3 c.in_default.ensures.later.2,
  c.in_default.ensures.only ∙ c.loop-target.invariant.4,
  c.in_default.ensures.undrawn ∙ c.loop-target.invariant.5,
  c.in_default.ensures.same ∙ c.loop-target.invariant.6,
)

pub returns-in-Err-clause-cause : goal.returns-in-Err-clause-cause
returns-in-Err-clause-cause g c = (c.in-Err.ensures.cause.0, c.in-Err.ensures.cause.1, λ e. rose_since _ _ _ c.loop-target.invariant.1 (c.in-Err.ensures.cause.2 e))

pub returns-in-Err-clause-later : goal.returns-in-Err-clause-later
returns-in-Err-clause-later g c = (
  le_trans c.loop-target.invariant.1 c.in-Err.ensures.later.0,
  le_trans c.loop-target.invariant.2 c.in-Err.ensures.later.1,
  le_trans c.loop-target.invariant.3 c.in-Err.ensures.later.2,
)

pub returns-clause-dialled : goal.returns-clause-dialled
returns-clause-dialled g c =
    let all : c.loop-target.target-index ≡ length c.args.targets.now = omega arith in
    dials_all_at c.args.targets.now _ _ _ all c.loop-target.invariant.0

pub returns-in-Err-clause-undrawn : goal.returns-in-Err-clause-undrawn
returns-in-Err-clause-undrawn g c = c.in-Err.ensures.undrawn ∙ c.loop-target.invariant.5

pub returns-clause-undrawn : goal.returns-clause-undrawn
returns-clause-undrawn g c = c.loop-target.invariant.5

pub returns-clause-later : goal.returns-clause-later
returns-clause-later g c = (c.loop-target.invariant.1, c.loop-target.invariant.2, c.loop-target.invariant.3)

pub returns-in-Err-clause-only : goal.returns-in-Err-clause-only
returns-in-Err-clause-only g c =
    λ rose. c.in-Err.ensures.only (subst (λ n. n < g.E.Sink.faults c.dial.new.err) (sym c.loop-target.invariant.4) rose)

pub returns-clause-only : goal.returns-clause-only
returns-clause-only g c = c.loop-target.invariant.4

pub returns-in-Err-clause-same : goal.returns-in-Err-clause-same
returns-in-Err-clause-same g c = c.in-Err.ensures.same ∙ c.loop-target.invariant.6

pub returns-clause-same : goal.returns-clause-same
returns-clause-same g c = c.loop-target.invariant.6
