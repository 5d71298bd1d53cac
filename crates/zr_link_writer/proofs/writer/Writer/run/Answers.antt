use Rattle.std.proofs.Common.{rules, ◌≤◌, ◌∙◌, Ok, ap, sym, subst, refl, arith}
use Rattle.zr_outside.proofs.Appending.{prefix_whole}
use Rattle.zr_ring.specs.Taker.{taken}
use Rattle.zr_link_writer.specs.Writing.{Goes}
use Rattle.zr_link_writer.proofs.Going.{goes_first, writes_prefix, turns_part}
use Rattle.zr_link_writer.proofs.writer.Writer.run.Goals as goal

pub loop-init : goal.loop-init
loop-init g c = (
  omega arith,
  (refl, refl),
  refl,
  omega (arith, c.new-joined.ensures.now),
  omega (arith, c.new-joined.ensures.now.1),
  subst (λ w. Goes (taken c.args.taker.now) (taken c.args.taker.now) (g.C.Clock.last c.args.clock.now) c.new-joined.result.moment w (g.K.Sink.held c.args.sink.now) (g.K.Sink.held c.args.sink.now))
      (sym c.new-joined.ensures.empty) (goes_first _ _ _ _ c.new-joined.ensures.now.0),
  refl,
)

pub returns-in-Err-clause-written : goal.returns-in-Err-clause-written
returns-in-Err-clause-written g c = c.in-Err.ensures.part _ _ _ c.loop.invariant.5

pub returns-in-Ok-Ended-clause-whole : goal.returns-in-Ok-Ended-clause-whole
returns-in-Ok-Ended-clause-whole g c reason done = c.take_one.ensures.whole _ (c.in-Ok-Ended.is ∙ ap Ok c.in-Ok-Ended.field-0-is) _ _ _ c.loop.invariant.5

pub returns-in-Ok-Ended-clause-written : goal.returns-in-Ok-Ended-clause-written
returns-in-Ok-Ended-clause-written g c =
    writes_prefix _ _ _ _ _ _ _ (c.take_one.ensures.whole _ (c.in-Ok-Ended.is ∙ ap Ok c.in-Ok-Ended.field-0-is) _ _ _ c.loop.invariant.5)

pub returns-in-Ok-clause-written : goal.returns-in-Ok-clause-written
returns-in-Ok-clause-written g c =
    let inv = c.loop.invariant in
    turns_part _ _ _ c.loop.joined.moment _ c.loop.joined.bytes.items _ _ (g.K.Sink.held c.loop.sink) _ inv.5 (prefix_whole _ _ _ c.in-Ok.ensures.wrote)
    (omega (arith, inv.4, c.flush.ensures.clock))

pub returns-clause-written : goal.returns-clause-written
returns-clause-written g c =
    let inv = c.loop.invariant in
    turns_part _ _ _ c.loop.joined.moment _ c.loop.joined.bytes.items _ _ (g.K.Sink.held c.loop.sink) _ inv.5 c.in-Err-flush.ensures.part
    (omega (arith, inv.4, c.flush.ensures.clock))
