use Rattle.std.proofs.Common.{◌++◌, ◌≤◌, length, length-append, subst, sym, arith}
use Rattle.zr_frame_batch.specs.Framing.{framed}
use Rattle.zr_ring.specs.Taker.{taken}
use Rattle.zr_link_writer.specs.Writing.{Carries, Goes}
use Rattle.zr_link_writer.specs.Brief.{most_brief}
use Rattle.zr_link_writer.proofs.Carrying.{carries_joined}
use Rattle.zr_link_writer.proofs.Going.{goes_parcel, goes_apart, goes_carried, goes_end, stops_apart, stops_waiting}
use Rattle.zr_link_writer.proofs.step.take_briefly.Goals as goal

pub returns-in-All-clause-goes : goal.returns-in-All-clause-goes
returns-in-All-clause-goes g c before start held h =
    let added = subst (λ z. Carries (g.K.Sink.held c.args.sink.now) (g.K.Sink.held c.add_briefly.new.sink) c.add_briefly.new.self.bytes.items (c.args.joined.now.bytes.items ++ framed z)) c.parts.ensures c.in-All.ensures.added in
    goes_parcel before (taken c.args.taker.now) _ start c.args.joined.now.moment _ c.args.joined.now.bytes.items _ held (g.K.Sink.held c.args.sink.now) _ c.in-Parcel.parcel h
    c.in-Parcel.ensures.tells.0 added (omega arith)

pub returns-then-head-body-gt-MOST_BRIEF-clause-goes : goal.returns-then-head-body-gt-MOST_BRIEF-clause-goes
returns-then-head-body-gt-MOST_BRIEF-clause-goes g c before start held h =
    goes_apart before (taken c.args.taker.now) _ start c.args.joined.now.moment c.args.joined.now.bytes.items _ held (g.K.Sink.held c.args.sink.now) _ c.in-Parcel.parcel h
    c.in-Parcel.ensures.tells.0 (carries_joined c.args.joined.now.bytes.items (g.K.Sink.held c.args.sink.now))

pub returns-in-All-clause-short : goal.returns-in-All-clause-short
returns-in-All-clause-short g c more =
    let short = subst (λ z. length z ≤ most_brief) c.parts.ensures (omega (arith, length-append c.parts.result.0.now c.parts.result.1.now, c.if-head-body-gt-MOST_BRIEF.false)) in
    (c.in-Parcel.parcel, c.in-Parcel.ensures.tells.0, short)

pub returns-in-Part-clause-goes : goal.returns-in-Part-clause-goes
returns-in-Part-clause-goes g c before start held h =
    goes_apart before (taken c.args.taker.now) _ start c.args.joined.now.moment c.args.joined.now.bytes.items _ held (g.K.Sink.held c.args.sink.now) _ c.in-Parcel.parcel h
    c.in-Parcel.ensures.tells.0 c.in-Part.ensures.added

pub returns-in-Fault-clause-goes : goal.returns-in-Fault-clause-goes
returns-in-Fault-clause-goes g c before start held h =
    stops_apart before (taken c.args.taker.now) _ start c.args.joined.now.moment c.args.joined.now.bytes.items _ _ held (g.K.Sink.held c.args.sink.now) _ c.in-Parcel.parcel h
    c.in-Parcel.ensures.tells.0 c.in-Fault.ensures.added

pub returns-in-Part-write_some-clause-goes : goal.returns-in-Part-write_some-clause-goes
returns-in-Part-write_some-clause-goes g c before start held h =
    subst (λ z. Goes before z start c.args.joined.now.moment c.write_some.new.self.bytes.items held (g.K.Sink.held c.write_some.new.sink)) (sym c.in-Nothing.ensures.tells.0)
    (goes_carried before (taken c.args.taker.now) start c.args.joined.now.moment c.args.joined.now.bytes.items _ held (g.K.Sink.held c.args.sink.now) _ h c.write_some.ensures.carried)

pub returns-in-Fault-write_some-clause-goes : goal.returns-in-Fault-write_some-clause-goes
returns-in-Fault-write_some-clause-goes g c before start held h =
    stops_waiting before (taken c.args.taker.now) _ start c.args.joined.now.moment c.args.joined.now.bytes.items _ _ held (g.K.Sink.held c.args.sink.now) _ h
    c.in-Nothing.ensures.tells.0 c.write_some.ensures.carried

pub returns-in-Ended-clause-goes : goal.returns-in-Ended-clause-goes
returns-in-Ended-clause-goes g c before start held h =
    goes_end before (taken c.args.taker.now) _ start c.args.joined.now.moment _ _ held _ _ h c.in-Ended.ensures.tells.0
