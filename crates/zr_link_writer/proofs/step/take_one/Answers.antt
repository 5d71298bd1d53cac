use Rattle.std.proofs.Common.{◌≤◌, ◌++◌, ◌∙◌, ap, sym, subst, arith}
use Rattle.zr_frame_batch.specs.Framing.{framed}
use Rattle.zr_outside.specs.Told.{AppendsPrefix}
use Rattle.zr_ring.specs.Items.{end_of}
use Rattle.zr_ring.specs.Taker.{taken}
use Rattle.zr_ring.proofs.Items.{end_of_one}
use Rattle.zr_link_writer.specs.Writing.{Carries, Goes}
use Rattle.zr_link_writer.proofs.Going.{goes_parcel, goes_rest, stops_parcel, stops_rest, ends_whole, ends_part}
use Rattle.zr_link_writer.proofs.step.take_one.Goals as goal

-- a parcel was joined
pub returns-in-Ok-clause-goes : goal.returns-in-Ok-clause-goes
returns-in-Ok-clause-goes g c before start held h =
    let joined = subst (λ z. Carries (g.K.Sink.held c.args.sink.now) (g.K.Sink.held c.add.new.sink) c.add.new.self.bytes.items (c.args.joined.now.bytes.items ++ framed z)) c.parts.ensures c.in-Ok.ensures.joined in
    goes_parcel before (taken c.args.taker.now) _ start c.args.joined.now.moment _ c.args.joined.now.bytes.items _ held (g.K.Sink.held c.args.sink.now) _ c.in-Parcel.parcel h
    c.in-Parcel.ensures.tells.0 joined c.add.ensures.moment.0

pub returns-in-Ok-clause-no_end : goal.returns-in-Ok-clause-no_end
returns-in-Ok-clause-no_end g c = ap end_of c.in-Parcel.ensures.tells.0 ∙ end_of_one (taken c.args.taker.now) c.in-Parcel.parcel

pub returns-in-Parcel-clause-part : goal.returns-in-Parcel-clause-part
returns-in-Parcel-clause-part g c before start held h =
    let part = subst (λ z. AppendsPrefix (c.args.joined.now.bytes.items ++ framed z) (g.K.Sink.held c.args.sink.now) (g.K.Sink.held c.add.new.sink)) c.parts.ensures c.in-Err.ensures.part in
    stops_parcel before (taken c.args.taker.now) _ start c.args.joined.now.moment _ c.args.joined.now.bytes.items _ held (g.K.Sink.held c.args.sink.now) _ c.in-Parcel.parcel h
    c.in-Parcel.ensures.tells.0 part (omega (arith, c.requires.past, c.add.ensures.clock))

-- nothing was to be had
pub returns-in-Ok-catch_up-clause-goes : goal.returns-in-Ok-catch_up-clause-goes
returns-in-Ok-catch_up-clause-goes g c before start held h =
    subst (λ v. Goes before (taken c.take.new.self) start c.catch_up.new.self.moment v held (g.K.Sink.held c.catch_up.new.sink))
    (sym c.in-Ok-catch_up.ensures.empty)
    (goes_rest before (taken c.args.taker.now) _ start c.args.joined.now.moment _ c.args.joined.now.bytes.items held (g.K.Sink.held c.args.sink.now) _ h
    c.in-Nothing.ensures.tells.0 c.in-Ok-catch_up.ensures.wrote c.catch_up.ensures.moment.0)

pub returns-in-Ok-catch_up-clause-no_end : goal.returns-in-Ok-catch_up-clause-no_end
returns-in-Ok-catch_up-clause-no_end g c = ap end_of c.in-Nothing.ensures.tells.0

pub returns-in-Nothing-clause-part : goal.returns-in-Nothing-clause-part
returns-in-Nothing-clause-part g c before start held h =
    stops_rest before (taken c.args.taker.now) _ start c.args.joined.now.moment _ c.args.joined.now.bytes.items _ held (g.K.Sink.held c.args.sink.now) _ h
    c.in-Nothing.ensures.tells.0 c.in-Err-catch_up.ensures.part (omega (arith, c.requires.past, c.catch_up.ensures.clock))

-- the end was taken
pub returns-in-Ok-finish-clause-whole : goal.returns-in-Ok-finish-clause-whole
returns-in-Ok-finish-clause-whole g c reason is before start held h =
    let tells = c.in-Ended.ensures.tells in
    ends_whole before (taken c.args.taker.now) _ start c.args.joined.now.moment _ _ c.args.joined.now.bytes.items held (g.K.Sink.held c.args.sink.now) _ c.in-Ended.reason h
    tells.0 tells.1 c.in-Ok-finish.ensures.wrote (omega (arith, c.requires.past, c.finish.ensures.clock))

pub returns-clause-part : goal.returns-clause-part
returns-clause-part g c before start held h =
    let tells = c.in-Ended.ensures.tells in
    ends_part before (taken c.args.taker.now) _ start c.args.joined.now.moment _ _ c.args.joined.now.bytes.items held (g.K.Sink.held c.args.sink.now) _ c.in-Ended.reason h
    tells.0 tells.1 c.in-Err-finish.ensures.part (omega (arith, c.requires.past, c.finish.ensures.clock))
