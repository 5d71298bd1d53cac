use Rattle.std.proofs.Common.{rules, ◌≡◌, ◌++◌, ◌∙◌, ap, Some, None, Ok, Err, sym, subst}
use Rattle.std.proofs.Math.Logic.{∥∥₁_map}
use Rattle.zr_frame_batch.specs.Framing.{framed}
use Rattle.zr_outside.specs.Told.{AppendsPrefix}
use Rattle.zr_ring.specs.Taker.{taken}
use Rattle.zr_link_writer.specs.Outlet.{Stands, pending}
use Rattle.zr_link_writer.specs.Writing.{Carries}
use Rattle.zr_link_writer.proofs.Standing.{outlet_on, outlet_done, outlet_stop}
use Rattle.zr_link_writer.proofs.outlet.Outlet.turn_once.Goals as goal

pub invariant_of-self : goal.invariant_of-self
invariant_of-self g c =
    let o = c.args.self.now in
    let e : o.end ≡ None = search rules in
    let goes = rw c.in-Ok-More.field-0-is at c.in-Ok-More.ensures.goes in
    let moment = rw c.in-Ok-More.field-0-is at c.in-Ok-More.ensures.moment in
    record {
      stands = ∥∥₁_map o.stands (outlet_on o.end o.next (taken o.taker) _ o.start o.joined.moment _ o.told.moment _ o.joined.bytes.items _
          (g.K.Sink.held o.began.value) (g.K.Sink.held o.sink) _ (g.K.Sink.faults o.began.value) (g.K.Sink.faults o.sink) _ e (c.requires.next e) goes moment.1 c.in-Ok-More.ensures.quiet);
    }

pub invariant_of-self-in-Ok-Nothing : goal.invariant_of-self-in-Ok-Nothing
invariant_of-self-in-Ok-Nothing g c =
    let o = c.args.self.now in
    let e : o.end ≡ None = search rules in
    let goes = rw c.in-Ok-Nothing.field-0-is at c.in-Ok-Nothing.ensures.goes in
    let moment = rw c.in-Ok-Nothing.field-0-is at c.in-Ok-Nothing.ensures.moment in
    record {
      stands = ∥∥₁_map o.stands (outlet_on o.end o.next (taken o.taker) _ o.start o.joined.moment _ o.told.moment _ o.joined.bytes.items _
          (g.K.Sink.held o.began.value) (g.K.Sink.held o.sink) _ (g.K.Sink.faults o.began.value) (g.K.Sink.faults o.sink) _ e (c.requires.next e) goes moment.1 c.in-Ok-Nothing.ensures.quiet);
    }

pub invariant_of-self-in-Ok-Ended : goal.invariant_of-self-in-Ok-Ended
invariant_of-self-in-Ok-Ended g c =
    let o = c.args.self.now in
    let e : o.end ≡ None = search rules in
    record {
      stands = ∥∥₁_map o.stands (outlet_done o.end o.next (taken o.taker) _ o.start o.joined.moment c.take_one.new.joined.moment o.told.moment _ o.joined.bytes.items (c.take_one.new.joined.bytes.items ++ pending o.next)
          (g.K.Sink.held o.began.value) (g.K.Sink.held o.sink) _ (g.K.Sink.faults o.began.value) (g.K.Sink.faults o.sink) _ c.in-Ok-Ended.reason e (c.requires.next e) (c.take_one.ensures.whole _ (c.in-Ok-Ended.is ∙ ap Ok c.in-Ok-Ended.field-0-is)) (c.take_one.ensures.ended _ (c.in-Ok-Ended.is ∙ ap Ok c.in-Ok-Ended.field-0-is)) c.in-Ok-Ended.ensures.quiet);
    }

pub invariant_of-self-in-Err : goal.invariant_of-self-in-Err
invariant_of-self-in-Err g c =
    let o = c.args.self.now in
    let e : o.end ≡ None = search rules in
    let end = subst (λ x. Stands (Some x) (taken c.take_one.new.taker) o.start c.take_one.new.joined.moment c.take_one.new.clock.moment (c.take_one.new.joined.bytes.items ++ pending o.next)
    (g.K.Sink.held o.began.value) (g.K.Sink.held c.take_one.new.sink) (g.K.Sink.faults o.began.value) (g.K.Sink.faults c.take_one.new.sink)) in
    record {
      stands = ∥∥₁_map o.stands (λ s. end (sym c.end.ensures) (outlet_stop c.in-Err.stop o.end o.next (taken o.taker) _ o.start o.joined.moment c.take_one.new.joined.moment o.told.moment _ o.joined.bytes.items (c.take_one.new.joined.bytes.items ++ pending o.next)
          (g.K.Sink.held o.began.value) (g.K.Sink.held o.sink) _ (g.K.Sink.faults o.began.value) (g.K.Sink.faults o.sink) _ e (c.requires.next e) c.in-Err.ensures.part (λ x. c.take_one.ensures.cause (c.in-Err.is ∙ ap Err x)) (λ more. cc (sym c.in-Err.is ∙ c.take_one.ensures.told more)) c.take_one.ensures.later s));
    }
