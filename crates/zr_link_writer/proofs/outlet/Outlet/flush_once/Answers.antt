use Rattle.std.proofs.Common.{rules, ◌≡◌, ◌++◌, ◌∙◌, ap, Some, None, Ok, Err, subst}
use Rattle.std.proofs.Math.Logic.{∥∥₁_map}
use Rattle.zr_frame_batch.specs.Framing.{framed}
use Rattle.zr_outside.specs.Told.{AppendsPrefix}
use Rattle.zr_ring.specs.Taker.{taken}
use Rattle.zr_link_writer.specs.Outlet.{Stands, pending}
use Rattle.zr_link_writer.specs.Writing.{Carries}
use Rattle.zr_link_writer.proofs.Standing.{outlet_flushed, outlet_apart, outlet_fault}
use Rattle.zr_link_writer.proofs.outlet.Outlet.flush_once.Goals as goal

pub invariant_of-self : goal.invariant_of-self
invariant_of-self g c =
    let o = c.args.self.now in
    record {
      stands = ∥∥₁_map o.stands (outlet_flushed o.end o.next (taken o.taker) _ o.start o.joined.moment _ o.told.moment o.joined.bytes.items _
          (g.K.Sink.held o.began.value) (g.K.Sink.held o.sink) _ (g.K.Sink.faults o.began.value) (g.K.Sink.faults o.sink) _ c.requires.going.0 c.requires.going.1 c.in-More.ensures.goes c.take_briefly.ensures.moment c.in-More.ensures.faults);
    }

pub invariant_of-self-in-Nothing : goal.invariant_of-self-in-Nothing
invariant_of-self-in-Nothing g c =
    let o = c.args.self.now in
    record {
      stands = ∥∥₁_map o.stands (outlet_flushed o.end o.next (taken o.taker) _ o.start o.joined.moment _ o.told.moment o.joined.bytes.items _
          (g.K.Sink.held o.began.value) (g.K.Sink.held o.sink) _ (g.K.Sink.faults o.began.value) (g.K.Sink.faults o.sink) _ c.requires.going.0 c.requires.going.1 c.in-Nothing.ensures.goes c.take_briefly.ensures.moment c.in-Nothing.ensures.faults);
    }

pub invariant_of-self-in-Waits : goal.invariant_of-self-in-Waits
invariant_of-self-in-Waits g c =
    let o = c.args.self.now in
    record {
      stands = ∥∥₁_map o.stands (outlet_flushed o.end o.next (taken o.taker) _ o.start o.joined.moment _ o.told.moment o.joined.bytes.items _
          (g.K.Sink.held o.began.value) (g.K.Sink.held o.sink) _ (g.K.Sink.faults o.began.value) (g.K.Sink.faults o.sink) _ c.requires.going.0 c.requires.going.1 c.in-Waits.ensures.goes c.take_briefly.ensures.moment c.in-Waits.ensures.faults);
    }

pub invariant_of-self-in-Unjoined : goal.invariant_of-self-in-Unjoined
invariant_of-self-in-Unjoined g c =
    let o = c.args.self.now in
    record {
      stands = ∥∥₁_map o.stands (outlet_apart o.end o.next c.in-Unjoined.parcel (taken o.taker) _ o.start o.joined.moment _ o.told.moment o.joined.bytes.items _
          (g.K.Sink.held o.began.value) (g.K.Sink.held o.sink) _ (g.K.Sink.faults o.began.value) (g.K.Sink.faults o.sink) _ c.requires.going.0 c.requires.going.1 c.in-Unjoined.ensures.goes c.take_briefly.ensures.moment c.in-Unjoined.ensures.faults);
    }

pub invariant_of-self-in-Fault : goal.invariant_of-self-in-Fault
invariant_of-self-in-Fault g c =
    let o = c.args.self.now in
    record {
      stands = ∥∥₁_map o.stands (outlet_fault o.end o.next (taken o.taker) _ o.start o.joined.moment c.take_briefly.new.joined.moment o.told.moment o.joined.bytes.items (c.take_briefly.new.joined.bytes.items ++ pending o.next)
          (g.K.Sink.held o.began.value) (g.K.Sink.held o.sink) _ (g.K.Sink.faults o.began.value) (g.K.Sink.faults o.sink) _ c.requires.going.0 c.requires.going.1 c.in-Fault.ensures.goes c.in-Fault.ensures.faults);
    }
