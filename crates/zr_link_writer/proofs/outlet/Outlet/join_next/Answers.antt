use Rattle.std.proofs.Common.{rules, ◌≡◌, ◌++◌, ◌∙◌, ap, Some, None, Ok, Err, sym, subst}
use Rattle.std.proofs.Math.Logic.{∥∥₁_map}
use Rattle.zr_frame_batch.specs.Framing.{framed}
use Rattle.zr_outside.specs.Told.{AppendsPrefix}
use Rattle.zr_ring.specs.Taker.{taken}
use Rattle.zr_link_writer.specs.Outlet.{Stands, pending}
use Rattle.zr_link_writer.specs.Writing.{Carries}
use Rattle.zr_link_writer.proofs.Standing.{outlet_joined, outlet_unjoined}
use Rattle.zr_link_writer.proofs.outlet.Outlet.join_next.Goals as goal

pub invariant_of-self-in-Ok : goal.invariant_of-self-in-Ok
invariant_of-self-in-Ok g c =
    let o = c.args.self.now in
    let e : o.end ≡ None = search rules in
    let joined = subst (λ z. Carries (g.K.Sink.held o.sink) (g.K.Sink.held c.add.new.sink) c.add.new.self.bytes.items (o.joined.bytes.items ++ framed z)) c.parts.ensures c.in-Ok.ensures.joined in
    record {
      stands = ∥∥₁_map o.stands (outlet_joined o.end o.next c.take.new.self c.in-Some.parcel (taken o.taker) o.start o.joined.moment c.add.new.self.moment o.told.moment
          c.add.new.clock.moment o.joined.bytes.items c.add.new.self.bytes.items (g.K.Sink.held o.began.value) (g.K.Sink.held o.sink) (g.K.Sink.held c.add.new.sink)
          (g.K.Sink.faults o.began.value) (g.K.Sink.faults o.sink) (g.K.Sink.faults c.add.new.sink) e (sym c.take.ensures.value ∙ c.in-Some.is) c.take.ensures.after joined
          c.add.ensures.moment.0 c.add.ensures.moment.1 c.in-Ok.ensures.quiet);
    }

pub invariant_of-self-in-Err : goal.invariant_of-self-in-Err
invariant_of-self-in-Err g c =
    let o = c.args.self.now in
    let e : o.end ≡ None = search rules in
    let part = subst (λ z. AppendsPrefix (o.joined.bytes.items ++ framed z) (g.K.Sink.held o.sink) (g.K.Sink.held c.add.new.sink)) c.parts.ensures c.in-Err.ensures.part in
    let end = subst (λ x. Stands (Some x) (taken o.taker) o.start c.add.new.self.moment c.add.new.clock.moment (c.add.new.self.bytes.items ++ pending c.take.new.self)
    (g.K.Sink.held o.began.value) (g.K.Sink.held c.add.new.sink) (g.K.Sink.faults o.began.value) (g.K.Sink.faults c.add.new.sink)) (sym c.end.ensures) in
    record {
      stands = ∥∥₁_map o.stands (λ s. end (outlet_unjoined c.in-Err.stop o.end o.next c.in-Some.parcel (taken o.taker) o.start o.joined.moment c.add.new.self.moment o.told.moment
          c.add.new.clock.moment o.joined.bytes.items (c.add.new.self.bytes.items ++ pending c.take.new.self) (g.K.Sink.held o.began.value) (g.K.Sink.held o.sink) (g.K.Sink.held c.add.new.sink)
          (g.K.Sink.faults o.began.value) (g.K.Sink.faults o.sink) (g.K.Sink.faults c.add.new.sink) e (sym c.take.ensures.value ∙ c.in-Some.is) part c.add.ensures.clock
          (λ x. c.add.ensures.cause (c.in-Err.is ∙ ap Err x)) (λ more. cc (sym c.in-Err.is ∙ c.add.ensures.told more)) c.add.ensures.later s));
    }
