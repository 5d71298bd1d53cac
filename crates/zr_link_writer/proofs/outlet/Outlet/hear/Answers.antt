use Rattle.std.proofs.Common.{rules, ◌≡◌, ◌++◌, ◌∙◌, ap, Some, None, Ok, Err, subst}
use Rattle.std.proofs.Math.Logic.{∥∥₁_map}
use Rattle.zr_frame_batch.specs.Framing.{framed}
use Rattle.zr_outside.specs.Told.{AppendsPrefix}
use Rattle.zr_ring.specs.Taker.{taken}
use Rattle.zr_link_writer.specs.Outlet.{Stands, pending}
use Rattle.zr_link_writer.specs.Writing.{Carries}
use Rattle.zr_link_writer.proofs.Standing.{stands_heard}
use Rattle.zr_link_writer.proofs.outlet.Outlet.hear.Goals as goal

pub invariant_of-self : goal.invariant_of-self
invariant_of-self g c =
    let o = c.args.self.now in
    record {
      stands = ∥∥₁_map o.stands (λ s. stands_heard o.end (taken o.taker) o.start o.joined.moment o.told.moment _ (o.joined.bytes.items ++ pending o.next)
          (g.K.Sink.held o.began.value) (g.K.Sink.held o.sink) (g.K.Sink.faults o.began.value) (g.K.Sink.faults o.sink) s c.hear.ensures);
    }
