use Rattle.zr_carrier.specs.Wire.{with_message}
use Rattle.std.proofs.Common.{refl}
use Rattle.zr_tests_rows.proofs.Opened.{open_sends, still_open}
use Rattle.zr_tests_rows.proofs.carriers.OpenWire.send.Goals as goal

pub send-sent-requires : goal.send-sent-requires
send-sent-requires g c =
    open_sends c.self.inside.role (g.C.Carrier.wire c.self.inside.carrier c.self.inside.neighbour c.self.inside.router) c.args.msg.now c.self.invariant (rw (← c.self.view_is) at c.requires)

pub invariant_of-self : goal.invariant_of-self
invariant_of-self g c =
    still_open c.send-sent.result c.self.inside.role c.self.inside.neighbour c.self.inside.router (λ w. with_message w c.args.msg.now c.self.inside.sent) (g.C.Carrier.wire c.self.inside.carrier)
    (g.C.Carrier.wire c.send-sent.new.self) (λ w. refl) c.send-sent.ensures.sent c.send-sent.ensures.err c.self.invariant
