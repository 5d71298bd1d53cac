use Rattle.zr_carrier.specs.Wire.{without_oldest}
use Rattle.std.proofs.Common.{refl}
use Rattle.zr_tests_rows.proofs.Opened.{still_open}
use Rattle.zr_tests_rows.proofs.carriers.OpenWire.next.Goals as goal

pub invariant_of-self : goal.invariant_of-self
invariant_of-self g c =
    still_open c.receive.result c.self.inside.role c.self.inside.neighbour c.self.inside.router without_oldest (g.C.Carrier.wire c.self.inside.carrier)
    (g.C.Carrier.wire c.receive.new.self) (λ w. refl) c.receive.ensures.rest c.receive.ensures.err c.self.invariant
