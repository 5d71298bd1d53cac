use Rattle.zr_tests_rows.proofs.Opened.{opened_is}
use Rattle.zr_tests_rows.proofs.carriers.OpenWire.new.Goals as goal

pub open-requires : goal.open-requires
open-requires g c = (c.requires _ _, c.requires _ _)

pub invariant_of-result : goal.invariant_of-result
invariant_of-result g c =
    opened_is c.in_ok-router.router c.in_ok-neighbour.neighbour c.args.role (g.C.Carrier.wire c.args.carrier) (g.C.Carrier.wire c.open.new.self) c.in_ok-open.ensures.opened
