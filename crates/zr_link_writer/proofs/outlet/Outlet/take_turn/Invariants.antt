use Rattle.std.proofs.Common.{◌≡◌, None}
use Rattle.zr_ring.specs.Taker.{IsSameTaker}
use Rattle.zr_link_writer.proofs.outlet.Outlet.take_turn.Given as goal

abbrev pub invariant-loop : goal.invariant-loop
invariant-loop g l =
    (l.self.end ≡ None → l.self.next ≡ None)
    × IsSameTaker l.fn.self.taker l.self.taker
    × (l.self.start ≡ l.fn.self.start)
    × (l.self.began ≡ l.fn.self.began)
