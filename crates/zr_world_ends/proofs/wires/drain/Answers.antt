use Rattle.std.proofs.Common.{◌≡◌, ◌+◌, List, sym, subst, arith}
use Rattle.zr_world_spec.specs.World.{Tagged}
use Rattle.zr_world_ends.specs.Carried.{Drains}
use Rattle.zr_world_ends.proofs.Draining.{drains_more, drains_none}
use Rattle.zr_world_ends.proofs.wires.drain.Goals as goal

pub loop-init : goal.loop-init
loop-init g c = subst (λ (z : List Tagged). Drains (c.args.router, c.args.neighbour) 0 z (g.C.Carrier.wire c.args.carrier.now) (g.C.Carrier.wire c.args.carrier.now)) (sym c.new-wire.ensures.items) (drains_none (c.args.router, c.args.neighbour) (g.C.Carrier.wire c.args.carrier.now))

pub loop-preserved : goal.loop-preserved
loop-preserved g c =
    subst (λ (z : List Tagged). Drains (c.args.router, c.args.neighbour) (c.loop.counter + 1) z (g.C.Carrier.wire c.args.carrier.now) (g.C.Carrier.wire c.receive.new.self)) (sym c.in_ok-put.ensures)
    (drains_more (c.args.router, c.args.neighbour) (g.C.Carrier.wire c.args.carrier.now) c.loop.counter c.loop.wire.items (g.C.Carrier.wire c.loop.carrier) (g.C.Carrier.wire c.receive.new.self) c.in_ok-found.found c.loop.invariant c.in_ok-found.ensures.value
    c.in_ok-found.ensures.rest)

pub returns : goal.returns
returns g c =
    let all : c.loop.counter ≡ c.args.count = omega (arith, c.loop-test.false, c.loop.auto.counter-end) in
    subst (λ n. Drains (c.args.router, c.args.neighbour) n c.loop.wire.items (g.C.Carrier.wire c.args.carrier.now) (g.C.Carrier.wire c.loop.carrier)) all c.loop.invariant
