use Rattle.std.proofs.Common.{ap}
use Rattle.zr_world_spec.specs.World.{Ends, WorldState, with_ends}
use Rattle.zr_world.specs.State.{state_of}
use Rattle.zr_world.proofs.Fanning.{fan_by_shares}
use Rattle.zr_world.proofs.tables.WorldTables.do_fan.Goals as goal

pub returns : goal.returns
returns g c =
    let taken : WorldState = state_of c.take_routers.new.self in
    fan_by_shares (state_of c.args.self.now) taken (with_ends taken c.take_all.new.self) (state_of c.put_routers.new.self) c.in_ok-shares.shares.items c.in_ok-told.shares.items c.in_ok-shares.weights.items c.in_ok-ends.ends.items
    c.args.line c.in_ok-told.told c.requires.sound c.requires.judged c.in_ok-shares.ensures.taken c.in_ok-shares.ensures.rest c.in_ok-ends.ensures.0
    (ap (λ (z : Ends). with_ends taken z) c.in_ok-ends.ensures.1) c.in_ok-told.ensures.done c.in_ok-told.ensures.stay c.in_ok-put_routers.ensures
