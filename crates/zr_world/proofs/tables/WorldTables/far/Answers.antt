use Rattle.std.proofs.Common.{◌<◌, not, length, sym, ap, arith}
use Rattle.std.specs.List.{list_any}
use Rattle.zr_world_spec.specs.World.{is_linked}
use Rattle.zr_world.specs.State.{state_of}
use Rattle.zr_world.proofs.Searching.{kept_more}
use Rattle.zr_world.proofs.tables.WorldTables.far.Goals as goal

pub loop-y-preserved : goal.loop-y-preserved
loop-y-preserved g c =
    let lt : c.loop-y.y-index < length c.args.missing.now = omega arith in
    kept_more (λ y. not (list_any (λ x. is_linked (state_of c.args.self.now).ends x y) c.args.found.now)) c.args.missing.now c.loop-y.far.items c.keep_if.new.kept.items _ c.loop-y.y-index c.y-item.result (not c.is_near.result) lt c.y-item.is (ap not (sym c.is_near.ensures)) c.in_ok-keep_if.ensures c.loop-y.invariant
