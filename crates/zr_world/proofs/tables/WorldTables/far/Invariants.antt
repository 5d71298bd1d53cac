-- What is still to be looked at gives the rest.
use Rattle.std.proofs.Common.{◌≡◌, not, ◌++◌, drop, filter}
use Rattle.std.specs.List.{list_any}
use Rattle.zr_world_spec.specs.World.{is_linked}
use Rattle.zr_world.specs.State.{state_of}
use Rattle.zr_world.proofs.tables.WorldTables.far.Given as goal

abbrev pub invariant-loop-y : goal.invariant-loop-y
invariant-loop-y g l =
    l.far.items ++ filter (λ y. not (list_any (λ x. is_linked (state_of l.self).ends x y) l.found)) (drop l.y-index l.missing) ≡ filter (λ y. not (list_any (λ x. is_linked (state_of l.self).ends x y) l.found)) l.missing
