-- Each round leaves fewer missing, or is the last but one.
use Rattle.std.proofs.Common.{◌+◌, length}
use Rattle.std.specs.Prelude.{min}
use Rattle.zr_world.specs.Search.{IsSearched}
use Rattle.zr_world.specs.State.{state_of}
use Rattle.zr_world.proofs.tables.WorldTables.are_found.Given as goal

abbrev pub invariant-search : goal.invariant-search
invariant-search g l = IsSearched (state_of l.self) l.fn.root l.found.items l.missing.items

abbrev pub decreases-search : goal.decreases-search
decreases-search g l = length l.missing.items + min 1 (length l.found.items)
