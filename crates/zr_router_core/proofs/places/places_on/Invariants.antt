use Rattle.std.proofs.Common.{◌≡◌, ◌++◌, map, drop}
use Rattle.zr_local.specs.Owners.{on_link}
use Rattle.zr_router_core.specs.Places.{AreKeys, row_place, places_on}
use Rattle.zr_router_core.proofs.places.places_on.Given as goal

abbrev pub invariant-loop-row : goal.invariant-loop-row
invariant-loop-row l = (l.places.items ++ map row_place (on_link (drop l.row-index l.rows) l.link.0) ≡ places_on l.fn.rows l.link.0) × AreKeys l.places.items
