-- The state of a world that its tables stand for.
use Rattle.zr_world_spec.specs.World.{WorldState}
use Rattle.zr_world.specs.declared.tables.WorldTables.{WorldTables}

module _ {C : Type 0} where
  abbrev pub state_of : WorldTables C → WorldState
  state_of t = record { routers = t.routers.entries; clients = t.clients.entries; ends = t.ends; booked = t.booked }
