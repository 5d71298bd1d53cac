-- An end whose wire had these messages.
use Rattle.std.specs.Prelude.{List}
use Rattle.zr_world_spec.specs.World.{Tagged, EndState}
use Rattle.zr_world_ends.specs.Kept.{KeptEnd}

abbrev pub drained : KeptEnd → List Tagged → EndState
drained k wire = record { up = k.up; unbroken = k.unbroken; queue = k.queue; wire = wire; weight = k.weight }
