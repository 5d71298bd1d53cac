-- The calls that a host in memory has kept, and the generator that it has left.
use Rattle.std.specs.Prelude.{List, [], ◌∷◌, Option, Some, None, Vec}
use Rattle.rand_core.specs.Stream.{Stream}
use Rattle.std.specs.declared.alloc.Global.{Global}
use Rattle.zr_outside.specs.declared.host.Call.{Call}

abbrev pub items_of : Option (Vec Call Global) → Option (List Call)
items_of None = None
items_of (Some calls) = Some calls.items

-- the stream of its generator, until it has given that
abbrev pub streams_of : {W : Type 0} → (W → Stream) → Option W → List Stream
streams_of stream None = []
streams_of stream (Some w) = stream w ∷ []
