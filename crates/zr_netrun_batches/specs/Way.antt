-- The messages of a line with their tags.
use Rattle.std.specs.Prelude.{ℕ, List}
use Rattle.std.specs.List.{zip}
use Rattle.zr_carrier.specs.Wire.{Wire}
use Rattle.zr_netrun_batches.specs.Line.{LineState}

abbrev pub wire_of : LineState → List ℕ → Wire
wire_of line tags = record { role = line.role; waiting = zip line.messages tags }
