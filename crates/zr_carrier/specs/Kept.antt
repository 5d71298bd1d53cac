-- Wires in a map.
use Rattle.std.specs.Prelude.{ℕ, List}
use Rattle.std.specs.BTreeMap.{BTreeMap, get_by}
use Rattle.zr_world_spec.specs.World.{end_cmp}
use Rattle.zr_carrier.specs.Wire.{Wire, Wires}

abbrev pub wires_in : BTreeMap (List ℕ × List ℕ) Wire → Wires
wires_in m f t = get_by (end_cmp (f, t)) m
