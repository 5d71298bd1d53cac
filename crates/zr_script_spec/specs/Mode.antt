-- Of which declarations an interest is to be told: of those that stand now, of those that come or go later, or of both.
use Rattle.std.specs.Prelude.{Bool, true, false}
use Rattle.zr_script_spec.specs.declared.command.Mode.{Mode}
use Rattle.zr_script_spec.specs.declared.command.Mode.TheVariants.{Now, Later, Both}

abbrev pub is_current : Mode → Bool
is_current Now = true
is_current Later = false
is_current Both = true

abbrev pub is_future : Mode → Bool
is_future Now = false
is_future Later = true
is_future Both = true
