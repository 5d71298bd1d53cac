-- Calls that are told no more.
use Rattle.std.specs.Prelude.{List, Option, Some, None}
use Rattle.zr_outside.specs.declared.host.Call.{Call}
use Rattle.zr_outside.specs.Host.{Records}

pub records_none : (call : Call) (before : Option (List Call)) → Records call before None
records_none call None = tt
records_none call (Some calls) = tt
