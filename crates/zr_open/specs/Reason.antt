-- The reasons of a CLOSE (Zenoh protocol 1.0, "Close").
use Rattle.std.specs.Prelude.{ℕ}
use Rattle.zr_open.specs.declared.error.Reason.{Reason}
use Rattle.zr_open.specs.declared.error.Reason.TheVariants.{Generic, Unsupported, Invalid, MaxSessions, MaxLinks, Expired}

abbrev pub byte_of : Reason → ℕ
byte_of Generic = 0
byte_of Unsupported = 1
byte_of Invalid = 2
byte_of MaxSessions = 3
byte_of MaxLinks = 4
byte_of Expired = 5
