-- The extensions beside a message's body.
use Rattle.std.specs.Prelude.{None}
use Rattle.zr_msg.specs.declared.extras.Extras.{Extras}

-- no extension
abbrev pub no_extras : Extras
no_extras = record { qos = None; stamp = None; budget = None; timeout = None; responder = None; marks = 0 }
