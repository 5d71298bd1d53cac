-- How long the messages of a peer may be.
use Rattle.std.specs.Prelude.{ℕ}
use Rattle.zr_msg.specs.declared.peer.Role.{Role}
use Rattle.zr_msg.specs.declared.peer.Role.TheVariants.{Client, Router}

-- the most bytes of a network message
abbrev pub most_of : Role → ℕ
most_of Client = 8388608
most_of Router = 8392704
