-- One message for several links.
use Rattle.std.specs.Prelude.{List, map}
use Rattle.zr_id.specs.declared.link.LinkNo.{LinkNo}
use Rattle.zr_msg.specs.declared.msg.Msg.{Msg}

-- a message for each of these links
abbrev pub to_each : List LinkNo → Msg → List (LinkNo × Msg)
to_each links msg = map (λ n. (n, msg)) links
