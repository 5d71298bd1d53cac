-- A link that isn't up any more as a message comes over it.
use Rattle.std.specs.Prelude.{◌≡◌, Bool, true, false, Option, Some, None}
use Rattle.zr_msg.specs.declared.msg.Msg.{Msg}
use Rattle.zr_port.specs.declared.error.DeliverError.{DeliverError}
use Rattle.zr_port.specs.declared.error.DeliverError.TheVariants as deliver

-- a message was refused since its link isn't up any more: another caller took it down
abbrev pub is_gone : Option DeliverError → Bool
is_gone None = false
is_gone (Some (deliver.NotUp link)) = true
is_gone (Some (deliver.Misplaced role)) = false
is_gone (Some (deliver.Denied rule)) = false
is_gone (Some (deliver.Ignored id)) = false
is_gone (Some (deliver.Node e)) = false
is_gone (Some (deliver.Full asked free)) = false
is_gone (Some deliver.Worn) = false
is_gone (Some deliver.NoMemory) = false

-- some message was refused for that
abbrev pub IsGone : (Msg → DeliverError → Type 0) → Type 0
IsGone refuses = (msg : Msg) × (error : DeliverError) × (is_gone (Some error) ≡ true) × refuses msg error
