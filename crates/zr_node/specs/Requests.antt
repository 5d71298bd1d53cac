-- Why a request is refused for who asks.
use Rattle.std.specs.Prelude.{◌&&◌, Bool, if◌then◌else◌, List, Option, Some, None}
use Rattle.zr_msg.specs.declared.error.NodeError.{NodeError}
use Rattle.zr_msg.specs.declared.error.NodeError.TheVariants.{NumberTaken, TooMany}
use Rattle.zr_pend_spec.specs.Pending.{asked}
use Rattle.zr_pend_spec.specs.Row.{RowState}
use Rattle.zr_pend_spec.specs.declared.branch.Asker.{Asker}
use Rattle.zr_node_spec.specs.Queries.{asks_most, most_pending}

-- under its number one is pending, or the client has as many pending as it may
abbrev pub refuses_asker : List RowState → Asker → Bool → Option NodeError
refuses_asker pending from is_client =
    if asked from pending then Some (NumberTaken from.number) else if is_client && asks_most pending from.link.0 then Some (TooMany most_pending) else None
