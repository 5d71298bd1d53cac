-- What a client asks of its declarations: what becomes of the rows and of the live interests, and what is refused.
use Rattle.std.specs.Prelude.{List, Option, None}
use Rattle.std.specs.Option.{option_map, option_or}
use Rattle.zr_local.specs.Clients.{clients_left}
use Rattle.zr_local.specs.Rows.{id_kind, declared, undeclared, left, refuses_undeclare}
use Rattle.zr_local.specs.State.{LocalState, refuses_declare}
use Rattle.zr_local.specs.declared.interest.ClientInterests.{ClientInterests}
use Rattle.zr_local.specs.declared.row.Row.{Row}
use Rattle.zr_msg.specs.declared.error.NodeError.{NodeError}
use Rattle.zr_node_spec.specs.State.{NodeState, local_state}
use Rattle.zr_node_spec.specs.Table.{local_error, refuses_rows}
use Rattle.zr_node.specs.declared.asked.Asked.{Asked}
use Rattle.zr_node.specs.declared.asked.Asked.TheVariants.{Declare, Undeclare, Leave}

-- the rows once it is done
abbrev pub rows_after : List Row → Asked → List Row
rows_after rows (Declare link id decl) = declared rows (record { link = link; id = id; decl = decl })
rows_after rows (Undeclare link id kind) = undeclared rows (record { link = link.0; kind = id_kind kind; id = id })
rows_after rows (Leave link) = left rows link.0

-- and the live interests
abbrev pub clients_after : List ClientInterests → Asked → List ClientInterests
clients_after clients (Declare link id decl) = clients
clients_after clients (Undeclare link id kind) = clients
clients_after clients (Leave link) = clients_left clients link.0

abbrev pub local_after : LocalState → Asked → LocalState
local_after l asked = record { rows = rows_after l.rows asked; clients = clients_after l.clients asked }

-- why it is refused for itself
abbrev pub refuses_asked : LocalState → Asked → Option NodeError
refuses_asked l (Declare link id decl) = option_map (λ e. local_error id e) (refuses_declare l (record { link = link; id = id; decl = decl }))
refuses_asked l (Undeclare link id kind) = option_map (λ e. local_error id e) (refuses_undeclare l.rows (record { link = link.0; kind = id_kind kind; id = id }))
refuses_asked l (Leave link) = None

-- why it is refused for itself, or for what the own log has no room for
abbrev pub refuses_change : NodeState → Asked → Option NodeError
refuses_change node asked = option_or (refuses_asked (local_state node) asked) (refuses_rows node (rows_after node.rows asked))
