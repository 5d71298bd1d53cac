-- What goes on of other routers' logs, and what a neighbour is told that has become a child in a tree.
use Rattle.std.specs.Prelude.{ℕ, ◌&&◌, not, Bool, if◌then◌else◌, List, [], ◌∷◌}
use Rattle.std.specs.List.{flat_map}
use Rattle.std.specs.Option.{option_map_or}
use Rattle.zr_id.specs.Record.{RecordState}
use Rattle.zr_tree.specs.Walk.{graph_of}
use Rattle.zr_tree.specs.Tree.{is_child}
use Rattle.zr_msg.specs.declared.decl.Decl.{Decl}
use Rattle.zr_msg.specs.declared.msg.Msg.{Msg}
use Rattle.zr_msg.specs.declared.msg.Msg.TheVariants.{Step, Snap}
use Rattle.zr_msg.specs.declared.peer.LinkPeer.{LinkPeer}
use Rattle.zr_log.specs.declared.log.Log.{Log}
use Rattle.zr_log.specs.Log.{Change}
use Rattle.zr_log.specs.Known.{is_next, is_newer}
use Rattle.zr_node_spec.specs.Tables.{TableState, is_router, link_at, leads_to_router, is_to_child}

-- ---- changes and snapshots that other routers tell

-- a change that is the next one of its log, told by a router, goes to all children in its source's tree
abbrev pub sends_step : TableState → ℕ → List ℕ → ℕ → Change → ℕ → List Msg
sends_step t from source number c to =
    if leads_to_router t.links from && (is_next t.known source number && is_to_child t source to) then Step source number c.added c.decl ∷ [] else []

-- and so does a snapshot that is newer than what is known
abbrev pub sends_snap : TableState → ℕ → List ℕ → ℕ → List Decl → ℕ → List Msg
sends_snap t from source number decls to =
    if leads_to_router t.links from && (is_newer t.known source number && is_to_child t source to) then Snap source number decls ∷ [] else []

-- ---- new children

-- a router has become a child of this one in the tree of a root, by the records after an event and those before it
abbrev pub is_new_child : List RecordState → List RecordState → List ℕ → List ℕ → List ℕ → Bool
is_new_child before after me root name = is_child (graph_of after) root me name && not (is_child (graph_of before) root me name)

-- what is known of a log, as a message
abbrev pub snapshot : Log → Msg
snapshot log = Snap log.source log.position log.decls

-- the snapshots for a new child: of each log of which a change is known, in ascending order of the routers
abbrev pub snapshots_for : TableState → List RecordState → List ℕ → List Msg
snapshots_for t before name = flat_map (λ log. if is_new_child before t.base.records t.base.me log.source name then snapshot log ∷ [] else []) t.known.logs

abbrev pub snapshots_on : TableState → List RecordState → LinkPeer → List Msg
snapshots_on t before l = if is_router l.peer.role then snapshots_for t before l.peer.id else []

-- what the link of a number is sent of that; `t` are the tables after an event that changed the base, `before` the records before it
abbrev pub sends_snapshots : TableState → List RecordState → ℕ → List Msg
sends_snapshots t before to = option_map_or (λ l. snapshots_on t before l) (link_at t.links to) []
