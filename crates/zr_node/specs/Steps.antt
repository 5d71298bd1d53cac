-- An event in its parts: what becomes of a router, what it sends, and what is refused.
use Rattle.std.specs.Prelude.{ℕ, List, [], ◌++◌, Option, None}
use Rattle.zr_id.specs.Record.{RecordState}
use Rattle.zr_id.specs.declared.link.LinkNo.{LinkNo}
use Rattle.zr_local.specs.Rows.{Key}
use Rattle.zr_local.specs.State.{LocalState}
use Rattle.zr_local.specs.declared.interest.Interest.{Interest as LiveInterest}
use Rattle.zr_local.specs.declared.row.Row.{Row}
use Rattle.zr_log.specs.Log.{Change}
use Rattle.zr_msg.specs.declared.content.Parts.{Parts}
use Rattle.zr_msg.specs.declared.decl.Decl.{Decl}
use Rattle.zr_msg.specs.declared.event.Event.{Event}
use Rattle.zr_msg.specs.declared.extras.Extras.{Extras}
use Rattle.zr_msg.specs.declared.msg.Msg.{Msg}
use Rattle.zr_msg.specs.declared.msg.Target.{Target}
use Rattle.zr_msg.specs.Peer.{PeerState}
use Rattle.zr_msg.specs.declared.peer.Role.{Role}
use Rattle.zr_msg.specs.declared.peer.Role.TheVariants.{Router}
use Rattle.zr_msg.specs.declared.peer.LinkPeer.{LinkPeer}
use Rattle.zr_pend_spec.specs.Held.{PendingState}
use Rattle.zr_pend_spec.specs.Pending.{dropped}
use Rattle.zr_node_spec.specs.Queries.{link_no, asked_links, sends_request, sends_reply, sends_final, sends_ends, after_request, after_final, held_request, held_reply, held_final, held_down}
use Rattle.zr_node_spec.specs.Samples.{sends_push}
use Rattle.zr_node_spec.specs.Snapshots.{sends_step, sends_snap, sends_snapshots}
use Rattle.zr_node_spec.specs.State.{NodeState, new_link, tables}
use Rattle.zr_node_spec.specs.Table.{after, sends, refuses, base_up, base_told, joined, own_link, parted, with_base, with_clients, with_held, with_pending, with_link, without_link, with_known, with_rows, clients_noted, refuses_noted, known_step, known_snap, rows_declared, rows_undeclared, sends_up, sends_parted, sends_state, sends_from, sends_rows, after_from, refuses_up, refuses_parting, refuses_from, refuses_request, refuses_declared, refuses_undeclared, refuses_step_from, refuses_snap_from}
use Rattle.zr_node.specs.Asked.{rows_after, clients_after, refuses_change}
use Rattle.zr_node.specs.Done.{Part}
use Rattle.zr_node.specs.declared.asked.Asked.{Asked}
use Rattle.zr_node.specs.declared.asked.Asked.TheVariants.{Leave}

-- a router with other links, and one that keeps something else of its clients, of which nothing stands in its log yet
abbrev pub with_links : NodeState → List LinkPeer → NodeState
with_links node links =
    record { links = links; base = node.base; rows = node.rows; clients = node.clients; known = node.known; pending = node.pending; held = node.held; spent = node.spent }

abbrev pub with_local : NodeState → LocalState → NodeState
with_local node l =
    record { links = node.links; base = node.base; rows = l.rows; clients = l.clients; known = node.known; pending = node.pending; held = node.held; spent = node.spent }

-- once it has done what a client asks of its declarations
abbrev pub with_asked : NodeState → Asked → NodeState
with_asked node asked = with_clients (with_rows node (rows_after node.rows asked)) (clients_after node.clients asked)

-- what is pending at a router, with what it holds, and a router where other requests are pending and other replies are held
abbrev pub pending_of : NodeState → PendingState
pending_of node = record { rows = node.pending; held = node.held }

abbrev pub with_table : NodeState → PendingState → NodeState
with_table node p = with_held (with_pending node p.rows) p.held

-- once the branches of a link that went down have ended
abbrev pub ended_on : NodeState → ℕ → PendingState
ended_on node link = record { rows = dropped (link_no link) node.pending; held = held_down node.pending node.held link }

-- the snapshots for the children that an event has made, by the state that it leaves and the one before it
abbrev pub news_to : NodeState → NodeState → ℕ → List Msg
news_to before now to = sends_snapshots (tables now) before.base.records to

-- an event
abbrev pub event_part : NodeState → Event → Part
event_part node event = record { before = node; left = after node event; sends = λ to. sends node event (record { 0 = to }); refused = refuses node event }

-- the Up of a peer of this role
abbrev pub up_as : NodeState → LinkNo → PeerState → Role → NodeState
up_as node link peer role = with_links (with_base node (base_up node.base peer role)) (with_link node.links (new_link link peer))

abbrev pub up_part : NodeState → LinkNo → PeerState → Role → Part
up_part node link peer role =
    record {
      before = node;
      left = up_as node link peer role;
      sends = λ to. sends_up node link.0 peer role to ++ news_to node (up_as node link peer role) to;
      refused = refuses_up node.base role;
    }

-- the records of the Up of a router, whose link isn't there yet
abbrev pub join_part : NodeState → LinkNo → PeerState → Part
join_part node link peer =
    record { before = node; left = with_base node (joined node.base (own_link peer)); sends = λ to. sends_up node link.0 peer Router to; refused = refuses_up node.base Router }

-- the Down of a link to a router
abbrev pub parted_from : NodeState → ℕ → PeerState → NodeState
parted_from node link peer = with_links (with_table (with_base node (parted node.base peer.id)) (ended_on node link)) (without_link node.links link)

abbrev pub down_part : NodeState → ℕ → PeerState → Part
down_part node link peer =
    record {
      before = node;
      left = parted_from node link peer;
      sends = λ to. (sends_ends node.pending node.held link to ++ sends_parted node link peer Router to) ++ news_to node (parted_from node link peer) to;
      refused = refuses_parting node.base Router;
    }

-- the finals and the records of the Down of a router, whose link is still there
abbrev pub parting_part : NodeState → ℕ → PeerState → Part
parting_part node link peer =
    record {
      before = node;
      left = with_table (with_base node (parted node.base peer.id)) (ended_on node link);
      sends = λ to. sends_ends node.pending node.held link to ++ sends_parted node link peer Router to;
      refused = refuses_parting node.base Router;
    }

-- the Down of a link to a client
abbrev pub leave_part : NodeState → LinkNo → Part
leave_part node link =
    record {
      before = node;
      left = with_links (with_table (with_asked node (Leave link)) (ended_on node link.0)) (without_link node.links link.0);
      sends = λ to. sends_ends node.pending node.held link.0 to ++ sends_rows node (rows_after node.rows (Leave link)) to;
      refused = refuses_change node (Leave link);
    }

-- a message
abbrev pub message_part : NodeState → ℕ → Msg → Part
message_part node from msg =
    record {
      before = node;
      left = after_from node from msg;
      sends = λ to. sends_from node from msg to ++ news_to node (after_from node from msg) to;
      refused = refuses_from node from msg;
    }

-- what a client asks of its declarations
abbrev pub asked_part : NodeState → Asked → Part
asked_part node asked =
    record {
      before = node;
      left = with_asked node asked;
      sends = λ to. sends_rows node (rows_after node.rows asked) to;
      refused = refuses_change node asked;
    }

-- what a link declares, and what it takes back
abbrev pub declare_part : NodeState → ℕ → Row → Part
declare_part node from r =
    record {
      before = node;
      left = with_rows node (rows_declared node from r);
      sends = λ to. sends_rows node (rows_declared node from r) to;
      refused = refuses_declared node from r;
    }

abbrev pub undeclare_part : NodeState → ℕ → Key → Part
undeclare_part node from k =
    record {
      before = node;
      left = with_rows node (rows_undeclared node from k);
      sends = λ to. sends_rows node (rows_undeclared node from k) to;
      refused = refuses_undeclared node from k;
    }

-- an interest that is live under an id from now on, or none
abbrev pub interest_part : NodeState → ℕ → ℕ → Option LiveInterest → Part
interest_part node from id i =
    record { before = node; left = with_clients node (clients_noted node from id i); sends = λ to. []; refused = refuses_noted node from id i }

-- a change and a snapshot of another router's log
abbrev pub step_part : NodeState → ℕ → List ℕ → ℕ → Change → Part
step_part node from source number c =
    record {
      before = node;
      left = with_known node (known_step node from source number c);
      sends = λ to. sends_step (tables node) from source number c to;
      refused = refuses_step_from node from source number c;
    }

abbrev pub snap_part : NodeState → ℕ → List ℕ → ℕ → List Decl → Part
snap_part node from source number decls =
    record {
      before = node;
      left = with_known node (known_snap node from source number decls);
      sends = λ to. sends_snap (tables node) from source number decls to;
      refused = refuses_snap_from node from source number decls;
    }

-- a record
abbrev pub told_part : NodeState → ℕ → RecordState → Part
told_part node from told =
    record {
      before = node;
      left = with_base node (base_told node from told);
      sends = λ to. sends_state node from told to ++ news_to node (with_base node (base_told node from told)) to;
      refused = None;
    }

-- a sample
abbrev pub push_part : NodeState → ℕ → Option (List ℕ) → Parts → Part
push_part node from tree content = record { before = node; left = node; sends = λ to. sends_push (tables node) from tree content to; refused = None }

-- what is pending and held once a request, a reply or a final has come
abbrev pub after_asking : NodeState → ℕ → Option (List ℕ) → ℕ → Target → Parts → PendingState
after_asking node from named number target content =
    record {
      rows = after_request (tables node) node.pending from named number target content.key;
      held = held_request (tables node) node.held from named number target content;
    }

abbrev pub after_ending : NodeState → ℕ → ℕ → PendingState
after_ending node from number = record { rows = after_final node.pending from number; held = held_final node.pending node.held from number }

-- a request, a reply, and a final
abbrev pub request_part : NodeState → ℕ → Option (List ℕ) → ℕ → Target → Parts → Part
request_part node from named number target content =
    record {
      before = node;
      left = with_table node (after_asking node from named number target content);
      sends = λ to. sends_request (tables node) node.pending from named number target content to;
      refused = refuses_request node from number (asked_links (tables node) from named target content.key);
    }

abbrev pub response_part : NodeState → ℕ → ℕ → Parts → Part
response_part node from number content =
    record {
      before = node;
      left = with_held node (held_reply node.pending node.held from number content);
      sends = λ to. sends_reply node.pending node.held from number content to;
      refused = None;
    }

abbrev pub final_part : NodeState → ℕ → ℕ → Extras → Part
final_part node from number extras =
    record { before = node; left = with_table node (after_ending node from number); sends = λ to. sends_final node.pending node.held from number extras to; refused = None }
