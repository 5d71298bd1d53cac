-- The table of a router: what each event sends on each link, the state that it leaves, and the events that are refused. The order in which
-- the messages for different links are sent is free; those for one link are sent in the order of its list.
use Rattle.std.specs.Prelude.{ℕ, ◌-◌, ◌^◌, ◌==◌, ◌&&◌, ◌||◌, nat_lt, nat_le, not, Bool, if◌then◌else◌, List, [], ◌∷◌, ◌++◌, length, map, filter, Option, Some, None}
use Rattle.std.specs.Cmp.Lexicographic.{slice_cmp}
use Rattle.std.specs.Option.{option_map_or, option_or, option_map}
use Rattle.std.specs.Ordering.{nat_cmp}
use Rattle.zr_lists.specs.Ascending.{put, without}
use Rattle.zr_id.specs.Record.{LinkedState, RecordState}
use Rattle.zr_id.specs.declared.link.LinkNo.{LinkNo}
use Rattle.zr_graph.specs.Record.{record_of}
use Rattle.zr_graph.specs.Base.{BaseState, own_seq, is_newer, after_record, relinked}
use Rattle.zr_msg.specs.declared.decl.Decl.{Decl}
use Rattle.zr_msg.specs.declared.decl.Kind.{Kind}
use Rattle.zr_msg.specs.declared.decl.Kind.TheVariants as kind
use Rattle.zr_msg.specs.declared.msg.Msg.{Msg}
use Rattle.zr_msg.specs.declared.msg.Msg.TheVariants.{Sub, Unsub, Token, Untoken, Able, Unable, Interest, EndInterest, ToldSub, ToldAble, ToldUnsub, ToldToken, ToldUntoken, ToldUnable, ToldEnd, Push, Request, Response, Final, State, Step, Snap}
use Rattle.zr_msg.specs.declared.error.NodeError.{NodeError}
use Rattle.zr_msg.specs.declared.error.NodeError.TheVariants as e
use Rattle.zr_msg.specs.declared.event.Event.{Event}
use Rattle.zr_msg.specs.declared.event.Event.TheVariants.{Up, Down, From}
use Rattle.zr_msg.specs.Peer.{PeerState}
use Rattle.zr_msg.specs.declared.peer.LinkPeer.{LinkPeer}
use Rattle.zr_msg.specs.declared.peer.Role.{Role}
use Rattle.zr_msg.specs.declared.peer.Role.TheVariants.{Client, Router}
use Rattle.zr_local.specs.Rows.{Key, id_kind, declared, undeclared, left, refuses_undeclare}
use Rattle.zr_local.specs.Clients.{noted, clients_left}
use Rattle.zr_local.specs.State.{refuses_declare, refuses_interest}
use Rattle.zr_local.specs.declared.interest.ClientInterests.{ClientInterests}
use Rattle.zr_local.specs.declared.interest.Interest.{Interest as LiveInterest}
use Rattle.zr_local.specs.declared.row.Row.{Row}
use Rattle.zr_local.specs.declared.error.LocalError.{LocalError}
use Rattle.zr_local.specs.declared.error.LocalError.TheVariants as local
use Rattle.zr_log.specs.Log.{Change}
use Rattle.zr_log.specs.Known.{KnownState, after_step, after_snap, refuses_step, refuses_snap}
use Rattle.zr_log.specs.declared.error.KnownError.{KnownError}
use Rattle.zr_log.specs.declared.error.KnownError.TheVariants as known
use Rattle.zr_pend_spec.specs.Row.{RowState}
use Rattle.zr_pend_spec.specs.Pending.{asked, dropped}
use Rattle.zr_pend_spec.specs.Held.{GatheringState}
use Rattle.zr_node_spec.specs.Tables.{is_link, link_at, leads_to_router, leads_to_client}
use Rattle.zr_node_spec.specs.Changes.{changes, after_changes, sends_changes, have_no_room}
use Rattle.zr_node_spec.specs.Samples.{sends_push}
use Rattle.zr_node_spec.specs.Queries.{link_no, asker, asked_links, sends_request, sends_reply, sends_final, sends_ends, after_request, after_final, held_request, held_reply, held_final, held_down, most_pending, asks_most, has_no_number}
use Rattle.zr_node_spec.specs.Snapshots.{sends_step, sends_snap, sends_snapshots}
use Rattle.zr_node_spec.specs.State.{NodeState, new_link, tables, local_state}

-- ---- the own links

-- how many links a record lists at most
abbrev pub most_links : ℕ
most_links = 65535

-- links in ascending order of their routers with one more among them, and without that to a router
abbrev pub with_linked : List LinkedState → LinkedState → List LinkedState
with_linked links l = put (slice_cmp nat_cmp) (λ k. k.id) links l

abbrev pub without_linked : List LinkedState → List ℕ → List LinkedState
without_linked links id = without (slice_cmp nat_cmp) (λ k. k.id) links id

-- the links that the own record lists
abbrev pub own_links : BaseState → List LinkedState
own_links b = option_map_or (λ r. r.links) (record_of b.records b.me) []

-- the own link to a peer, which weighs what the peer's link weighs
abbrev pub own_link : PeerState → LinkedState
own_link peer = record { id = peer.id; weight = peer.weight }

-- the base once a link to a router has come up: the own record has its next number and lists that router with the link's weight
abbrev pub joined : BaseState → LinkedState → BaseState
joined b l = relinked b (with_linked (own_links b) l)

-- the base once a link to a router has gone down: the own record has its next number and lists that router no more
abbrev pub parted : BaseState → List ℕ → BaseState
parted b id = relinked b (without_linked (own_links b) id)

-- the base that the Up of a peer leaves: that of a client changes nothing
abbrev pub base_up : BaseState → PeerState → Role → BaseState
base_up b peer Client = b
base_up b peer Router = joined b (own_link peer)

-- the base that the Down of a link leaves, if the link is up
abbrev pub base_parted : BaseState → PeerState → Role → BaseState
base_parted b peer Client = b
base_parted b peer Router = parted b peer.id

abbrev pub base_down : BaseState → Option LinkPeer → BaseState
base_down b None = b
base_down b (Some l) = base_parted b l.peer l.peer.role

-- the base that a record from a link leaves: clients tell none
abbrev pub base_told : NodeState → ℕ → RecordState → BaseState
base_told node from told = if leads_to_router node.links from then after_record node.base told else node.base

-- ---- clients' declarations

-- a queryable is complete or not
abbrev pub able_kind : Bool → Kind
able_kind complete = if complete then kind.Full else kind.Able

-- what the client of a link declares under an id
abbrev pub row : ℕ → ℕ → Kind → List ℕ → Row
row link id k key = record { link = record { 0 = link }; id = id; decl = record { kind = k; key = key } }

-- under what the client of a link has declared something
abbrev pub key_of : ℕ → ℕ → Kind → Key
key_of link id k = record { link = link; kind = id_kind k; id = id }

-- the rows once a client has declared something, has taken it back, or has left; a router has no rows
abbrev pub rows_declared : NodeState → ℕ → Row → List Row
rows_declared node from r = if leads_to_client node.links from then declared node.rows r else node.rows

abbrev pub rows_undeclared : NodeState → ℕ → Key → List Row
rows_undeclared node from k = if leads_to_client node.links from then undeclared node.rows k else node.rows

abbrev pub rows_left : NodeState → ℕ → List Row
rows_left node from = if leads_to_client node.links from then left node.rows from else node.rows

-- ---- clients' interests

-- an interest in what is declared later is live, and one in what is declared now alone is not
abbrev pub live : Bool → LiveInterest → Option LiveInterest
live future i = if future then Some i else None

-- the live interests once a client has an interest under an id, or has none there any more, or has left; a router has none
abbrev pub clients_noted : NodeState → ℕ → ℕ → Option LiveInterest → List ClientInterests
clients_noted node from id i = if leads_to_client node.links from then noted node.clients (link_no from) id i else node.clients

abbrev pub clients_down : NodeState → ℕ → List ClientInterests
clients_down node from = if leads_to_client node.links from then clients_left node.clients from else node.clients

-- a router whose clients have other live interests
abbrev pub with_clients : NodeState → List ClientInterests → NodeState
with_clients node clients =
    record { links = node.links; base = node.base; rows = node.rows; clients = clients; known = node.known; pending = node.pending; held = node.held; spent = node.spent }

-- a router whose clients have declared these rows: what has changed of their set stands in its log
abbrev pub with_rows : NodeState → List Row → NodeState
with_rows node rows =
    record {
      links = node.links;
      base = node.base;
      rows = rows;
      clients = node.clients;
      known = after_changes node.known (changes node.rows rows);
      pending = node.pending;
      held = node.held;
      spent = node.spent;
    }

-- what has changed of their set goes to the children in the own tree
abbrev pub sends_rows : NodeState → List Row → ℕ → List Msg
sends_rows node rows to = sends_changes (tables node) (changes node.rows rows) to

-- ---- what is sent

-- whether a link to a router is another one than that of a number
abbrev pub is_other_router : NodeState → ℕ → ℕ → Bool
is_other_router node from to = not (to == from) && leads_to_router node.links to

-- the own record in a base, as a message
abbrev pub own_record : BaseState → List Msg
own_record b = option_map_or (λ r. State r ∷ []) (record_of b.records b.me) []

-- all records of a base, in ascending order of their identifiers, as messages
abbrev pub all_records : BaseState → List Msg
all_records b = map (λ r. State r) b.records

-- what is told of the base that the Up or Down of a router has left: nothing to a client
abbrev pub sends_own : NodeState → ℕ → BaseState → ℕ → List Msg
sends_own node from b to = if is_other_router node from to then own_record b else []

-- the Up of a client sends no record; that of a router sends every record to the new link, and the own one to every other router
abbrev pub sends_up : NodeState → ℕ → PeerState → Role → ℕ → List Msg
sends_up node link peer Client to = []
sends_up node link peer Router to =
    if to == link then all_records (joined node.base (own_link peer)) else sends_own node link (joined node.base (own_link peer)) to

-- the Down of a router sends the own record to every other router
abbrev pub sends_parted : NodeState → ℕ → PeerState → Role → ℕ → List Msg
sends_parted node link peer Client to = []
sends_parted node link peer Router to = sends_own node link (parted node.base peer.id) to

abbrev pub sends_down : NodeState → ℕ → Option LinkPeer → ℕ → List Msg
sends_down node link None to = []
sends_down node link (Some l) to = sends_parted node link l.peer l.peer.role to

-- a record that is newer goes to every other router
abbrev pub sends_state : NodeState → ℕ → RecordState → ℕ → List Msg
sends_state node from told to =
    if leads_to_router node.links from && is_newer node.base told && is_other_router node from to then State told ∷ [] else []

-- what a message from a link sends on a link, but for the snapshots of new children
abbrev pub sends_from : NodeState → ℕ → Msg → ℕ → List Msg
sends_from node from (Sub id key) to = sends_rows node (rows_declared node from (row from id kind.Sub key)) to
sends_from node from (Unsub id) to = sends_rows node (rows_undeclared node from (key_of from id kind.Sub)) to
sends_from node from (Token id key) to = sends_rows node (rows_declared node from (row from id kind.Token key)) to
sends_from node from (Untoken id) to = sends_rows node (rows_undeclared node from (key_of from id kind.Token)) to
sends_from node from (Able id key complete) to = sends_rows node (rows_declared node from (row from id (able_kind complete) key)) to
sends_from node from (Unable id) to = sends_rows node (rows_undeclared node from (key_of from id kind.Able)) to
sends_from node from (Interest id current future kinds key aggregate) to = []
sends_from node from (EndInterest id) to = []
sends_from node from (ToldSub id key interest) to = []
sends_from node from (ToldToken id key interest) to = []
sends_from node from (ToldAble id key complete interest) to = []
sends_from node from (ToldUnsub id) to = []
sends_from node from (ToldUntoken id) to = []
sends_from node from (ToldUnable id) to = []
sends_from node from (ToldEnd interest) to = []
sends_from node from (Push tree content) to = sends_push (tables node) from tree content to
sends_from node from (Request tree id target content) to = sends_request (tables node) node.pending from tree id target content to
sends_from node from (Response id content) to = sends_reply node.pending node.held from id content to
sends_from node from (Final id extras) to = sends_final node.pending node.held from id extras to
sends_from node from (State links) to = sends_state node from links to
sends_from node from (Step source number added decl) to = sends_step (tables node) from source number (record { added = added; decl = decl }) to
sends_from node from (Snap source number decls) to = sends_snap (tables node) from source number decls to

-- what an event sends on the link of a number, but for the snapshots of new children: records; where a link goes down, first what was held for
-- the requests that end by that, each with its final, and last what has changed where a client leaves
abbrev pub sends_first : NodeState → Event → LinkNo → List Msg
sends_first node (Up link peer) to = sends_up node link.0 peer peer.role to.0
sends_first node (Down link) to =
    sends_ends node.pending node.held link.0 to.0 ++ (sends_down node link.0 (link_at node.links link.0) to.0 ++ sends_rows node (rows_left node link.0) to.0)
sends_first node (From link msg) to = sends_from node link.0 msg to.0

-- ---- what is left

-- the links with one more at its place
abbrev pub with_link : List LinkPeer → LinkPeer → List LinkPeer
with_link links l = filter (λ k. nat_lt k.link.0 l.link.0) links ++ l ∷ filter (λ k. nat_lt l.link.0 k.link.0) links

-- the links but for one
abbrev pub without_link : List LinkPeer → ℕ → List LinkPeer
without_link links link = filter (λ l. not (is_link link l)) links

-- a router with another base, or that knows other logs
abbrev pub with_base : NodeState → BaseState → NodeState
with_base node base = record { links = node.links; base = base; rows = node.rows; clients = node.clients; known = node.known; pending = node.pending; held = node.held; spent = node.spent }

abbrev pub with_known : NodeState → KnownState → NodeState
with_known node known = record { links = node.links; base = node.base; rows = node.rows; clients = node.clients; known = known; pending = node.pending; held = node.held; spent = node.spent }

-- a router where other requests are pending
abbrev pub with_pending : NodeState → List RowState → NodeState
with_pending node pending = record { links = node.links; base = node.base; rows = node.rows; clients = node.clients; known = node.known; pending = pending; held = node.held; spent = node.spent }

-- a router that holds other replies
abbrev pub with_held : NodeState → List GatheringState → NodeState
with_held node held =
    record { links = node.links; base = node.base; rows = node.rows; clients = node.clients; known = node.known; pending = node.pending; held = held; spent = node.spent }

-- what is known once a router tells a change or a snapshot: clients tell none
abbrev pub known_step : NodeState → ℕ → List ℕ → ℕ → Change → KnownState
known_step node from source number c = if leads_to_router node.links from then after_step node.known source number c else node.known

abbrev pub known_snap : NodeState → ℕ → List ℕ → ℕ → List Decl → KnownState
known_snap node from source number decls = if leads_to_router node.links from then after_snap node.known source number decls else node.known

-- the state that a message from a link leaves
abbrev pub after_from : NodeState → ℕ → Msg → NodeState
after_from node from (Sub id key) = with_rows node (rows_declared node from (row from id kind.Sub key))
after_from node from (Unsub id) = with_rows node (rows_undeclared node from (key_of from id kind.Sub))
after_from node from (Token id key) = with_rows node (rows_declared node from (row from id kind.Token key))
after_from node from (Untoken id) = with_rows node (rows_undeclared node from (key_of from id kind.Token))
after_from node from (Able id key complete) = with_rows node (rows_declared node from (row from id (able_kind complete) key))
after_from node from (Unable id) = with_rows node (rows_undeclared node from (key_of from id kind.Able))
after_from node from (Interest id current future kinds key aggregate) =
    with_clients node (clients_noted node from id (live future (record { id = id; kinds = kinds; key = key; aggregate = aggregate })))
after_from node from (EndInterest id) = with_clients node (clients_noted node from id None)
after_from node from (ToldSub id key interest) = node
after_from node from (ToldToken id key interest) = node
after_from node from (ToldAble id key complete interest) = node
after_from node from (ToldUnsub id) = node
after_from node from (ToldUntoken id) = node
after_from node from (ToldUnable id) = node
after_from node from (ToldEnd interest) = node
after_from node from (Push tree content) = node
after_from node from (Request tree id target content) =
    with_held (with_pending node (after_request (tables node) node.pending from tree id target content.key)) (held_request (tables node) node.held from tree id target content)
after_from node from (Response id content) = with_held node (held_reply node.pending node.held from id content)
after_from node from (Final id extras) = with_held (with_pending node (after_final node.pending from id)) (held_final node.pending node.held from id)
after_from node from (State links) = with_base node (base_told node from links)
after_from node from (Step source number added decl) = with_known node (known_step node from source number (record { added = added; decl = decl }))
after_from node from (Snap source number decls) = with_known node (known_snap node from source number decls)

-- the state that the Up of a link leaves
abbrev pub after_up : NodeState → LinkNo → PeerState → NodeState
after_up node link peer =
    record {
      links = with_link node.links (new_link link peer);
      base = base_up node.base peer peer.role;
      rows = node.rows;
      clients = node.clients;
      known = node.known;
      pending = node.pending;
      held = node.held;
      spent = node.spent;
    }

-- the state that the Down of a link leaves, once what its client has declared is gone: its branches have ended, and what it asked has no
-- asker any more, and no replies that are held
abbrev pub after_down : NodeState → ℕ → NodeState
after_down node link =
    record {
      links = without_link node.links link;
      base = base_down node.base (link_at node.links link);
      rows = node.rows;
      clients = clients_down node link;
      known = node.known;
      pending = dropped (link_no link) node.pending;
      held = held_down node.pending node.held link;
      spent = node.spent;
    }

-- the state that an event leaves
abbrev pub after : NodeState → Event → NodeState
after node (Up link peer) = after_up node link peer
after node (Down link) = after_down (with_rows node (rows_left node link.0)) link.0
after node (From link msg) = after_from node link.0 msg

-- ---- all that is sent

-- what an event sends on the link of a number: behind all else a router that the event has made a child in a tree is sent the snapshot
abbrev pub sends : NodeState → Event → LinkNo → List Msg
sends node event to = sends_first node event to ++ sends_snapshots (tables (after node event)) node.base.records to.0

-- ---- what is refused

-- whether the own record has had its last number
abbrev pub is_worn : BaseState → Bool
is_worn b = own_seq b == 2 ^ 64 - 1

-- whether the own record lists as many links as a record may
abbrev pub is_full : BaseState → Bool
is_full b = nat_le most_links (length (own_links b))

-- one more own link is refused where the record's number, or its count of links, would have no room
abbrev pub refuses_up : BaseState → Role → Option NodeError
refuses_up b Client = None
refuses_up b Router = if is_worn b || is_full b then Some e.Worn else None

-- one own link less is refused where the record's number would have no room
abbrev pub refuses_parting : BaseState → Role → Option NodeError
refuses_parting b Client = None
refuses_parting b Router = if is_worn b then Some e.Worn else None

abbrev pub refuses_down : BaseState → Option LinkPeer → Option NodeError
refuses_down b None = None
refuses_down b (Some l) = refuses_parting b l.peer.role

-- other rows are refused where the own log has no room for what changes
abbrev pub refuses_rows : NodeState → List Row → Option NodeError
refuses_rows node rows = if have_no_room node.known (changes node.rows rows) then Some e.Worn else None

-- why declarations are refused, as the router's own refusal of what a client says of an id; memory is none of its reasons
abbrev pub local_error : ℕ → LocalError → NodeError
local_error id local.UnknownId = e.NotDeclared id
local_error id (local.TextLimit held more) = e.TextLimit held more
local_error id local.NoMemory = e.NoMemory

-- why a change or a snapshot is refused, as the router's own refusal
abbrev pub known_error : KnownError → NodeError
known_error (known.Gap source has came) = e.Gap source has came
known_error (known.TextLimit held more) = e.TextLimit held more
known_error known.Worn = e.Worn
known_error known.NoMemory = e.NoMemory

-- what a client declares or takes back is refused for itself, or for what the own log has no room for
abbrev pub refuses_declared : NodeState → ℕ → Row → Option NodeError
refuses_declared node from r =
    if leads_to_client node.links from then option_or (option_map (λ x. local_error r.id x) (refuses_declare (local_state node) r)) (refuses_rows node (rows_declared node from r)) else None

abbrev pub refuses_undeclared : NodeState → ℕ → Key → Option NodeError
refuses_undeclared node from k =
    if leads_to_client node.links from then option_or (option_map (λ x. local_error k.id x) (refuses_undeclare node.rows k)) (refuses_rows node (rows_undeclared node from k)) else None

-- an interest is refused where it and all but what it replaces would weigh too much
abbrev pub refuses_noted : NodeState → ℕ → ℕ → Option LiveInterest → Option NodeError
refuses_noted node from id i =
    if leads_to_client node.links from then option_map (λ x. local_error id x) (refuses_interest (local_state node) (link_no from) id i) else None

-- what a router tells of a log is refused where it doesn't follow what is known, or weighs too much
abbrev pub refuses_step_from : NodeState → ℕ → List ℕ → ℕ → Change → Option NodeError
refuses_step_from node from source number c =
    if leads_to_router node.links from then option_map (λ x. known_error x) (refuses_step node.known source number c) else None

abbrev pub refuses_snap_from : NodeState → ℕ → List ℕ → ℕ → List Decl → Option NodeError
refuses_snap_from node from source number decls =
    if leads_to_router node.links from then option_map (λ x. known_error x) (refuses_snap node.known source number decls) else None

-- a request is refused under a number that its link has pending, where its client has as many pending as it may, or where a link over which
-- it goes has no number left
abbrev pub refuses_request : NodeState → ℕ → ℕ → List LinkNo → Option NodeError
refuses_request node from id links =
    if asked (asker from id) node.pending then Some (e.NumberTaken id)
    else if leads_to_client node.links from && asks_most node.pending from then Some (e.TooMany most_pending)
    else if has_no_number node.pending links then Some e.Worn
    else None

-- the refusal of a message from a link, if it is refused
abbrev pub refuses_from : NodeState → ℕ → Msg → Option NodeError
refuses_from node from (Sub id key) = refuses_declared node from (row from id kind.Sub key)
refuses_from node from (Unsub id) = refuses_undeclared node from (key_of from id kind.Sub)
refuses_from node from (Token id key) = refuses_declared node from (row from id kind.Token key)
refuses_from node from (Untoken id) = refuses_undeclared node from (key_of from id kind.Token)
refuses_from node from (Able id key complete) = refuses_declared node from (row from id (able_kind complete) key)
refuses_from node from (Unable id) = refuses_undeclared node from (key_of from id kind.Able)
refuses_from node from (Interest id current future kinds key aggregate) =
    refuses_noted node from id (live future (record { id = id; kinds = kinds; key = key; aggregate = aggregate }))
refuses_from node from (EndInterest id) = None
refuses_from node from (ToldSub id key interest) = None
refuses_from node from (ToldToken id key interest) = None
refuses_from node from (ToldAble id key complete interest) = None
refuses_from node from (ToldUnsub id) = None
refuses_from node from (ToldUntoken id) = None
refuses_from node from (ToldUnable id) = None
refuses_from node from (ToldEnd interest) = None
refuses_from node from (Push tree content) = None
refuses_from node from (Request tree id target content) = refuses_request node from id (asked_links (tables node) from tree target content.key)
refuses_from node from (Response id content) = None
refuses_from node from (Final id extras) = None
refuses_from node from (State links) = None
refuses_from node from (Step source number added decl) = refuses_step_from node from source number (record { added = added; decl = decl })
refuses_from node from (Snap source number decls) = refuses_snap_from node from source number decls

-- the refusal of an event, if it is refused
abbrev pub refuses : NodeState → Event → Option NodeError
refuses node (Up link peer) = refuses_up node.base peer.role
refuses node (Down link) = option_or (refuses_down node.base (link_at node.links link.0)) (refuses_rows node (rows_left node link.0))
refuses node (From link msg) = refuses_from node link.0 msg
