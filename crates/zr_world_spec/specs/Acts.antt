-- What each act does to the world: the report lines, and the world after it; or the refusal, and the world stays.
-- The order of an act's lines is the order of its refusals, which is that of the language (`zr_script_spec`, Command).
use Rattle.std.specs.Prelude.{ℕ, ◌+◌, ◌==◌, not, nat_le, Bool, true, false, if◌then◌else◌, List, [], ◌∷◌, ◌++◌, length, map, filter, Option, Some, None, is_some, unwrap_or, Result, Ok, Err}
use Rattle.std.specs.List.{list_any}
use Rattle.std.specs.Option.{option_map_or}
use Rattle.std.specs.Ordering.{nat_cmp}
use Rattle.std.specs.Cmp.Lexicographic.{slice_cmp}
use Rattle.std.specs.BTreeMap.{insert_entry}
use Rattle.zr_id.specs.Zid.{is_named}
use Rattle.zr_id.specs.declared.link.LinkNo.{LinkNo}
use Rattle.zr_graph.specs.Record.{ids}
use Rattle.zr_graph.specs.Base.{BaseState}
use Rattle.zr_tree.specs.Walk.{graph_of}
use Rattle.zr_tree.specs.Tree.{parent}
use Rattle.zr_msg.specs.declared.content.Parts.{Parts}
use Rattle.zr_msg.specs.declared.decl.Kind.{Kind}
use Rattle.zr_msg.specs.declared.decl.Kind.TheVariants as k
use Rattle.zr_msg.specs.Extras.{no_extras}
use Rattle.zr_msg.specs.Peer.{PeerState}
use Rattle.zr_msg.specs.declared.error.NodeError.{NodeError}
use Rattle.zr_msg.specs.declared.msg.Msg.{Msg}
use Rattle.zr_msg.specs.declared.msg.Msg.TheVariants as m
use Rattle.zr_msg.specs.declared.msg.Kinds.{Kinds}
use Rattle.zr_msg.specs.declared.msg.Target.{Target}
use Rattle.zr_msg.specs.declared.event.Event.{Event}
use Rattle.zr_msg.specs.declared.event.Event.TheVariants.{Up, Down, From}
use Rattle.zr_msg.specs.declared.peer.Role.TheVariants as role
use Rattle.zr_script_spec.specs.declared.error.ScriptError.{ScriptError}
use Rattle.zr_script_spec.specs.declared.error.ScriptError.TheVariants.{BadWords, UnknownName, NameTaken, NotLinked, AlreadyLinked, NothingThere, NotAsked, NotSettled, NotJoined, Limit}
use Rattle.zr_script_spec.specs.declared.command.Act.{Act}
use Rattle.zr_script_spec.specs.declared.command.Act.TheVariants as a
use Rattle.zr_script_spec.specs.declared.command.Mode.{Mode}
use Rattle.zr_script_spec.specs.Mode.{is_current, is_future}
use Rattle.zr_script_spec.specs.declared.report.ReportLine.{ReportLine}
use Rattle.zr_script_spec.specs.declared.report.ReportLine.TheVariants.{Handled, Taken, Mark, Show, Record, Parent, Source}
use Rattle.zr_node_spec.specs.Tables.{link_to, free_link}
use Rattle.zr_node_spec.specs.State.{NodeState, tables}
use Rattle.zr_msg.specs.declared.peer.LinkPeer.{LinkPeer}
use Rattle.zr_log.specs.declared.log.Log.{Log}
use Rattle.zr_node_spec.specs.Table.{able_kind, sends, after}
use Rattle.zr_told_spec.specs.Hub.{HubState, sends_told, hub_after, hub_refuses}
use Rattle.zr_told_spec.specs.Rows.{map_on}
use Rattle.zr_script_spec.specs.Step.{◌>>=◌}
use Rattle.zr_world_spec.specs.World.{Tagged, ClientState, RouterState, EndState, Ends, Routers, Clients, WorldState, with_routers, with_clients, with_ends, new_router, new_client, new_end, router_of, client_of, with_router, with_client, is_taken, end_of, with_end, put_end, most_routers, most_clients, most_links, most_weight, most_queries, weight_of, is_in_place, links_in_place, sent, queued, with_wire, with_queue, broken, lifted, lowered, changed, is_settled}
use Rattle.zr_world_spec.specs.Joined.{is_joined}

abbrev pub Outcome : Type 0
Outcome = Result (List ReportLine × WorldState) ScriptError

-- ---- what an act asks of the world

-- a test that an act has to pass, and what it is refused with otherwise
abbrev pub unless : Bool → ScriptError → Result (Unit {0}) ScriptError
unless true e = Err e
unless false e = Ok tt

abbrev pub router_at : Option RouterState → Result RouterState ScriptError
router_at None = Err UnknownName
router_at (Some r) = Ok r

abbrev pub client_at : Option ClientState → Result ClientState ScriptError
client_at None = Err UnknownName
client_at (Some s) = Ok s

-- a link's end
abbrev pub end_at : Option EndState → Result EndState ScriptError
end_at None = Err NotLinked
end_at (Some s) = Ok s

-- an end that is up
abbrev pub up_at : EndState → Result (Unit {0}) ScriptError
up_at s = unless (not s.up) NotLinked

-- an end whose link is unbroken
abbrev pub unbroken_at : EndState → Result (Unit {0}) ScriptError
unbroken_at s = unless (not s.unbroken) NotLinked

-- the oldest message that waits, and the others
abbrev pub oldest : List Tagged → Result (Tagged × List Tagged) ScriptError
oldest [] = Err NothingThere
oldest (x ∷ more) = Ok (x, more)

-- the ids under which a client has declared something of a sort: a queryable, complete or not, is of one sort
abbrev pub ids_of : ClientState → Kind → List ℕ
ids_of s k.Sub = s.subs
ids_of s k.Able = s.ables
ids_of s k.Full = s.ables
ids_of s k.Token = s.tokens

-- a number is among some
abbrev pub has_number : List ℕ → ℕ → Bool
has_number numbers number = list_any (λ n. n == number) numbers

-- numbers without one of them
abbrev pub without_number : List ℕ → ℕ → List ℕ
without_number numbers number = filter (λ n. not (n == number)) numbers

-- whether a client has declared an id in a sort
abbrev pub has_id : ClientState → Kind → ℕ → Bool
has_id s kind id = has_number (ids_of s kind) id

-- one more declaration weighs on the router
abbrev pub weighing : RouterState → List ℕ → RouterState
weighing r key = record { node = r.node; told = r.told; weight = r.weight + weight_of key }

-- the declaration of a key weighs on its router, if there is room for it
abbrev pub weighed : Routers → List ℕ → List ℕ → Option RouterState → Result Routers ScriptError
weighed routers name key None = Err UnknownName
weighed routers name key (Some r) =
    if nat_le (r.weight + weight_of key) most_weight then Ok (with_router routers name (weighing r key)) else Err Limit

-- the same client with other ids of a sort
abbrev pub with_ids : ClientState → Kind → List ℕ → ClientState
with_ids s k.Sub ids = record s { subs = ids }
with_ids s k.Able ids = record s { ables = ids }
with_ids s k.Full ids = record s { ables = ids }
with_ids s k.Token ids = record s { tokens = ids }

-- the client has declared the id
abbrev pub declaring : ClientState → Kind → ℕ → ClientState
declaring s kind id = with_ids s kind (ids_of s kind ++ id ∷ [])

-- the client has taken the id back
abbrev pub undeclaring : ClientState → Kind → ℕ → ClientState
undeclaring s kind id = with_ids s kind (without_number (ids_of s kind) id)

-- the same client with other interests, with other open queries, and with other requests
abbrev pub with_interests : ClientState → List ℕ → ClientState
with_interests s interests = record s { interests = interests }

abbrev pub with_queries : ClientState → List ℕ → ClientState
with_queries s queries = record s { queries = queries }

abbrev pub with_requests : ClientState → List ℕ → ClientState
with_requests s requests = record s { requests = requests }

-- the client has an interest of the id, which goes on until it ends it
abbrev pub wanting : ClientState → ℕ → ClientState
wanting s id = with_interests s (s.interests ++ id ∷ [])

-- the client has ended its interest of the id
abbrev pub unwanting : ClientState → ℕ → ClientState
unwanting s id = with_interests s (without_number s.interests id)

-- the client has asked a query under the number
abbrev pub asking : ClientState → ℕ → ClientState
asking s number = with_queries s (s.queries ++ number ∷ [])

-- the client has ended the request of the number
abbrev pub ending : ClientState → ℕ → ClientState
ending s number = with_requests s (without_number s.requests number)

-- the client was sent a message: a request is its own to answer until it ends it, and a final closes its query
abbrev pub receiving : ClientState → Msg → ClientState
receiving s (m.Sub id key) = s
receiving s (m.Unsub id) = s
receiving s (m.Token id key) = s
receiving s (m.Untoken id) = s
receiving s (m.Able id key complete) = s
receiving s (m.Unable id) = s
receiving s (m.Interest id current future kinds key aggregate) = s
receiving s (m.EndInterest id) = s
receiving s (m.ToldSub id key interest) = s
receiving s (m.ToldToken id key interest) = s
receiving s (m.ToldAble id key complete interest) = s
receiving s (m.ToldUnsub id) = s
receiving s (m.ToldUntoken id) = s
receiving s (m.ToldUnable id) = s
receiving s (m.ToldEnd interest) = s
receiving s (m.Push tree content) = s
receiving s (m.Request tree id target content) = with_requests s (s.requests ++ id ∷ [])
receiving s (m.Response id content) = s
receiving s (m.Final id extras) = with_queries s (without_number s.queries id)
receiving s (m.State links) = s
receiving s (m.Step source number added decl) = s
receiving s (m.Snap source number decls) = s

-- the clients once a neighbour was sent a message: a router is none of them
abbrev pub received : Clients → List ℕ → Msg → Option ClientState → Clients
received clients name msg None = clients
received clients name msg (Some s) = with_client clients name (receiving s msg)

-- ---- what a router hears

-- what an event makes a router itself send to a neighbour: on the link to it, if there is one afterwards
abbrev pub sends_to : NodeState → Event → List ℕ → List Msg
sends_to node event name = option_map_or (λ l. sends node event l.link) (link_to (after node event).links name) []

-- messages of the router x to its neighbours wait at its ends, with the tag
abbrev pub waiting : Ends → List ℕ → (List ℕ → List Msg) → ℕ → Ends
waiting ends x msgs tag = map (λ e. if is_named x e.0.0 then (e.0, queued e.1 (msgs e.0.1) tag) else e) ends

-- what the router x sends waits at its ends
abbrev pub all_queued : Ends → List ℕ → NodeState → Event → ℕ → Ends
all_queued ends x node event tag = waiting ends x (sends_to node event) tag

-- the router x has heard of an event, and what it sends for it waits
abbrev pub hearing : RouterState → Event → RouterState
hearing r event = record { node = after r.node event; told = r.told; weight = r.weight }

abbrev pub sending : WorldState → List ℕ → RouterState → Event → ℕ → WorldState
sending w x r event tag = with_ends (with_routers w (with_router w.routers x (hearing r event))) (all_queued w.ends x r.node event tag)

-- the router with what its clients were told
abbrev pub hub_of : RouterState → HubState
hub_of r = record { node = r.node; told = r.told }

-- what a neighbour is told then of others' declarations, if it is a client: `r` is the router before the event
abbrev pub told_to : RouterState → Event → List ℕ → List Msg
told_to r event name = option_map_or (λ l. sends_told (tables (after r.node event)) (map_on r.told l.link.0) event l.link.0) (link_to (after r.node event).links name) []

-- the clients of the router x are told that, behind all else
abbrev pub having_told : RouterState → Event → RouterState
having_told r event = record { node = after r.node event; told = (hub_after (hub_of r) event).told; weight = r.weight }

abbrev pub all_told : Ends → List ℕ → RouterState → Event → ℕ → Ends
all_told ends x r event tag = waiting ends x (told_to r event) tag

abbrev pub telling : WorldState → List ℕ → RouterState → Event → ℕ → WorldState
telling w x r event tag = with_ends (with_routers w (with_router w.routers x (having_told r event))) (all_told w.ends x r event tag)

-- a router hears of an event: it sends what is to be sent, and then tells its clients
abbrev pub heard : WorldState → List ℕ → RouterState → Event → ℕ → WorldState
heard w x r event tag = telling (sending w x r event tag) x r event tag

-- whether it refuses an event
abbrev pub refuses_of : RouterState → Event → Option NodeError
refuses_of r event = hub_refuses (hub_of r) event

-- unless the router refuses the event, which no script within its limits comes near
abbrev pub heard_by : WorldState → List ℕ → RouterState → Event → ℕ → Option NodeError → Result WorldState ScriptError
heard_by w x r event tag None = Ok (heard w x r event tag)
heard_by w x r event tag (Some e) = Err Limit

abbrev pub hears : WorldState → List ℕ → RouterState → Event → ℕ → Result WorldState ScriptError
hears w x r event tag = heard_by w x r event tag (refuses_of r event)

-- a neighbour by its name, a router or a client, and what the link to it weighs
abbrev pub peer_of : WorldState → List ℕ → ℕ → PeerState
peer_of w name weight = record { id = name; role = if is_some (router_of w.routers name) then role.Router else role.Client; weight = weight }

-- the link to a neighbour comes up, under the least number that is free
abbrev pub up_event : RouterState → PeerState → Event
up_event r peer = Up (record { 0 = free_link r.node.links }) peer

-- the number of the link to a neighbour, if it is up
abbrev pub number_at : Option LinkPeer → Result LinkNo ScriptError
number_at None = Err NotLinked
number_at (Some l) = Ok l.link

abbrev pub number_to : RouterState → List ℕ → Result LinkNo ScriptError
number_to r name = number_at (link_to r.node.links name)

-- ---- the acts

-- a router without links
unfoldable pub router_step : WorldState → List ℕ → Outcome
router_step w id = do
  a ← unless (is_taken w id) NameTaken
  b ← unless (nat_le most_routers (length w.routers)) Limit
  Ok ([], with_routers w (insert_entry (slice_cmp nat_cmp) w.routers id (new_router id)))

-- a client whose link is up at once
unfoldable pub client_step : WorldState → ℕ → List ℕ → List ℕ → Outcome
client_step w line id router = do
  r ← router_at (router_of w.routers router)
  a ← unless (is_taken w id) NameTaken
  b ← unless (nat_le most_clients (length w.clients)) Limit
  v ← hears (with_ends w (put_end w.ends (router, id) (lifted (new_end 1)))) router r (up_event r (record { id = id; role = role.Client; weight = 1 })) line
  Ok ([], with_clients v (insert_entry (slice_cmp nat_cmp) v.clients id (new_client router)))

-- a link between two routers, up at neither end; no script's line links a router to itself, which is refused as words that don't fit
unfoldable pub link_step : WorldState → List ℕ → List ℕ → ℕ → Outcome
link_step w one other weight = do
  z ← unless (is_named one other) BadWords
  r ← router_at (router_of w.routers one)
  q ← router_at (router_of w.routers other)
  a ← unless (is_in_place w.ends (one, other)) AlreadyLinked
  b ← unless (nat_le most_links (length (links_in_place w))) Limit
  Ok ([], with_ends w (put_end (put_end w.ends (one, other) (new_end weight)) (other, one) (new_end weight)))

-- a router's end comes up
unfoldable pub up_step : WorldState → ℕ → List ℕ → List ℕ → Outcome
up_step w line router name = do
  r ← router_at (router_of w.routers router)
  a ← unless (not (is_taken w name)) UnknownName
  s ← end_at (end_of w.ends (router, name))
  b ← unbroken_at s
  c ← unless s.up AlreadyLinked
  v ← hears (with_ends w (with_end w.ends (router, name) (lifted s))) router r (up_event r (peer_of w name s.weight)) line
  Ok ([], v)

-- a link breaks: what is on its wires is lost
unfoldable pub break_step : WorldState → List ℕ → List ℕ → Outcome
break_step w router name = do
  r ← router_at (router_of w.routers router)
  a ← unless (not (is_taken w name)) UnknownName
  s ← end_at (end_of w.ends (router, name))
  b ← unbroken_at s
  Ok ([], with_ends w (changed (changed w.ends (router, name) broken) (name, router) broken))

-- a router notices that a link is broken
unfoldable pub down_step : WorldState → ℕ → List ℕ → List ℕ → Outcome
down_step w line router name = do
  r ← router_at (router_of w.routers router)
  a ← unless (not (is_taken w name)) UnknownName
  s ← end_at (end_of w.ends (router, name))
  b ← up_at s
  c ← unless s.unbroken NotLinked
  l ← number_to r name
  v ← hears w router r (Down l) line
  Ok ([], with_ends v (changed v.ends (router, name) lowered))

-- a client's message goes onto the wire to its router, where their link is unbroken
unfoldable pub client_sends : WorldState → ℕ → List ℕ → ClientState → Msg → Result WorldState ScriptError
client_sends w line name s msg = do
  e ← end_at (end_of w.ends (s.router, name))
  a ← unbroken_at e
  Ok (with_ends w (with_end w.ends (s.router, name) (sent e msg line)))

-- a client declares something under an id that is new in its sort
unfoldable pub declare_step : WorldState → ℕ → List ℕ → Kind → ℕ → List ℕ → Msg → Outcome
declare_step w line name kind id key msg = do
  s ← client_at (client_of w.clients name)
  a ← unless (has_id s kind id) NameTaken
  v ← client_sends w line name s msg
  routers ← weighed v.routers s.router key (router_of v.routers s.router)
  Ok ([], with_clients (with_routers v routers) (with_client v.clients name (declaring s kind id)))

-- a client takes back what it declared under an id
unfoldable pub undeclare_step : WorldState → ℕ → List ℕ → Kind → ℕ → Msg → Outcome
undeclare_step w line name kind id msg = do
  s ← client_at (client_of w.clients name)
  a ← unless (not (has_id s kind id)) UnknownName
  v ← client_sends w line name s msg
  Ok ([], with_clients v (with_client v.clients name (undeclaring s kind id)))

-- an interest that goes on is one of its client's until it ends it, and weighs
abbrev pub keeps_interest : WorldState → List ℕ → ClientState → ℕ → List ℕ → Outcome
keeps_interest v name s id key = do
  routers ← weighed v.routers s.router key (router_of v.routers s.router)
  Ok ([], with_clients (with_routers v routers) (with_client v.clients name (wanting s id)))

-- a client asks to be told what others declare, under an id that none of its interests has; one in what is declared later goes on
unfoldable pub interest_step : WorldState → ℕ → List ℕ → ℕ → Mode → Kinds → Option (List ℕ) → Bool → Outcome
interest_step w line name id mode kinds key aggregate = do
  s ← client_at (client_of w.clients name)
  a ← unless (has_number s.interests id) NameTaken
  v ← client_sends w line name s (m.Interest id (is_current mode) (is_future mode) kinds key aggregate)
  if is_future mode then keeps_interest v name s id (unwrap_or key []) else Ok ([], v)

-- a client ends its interest of an id
unfoldable pub uninterest_step : WorldState → ℕ → List ℕ → ℕ → Outcome
uninterest_step w line name id = do
  s ← client_at (client_of w.clients name)
  a ← unless (not (has_number s.interests id)) UnknownName
  v ← client_sends w line name s (m.EndInterest id)
  Ok ([], with_clients v (with_client v.clients name (unwanting s id)))

-- a client publishes a sample; on its link no tree is named
unfoldable pub publish_step : WorldState → ℕ → List ℕ → Parts → Outcome
publish_step w line name content = do
  s ← client_at (client_of w.clients name)
  v ← client_sends w line name s (m.Push None content)
  Ok ([], v)

-- a client asks a query under a number that is none of its open ones; on its link no tree is named
unfoldable pub get_step : WorldState → ℕ → List ℕ → ℕ → Target → Parts → Outcome
get_step w line name number target content = do
  s ← client_at (client_of w.clients name)
  a ← unless (has_number s.queries number) NameTaken
  v ← client_sends w line name s (m.Request None number target content)
  b ← unless (nat_le most_queries (length s.queries)) Limit
  Ok ([], with_clients v (with_client v.clients name (asking s number)))

-- a client replies to a request that it was sent and has not ended
unfoldable pub reply_step : WorldState → ℕ → List ℕ → ℕ → Parts → Outcome
reply_step w line name number content = do
  s ← client_at (client_of w.clients name)
  v ← client_sends w line name s (m.Response number content)
  a ← unless (not (has_number s.requests number)) NotAsked
  Ok ([], v)

-- a client ends a request
unfoldable pub end_step : WorldState → ℕ → List ℕ → ℕ → Outcome
end_step w line name number = do
  s ← client_at (client_of w.clients name)
  v ← client_sends w line name s (m.Final number no_extras)
  a ← unless (not (has_number s.requests number)) NotAsked
  Ok ([], with_clients v (with_client v.clients name (ending s number)))

-- a router handles the oldest message on the wire from a neighbour; what it sends has that message's tag
unfoldable pub handle_step : WorldState → List ℕ → List ℕ → Outcome
handle_step w router from = do
  r ← router_at (router_of w.routers router)
  a ← unless (not (is_taken w from)) UnknownName
  s ← end_at (end_of w.ends (router, from))
  b ← up_at s
  x ← oldest s.wire
  l ← number_to r from
  v ← hears (with_ends w (with_end w.ends (router, from) (with_wire s x.1))) router r (From l x.0.msg) x.0.tag
  Ok (Handled router from x.0.msg x.0.tag ∷ [], v)

-- a router's oldest queued message goes onto the wire to the neighbour; to a client, which has no end of its own, it is sent
unfoldable pub take_step : WorldState → List ℕ → List ℕ → Outcome
take_step w router to = do
  r ← router_at (router_of w.routers router)
  a ← unless (not (is_taken w to)) UnknownName
  s ← end_at (end_of w.ends (router, to))
  b ← up_at s
  c ← unbroken_at s
  x ← oldest s.queue
  Ok (
    Taken router to x.0.msg x.0.tag ∷ [],
    with_clients
        (with_ends w (changed (with_end w.ends (router, to) (with_queue s x.1)) (to, router) (λ e. sent e x.0.msg x.0.tag)))
        (received w.clients to x.0.msg (client_of w.clients to)),
  )

-- a phase begins, where the world is settled and its routers are joined
unfoldable pub mark_step : WorldState → ℕ → Outcome
mark_step w line = do
  a ← unless (not (is_settled w)) NotSettled
  b ← unless (not (is_joined w)) NotJoined
  Ok (Mark line ∷ [], w)

-- a router's tables: its records, its parent in the tree of each other router, and what it knows of each log, in ascending order
abbrev pub parent_line : BaseState → List ℕ → ReportLine
parent_line b root = Parent root (parent (graph_of b.records) root b.me)

abbrev pub source_line : Log → ReportLine
source_line log = Source log.source log.position log.decls

abbrev pub shown_base : BaseState → List ReportLine
shown_base b = map (λ r. Record r) b.records ++ map (λ root. parent_line b root) (filter (λ id. not (is_named id b.me)) (ids b.records))

abbrev pub shown : NodeState → List ReportLine
shown node = shown_base node.base ++ map source_line node.known.logs

unfoldable pub show_step : WorldState → List ℕ → Outcome
show_step w router = do
  r ← router_at (router_of w.routers router)
  Ok (Show router ∷ shown r.node, w)

-- what an act of a line does
unfoldable pub outcome : WorldState → ℕ → Act → Outcome
outcome w line (a.Router id) = router_step w id
outcome w line (a.Client id router) = client_step w line id router
outcome w line (a.Link one other weight) = link_step w one other weight
outcome w line (a.Up router neighbour) = up_step w line router neighbour
outcome w line (a.Break router neighbour) = break_step w router neighbour
outcome w line (a.Down router neighbour) = down_step w line router neighbour
outcome w line (a.Sub client id key) = declare_step w line client k.Sub id key (m.Sub id key)
outcome w line (a.Unsub client id) = undeclare_step w line client k.Sub id (m.Unsub id)
outcome w line (a.Token client id key) = declare_step w line client k.Token id key (m.Token id key)
outcome w line (a.Untoken client id) = undeclare_step w line client k.Token id (m.Untoken id)
outcome w line (a.Able client id key complete) = declare_step w line client (able_kind complete) id key (m.Able id key complete)
outcome w line (a.Unable client id) = undeclare_step w line client k.Able id (m.Unable id)
outcome w line (a.Interest client id mode kinds key aggregate) = interest_step w line client id mode kinds key aggregate
outcome w line (a.Uninterest client id) = uninterest_step w line client id
outcome w line (a.Publish client content) = publish_step w line client content
outcome w line (a.Get client number target content) = get_step w line client number target content
outcome w line (a.Reply client number content) = reply_step w line client number content
outcome w line (a.End client number) = end_step w line client number
outcome w line (a.Handle router from) = handle_step w router from
outcome w line (a.Take router to) = take_step w router to
outcome w line a.Mark = mark_step w line
outcome w line (a.Show router) = show_step w router
