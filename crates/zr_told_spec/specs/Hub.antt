-- One router with all that its clients were told: what each event sends and leaves, and why it is refused (Zenoh protocol 1.0, "INTEREST").
-- To what the router itself does comes, behind it on each link, what the client of the link is told of others' declarations.
use Rattle.std.specs.Prelude.{ℕ, ◌==◌, Bool, not, if◌then◌else◌, List, [], ◌++◌, map, filter, Option, Some, None}
use Rattle.std.specs.Option.{option_or}
use Rattle.zr_id.specs.declared.link.LinkNo.{LinkNo}
use Rattle.zr_msg.specs.declared.error.NodeError.{NodeError}
use Rattle.zr_msg.specs.declared.error.NodeError.TheVariants as e
use Rattle.zr_msg.specs.declared.event.Event.{Event}
use Rattle.zr_msg.specs.declared.event.Event.TheVariants.{Up, Down, From}
use Rattle.zr_msg.specs.declared.msg.Msg.{Msg}
use Rattle.zr_msg.specs.declared.msg.Msg.TheVariants.{Sub, Unsub, Token, Untoken, Able, Unable, Interest, EndInterest, ToldSub, ToldAble, ToldUnsub, ToldToken, ToldUntoken, ToldUnable, ToldEnd, Push, Request, Response, Final, State, Step, Snap}
use Rattle.zr_local.specs.Clients.{interests_on}
use Rattle.zr_local.specs.declared.interest.Interest.{Interest as LiveInterest}
use Rattle.zr_msg.specs.declared.peer.LinkPeer.{LinkPeer}
use Rattle.zr_node_spec.specs.Tables.{TableState, is_router, leads_to_client}
use Rattle.zr_node_spec.specs.State.{NodeState, new_node, tables}
use Rattle.zr_node_spec.specs.Table.{sends, after, refuses}
use Rattle.zr_node_spec.specs.Event.{Tells, TellsPrefix}
use Rattle.zr_told_spec.specs.Rows.{Maps, map_on, others, tells_changes, told_changes, tells_interest, told_interest, one_lacks_ids}
use Rattle.zr_told_spec.specs.Told.{ToldMap}

-- a router, and of what its clients were told: for each link to a client, in the order of the links, by its number
pub record HubState : Type 0 where
  pub node : NodeState
  pub told : Maps

-- a router without links
abbrev pub new_hub : List ℕ → HubState
new_hub me = record { node = new_node me; told = [] }

-- for each link to a client, in the order of the links
abbrev pub by_link : List LinkPeer → (ℕ → ToldMap) → Maps
by_link links told = map (λ l. (l.link.0, told l.link.0)) (filter (λ l. not (is_router l.peer.role)) links)

-- ---- the interest with which an event asks

-- a message asks with an interest in what is declared now, later, or both
pub record Asking : Type 0 where
  pub current : Bool
  pub future : Bool
  pub interest : LiveInterest

abbrev pub asking_of : Msg → Option Asking
asking_of (Sub id key) = None
asking_of (Unsub id) = None
asking_of (Token id key) = None
asking_of (Untoken id) = None
asking_of (Able id key complete) = None
asking_of (Unable id) = None
asking_of (Interest id current future kinds key aggregate) =
    Some (record { current = current; future = future; interest = record { id = id; kinds = kinds; key = key; aggregate = aggregate } })
asking_of (EndInterest id) = None
asking_of (ToldSub id key interest) = None
asking_of (ToldToken id key interest) = None
asking_of (ToldAble id key complete interest) = None
asking_of (ToldUnsub id) = None
asking_of (ToldUntoken id) = None
asking_of (ToldUnable id) = None
asking_of (ToldEnd interest) = None
asking_of (Push tree content) = None
asking_of (Request tree id target content) = None
asking_of (Response id content) = None
asking_of (Final id extras) = None
asking_of (State links) = None
asking_of (Step source number added decl) = None
asking_of (Snap source number decls) = None

-- the one with which an event asks on a link
abbrev pub asking_on : Event → ℕ → Option Asking
asking_on (Up link peer) to = None
asking_on (Down link) to = None
asking_on (From link msg) to = if link.0 == to then asking_of msg else None

-- ---- what the client of a link is told

-- what it is told in answer to its own interest, if it asks with one, or else of what changed; and of what it was told then. The tables are
-- those after the event, and the map is of what it was told before
abbrev pub tells_with : TableState → ToldMap → ℕ → Option Asking → List Msg
tells_with t m to None = tells_changes (others t to) (interests_on t.clients to) m
tells_with t m to (Some a) = tells_interest a.current a.future (others t to) (interests_on t.clients to) a.interest m

abbrev pub told_with : TableState → ToldMap → ℕ → Option Asking → ToldMap
told_with t m to None = told_changes (others t to) (interests_on t.clients to) m
told_with t m to (Some a) = told_interest a.future (others t to) (interests_on t.clients to) a.interest m

-- routers are told nothing, and neither is a client whose link is down
abbrev pub sends_told : TableState → ToldMap → Event → ℕ → List Msg
sends_told t m event to = if leads_to_client t.links to then tells_with t m to (asking_on event to) else []

abbrev pub told_after : TableState → (ℕ → ToldMap) → Event → ℕ → ToldMap
told_after t told event to = if leads_to_client t.links to then told_with t (told to) to (asking_on event to) else []

-- ---- the router with its clients

-- what an event sends on the link of a number
abbrev pub hub_sends : HubState → Event → LinkNo → List Msg
hub_sends h event to = sends h.node event to ++ sends_told (tables (after h.node event)) (map_on h.told to.0) event to.0

-- the state that an event leaves
abbrev pub hub_after : HubState → Event → HubState
hub_after h event = record { node = after h.node event; told = by_link (after h.node event).links (told_after (tables (after h.node event)) (λ k. map_on h.told k) event) }

-- an event is refused where the router refuses it, and where more is wanted on a link than there are ids
abbrev pub hub_refuses : HubState → Event → Option NodeError
hub_refuses h event =
    option_or (refuses h.node event) (if one_lacks_ids (tables (after h.node event)) (after h.node event).clients then Some e.Worn else None)

-- behind what stood there before stands what the event sends, link by link
abbrev pub HubSends : HubState → Event → List (LinkNo × Msg) → List (LinkNo × Msg) → Type 0
HubSends h event before now = Tells (λ k. hub_sends h event (record { 0 = k })) before now

-- behind what stood there before stands a prefix of it, link by link
abbrev pub HubSendsPrefix : HubState → Event → List (LinkNo × Msg) → List (LinkNo × Msg) → Type 0
HubSendsPrefix h event before now = TellsPrefix (λ k. hub_sends h event (record { 0 = k })) before now
