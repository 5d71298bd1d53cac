-- Several routers that run each on its own: what they hear of, one after another in an order of real time, and what has come of it.
-- Their links keep order and lose nothing. A client says what a client of a script may say.
use Rattle.std.specs.Prelude.{◌≡◌, ℕ, ◌+◌, ◌&&◌, ◌||◌, not, nat_le, Bool, true, false, if◌then◌else◌, List, [], ◌∷◌, ◌++◌, length, Option, Some, None, is_some, unwrap_or}
use Rattle.std.specs.List.{fold}
use Rattle.std.specs.Option.{option_map, option_map_or}
use Rattle.zr_id.specs.Zid.{is_named}
use Rattle.zr_msg.specs.declared.decl.Kind.TheVariants as k
use Rattle.zr_msg.specs.Extras.{no_extras}
use Rattle.zr_msg.specs.declared.event.Event.{Event}
use Rattle.zr_msg.specs.declared.event.Event.TheVariants.{Up, Down, From}
use Rattle.zr_msg.specs.declared.msg.Msg.{Msg}
use Rattle.zr_msg.specs.declared.msg.Msg.TheVariants.{Sub, Unsub, Token, Untoken, Able, Unable, Interest, EndInterest, ToldSub, ToldAble, ToldUnsub, ToldToken, ToldUntoken, ToldUnable, ToldEnd, Push, Request, Response, Final, State, Step, Snap}
use Rattle.zr_msg.specs.declared.peer.LinkPeer.{LinkPeer}
use Rattle.zr_msg.specs.declared.peer.Role.{Role}
use Rattle.zr_msg.specs.declared.peer.Role.TheVariants as role
use Rattle.zr_msg.specs.Peer.{PeerState}
use Rattle.zr_node_spec.specs.Tables.{link_at, link_to}
use Rattle.zr_told_spec.specs.Hub.{HubState, new_hub, hub_after, hub_sends}
use Rattle.zr_world_spec.specs.World.{ClientState, End, is_end, new_client, most_queries, weight_of}
use Rattle.zr_world_spec.specs.Acts.{has_number, has_id, declaring, undeclaring, wanting, unwanting, asking, ending, receiving}

-- ---- the run

-- one of several routers, and an event that it hears of
pub record Heard : Type 0 where
  pub router : List ℕ
  pub event : Event

-- one router's part: what it hears of, in order
abbrev pub part : List Heard → List ℕ → List Event
part [] me = []
part (h ∷ run) me = if is_named h.router me then h.event ∷ part run me else part run me

-- the tables that a router has come to by its part alone
abbrev pub hub_by : List ℕ → List Event → HubState
hub_by me events = fold hub_after (new_hub me) events

-- what clients do: one comes to a router, the link of a router and a neighbour goes down at the first of its ends, and a client says something
pub data Deed : Type 0 where
  Arrival : (client router : List ℕ) → Deed
  Parting : (router neighbour : List ℕ) → Deed
  Saying : (client : List ℕ) (msg : Msg) → Deed

-- ---- what has come of it

-- What a router has towards a neighbour: whether their link has come up at an end and gone down at none, what it has queued for a router there
-- that this one has not heard of yet, the oldest message first, and what the link weighs.
pub record LinkState : Type 0 where
  pub whole : Bool
  pub waits : List Msg
  pub weight : ℕ

-- By identifier, the tables of each router, what its clients' declarations and interests weigh together, each client that has come, and all that
-- was queued for it; by a router and its neighbour, their link; what clients have done, in order; and how many clients have come.
pub record Several : Type 0 where
  pub hub : List ℕ → HubState
  pub weight : List ℕ → ℕ
  pub clients : List ℕ → Option ClientState
  pub sent : List ℕ → List Msg
  pub links : End → LinkState
  pub deeds : List Deed
  pub came : ℕ

abbrev pub no_link : LinkState
no_link = record { whole = false; waits = []; weight = 0 }

abbrev pub new_link : ℕ → LinkState
new_link weight = record { whole = true; waits = []; weight = weight }

-- no router has heard of anything
abbrev pub at_first : Several
at_first = record { hub = λ x. new_hub x; weight = λ x. 0; clients = λ c. None; sent = λ c. []; links = λ e. no_link; deeds = []; came = 0 }

-- another value under one name, or at one end
abbrev pub at_name : {X : Type 0} → (List ℕ → X) → List ℕ → X → List ℕ → X
at_name f name v q = if is_named name q then v else f q

abbrev pub at_end : (End → LinkState) → End → LinkState → End → LinkState
at_end f e v q = if is_end e q then v else f q

-- a router has a link to a neighbour
abbrev pub has_link : Several → List ℕ → List ℕ → Bool
has_link s x y = is_some (link_to (s.hub x).node.links y)

-- ---- a router hears of an event

-- what the event makes a router send to a neighbour: on the link to it, if there is one afterwards
abbrev pub queued_for : HubState → Event → List ℕ → List Msg
queued_for h event name = option_map_or (λ l. hub_sends h event l.link) (link_to (hub_after h event).node.links name) []

abbrev pub with_waits : LinkState → List Msg → LinkState
with_waits l waits = record { whole = l.whole; waits = waits; weight = l.weight }

-- its tables change, each client is sent what is queued for it, and what is queued for a router waits
abbrev pub heard : Several → List ℕ → Event → Several
heard s x event = record {
  hub = at_name s.hub x (hub_after (s.hub x) event);
  weight = s.weight;
  clients = λ c. option_map (λ k. fold receiving k (queued_for (s.hub x) event c)) (s.clients c);
  sent = λ c. s.sent c ++ queued_for (s.hub x) event c;
  links = λ e. if is_named x e.0 && not (is_some (s.clients e.1)) then with_waits (s.links e) ((s.links e).waits ++ queued_for (s.hub x) event e.1) else s.links e;
  deeds = s.deeds;
  came = s.came;
}

-- ---- links come up and go down

-- a client comes to a router
abbrev pub with_client : Several → List ℕ → List ℕ → Several
with_client s x c = record s { clients = at_name s.clients c (Some (new_client x)); links = at_end s.links (x, c) (new_link 1); deeds = s.deeds ++ Arrival c x ∷ []; came = s.came + 1 }

-- a link between two routers comes up at the first of its ends
abbrev pub with_link : Several → List ℕ → List ℕ → ℕ → Several
with_link s x y weight = record s { links = at_end (at_end s.links (x, y) (new_link weight)) (y, x) (new_link weight) }

-- a link goes down at the first of its ends
abbrev pub parted : LinkState → LinkState
parted l = record { whole = false; waits = l.waits; weight = l.weight }

abbrev pub without_link : Several → List ℕ → List ℕ → Several
without_link s x y = record s { links = λ e. if is_end (x, y) e || is_end (y, x) e then parted (s.links e) else s.links e; deeds = s.deeds ++ Parting x y ∷ [] }

abbrev pub parting : Several → List ℕ → List ℕ → Several
parting s x y = if (s.links (x, y)).whole then without_link s x y else s

-- what was queued for a neighbour is lost
abbrev pub with_none : Several → End → Several
with_none s e = record s { links = at_end s.links e (with_waits (s.links e) []) }

-- the neighbour comes, or the link to it, unless the link has come up at its other end
abbrev pub coming : Several → List ℕ → PeerState → Role → Several
coming s x peer role.Client = with_client s x peer.id
coming s x peer role.Router = if (s.links (x, peer.id)).whole then s else with_link s x peer.id peer.weight

-- ---- what clients say

-- what a message adds to the weight of a client's declarations and interests
abbrev pub weighs : Msg → ℕ
weighs (Sub id key) = weight_of key
weighs (Unsub id) = 0
weighs (Token id key) = weight_of key
weighs (Untoken id) = 0
weighs (Able id key complete) = weight_of key
weighs (Unable id) = 0
weighs (Interest id current future kinds key aggregate) = if future then weight_of (unwrap_or key []) else 0
weighs (EndInterest id) = 0
weighs (ToldSub id key interest) = 0
weighs (ToldAble id key complete interest) = 0
weighs (ToldUnsub id) = 0
weighs (ToldToken id key interest) = 0
weighs (ToldUntoken id) = 0
weighs (ToldUnable id) = 0
weighs (ToldEnd interest) = 0
weighs (Push tree content) = 0
weighs (Request tree id target content) = 0
weighs (Response id content) = 0
weighs (Final id extras) = 0
weighs (State links) = 0
weighs (Step source number added decl) = 0
weighs (Snap source number decls) = 0

-- What a client may say: what it declares, is interested in or asks has an id that is free; what it takes back stands; what it answers it was asked.
-- An interest is in what is declared now or later, and of open queries there are no more than a script's client has. In a run a client names no tree:
-- where it named one, the run has the message without it (`AreHeardIn`).
abbrev pub MaySay : ClientState → Msg → Type 0
MaySay s (Sub id key) = has_id s k.Sub id ≡ false
MaySay s (Unsub id) = has_id s k.Sub id ≡ true
MaySay s (Token id key) = has_id s k.Token id ≡ false
MaySay s (Untoken id) = has_id s k.Token id ≡ true
MaySay s (Able id key complete) = has_id s k.Able id ≡ false
MaySay s (Unable id) = has_id s k.Able id ≡ true
MaySay s (Interest id current future kinds key aggregate) = (has_number s.interests id ≡ false) × ((current || future) ≡ true)
MaySay s (EndInterest id) = has_number s.interests id ≡ true
MaySay s (ToldSub id key interest) = ⊥
MaySay s (ToldAble id key complete interest) = ⊥
MaySay s (ToldUnsub id) = ⊥
MaySay s (ToldToken id key interest) = ⊥
MaySay s (ToldUntoken id) = ⊥
MaySay s (ToldUnable id) = ⊥
MaySay s (ToldEnd interest) = ⊥
MaySay s (Push tree content) = tree ≡ None
MaySay s (Request tree id target content) = (tree ≡ None) × (has_number s.queries id ≡ false) × (nat_le most_queries (length s.queries) ≡ false)
MaySay s (Response id content) = has_number s.requests id ≡ true
MaySay s (Final id extras) = (has_number s.requests id ≡ true) × (extras ≡ no_extras)
MaySay s (State links) = ⊥
MaySay s (Step source number added decl) = ⊥
MaySay s (Snap source number decls) = ⊥

-- the client that has said it
abbrev pub said : ClientState → Msg → ClientState
said s (Sub id key) = declaring s k.Sub id
said s (Unsub id) = undeclaring s k.Sub id
said s (Token id key) = declaring s k.Token id
said s (Untoken id) = undeclaring s k.Token id
said s (Able id key complete) = declaring s k.Able id
said s (Unable id) = undeclaring s k.Able id
said s (Interest id current future kinds key aggregate) = if future then wanting s id else s
said s (EndInterest id) = unwanting s id
said s (ToldSub id key interest) = s
said s (ToldAble id key complete interest) = s
said s (ToldUnsub id) = s
said s (ToldToken id key interest) = s
said s (ToldUntoken id) = s
said s (ToldUnable id) = s
said s (ToldEnd interest) = s
said s (Push tree content) = s
said s (Request tree id target content) = asking s id
said s (Response id content) = s
said s (Final id extras) = ending s id
said s (State links) = s
said s (Step source number added decl) = s
said s (Snap source number decls) = s

-- a client has said something at its router
abbrev pub saying : Several → List ℕ → List ℕ → ClientState → Msg → Several
saying s x c client msg = record s { clients = at_name s.clients c (Some (said client msg)); weight = at_name s.weight x (s.weight x + weighs msg); deeds = s.deeds ++ Saying c msg ∷ [] }

-- a router hears of the next message that the neighbour's router has queued for it
abbrev pub behind_first : {X : Type 0} → List X → List X
behind_first [] = []
behind_first (x ∷ xs) = xs

abbrev pub taking : Several → End → Several
taking s e = record s { links = at_end s.links e (with_waits (s.links e) (behind_first (s.links e).waits)) }

-- ---- one more event

-- what comes of a message over a link, before the router hears of it
abbrev pub spoken : Several → List ℕ → List ℕ → Option ClientState → Msg → Several
spoken s x c None msg = s
spoken s x c (Some client) msg = saying s x c client msg

abbrev pub handed : Several → List ℕ → List ℕ → Role → Msg → Several
handed s x y role.Client msg = spoken s x y (s.clients y) msg
handed s x y role.Router msg = taking s (y, x)

abbrev pub gone : Several → List ℕ → Event → Option LinkPeer → Several
gone s x event None = s
gone s x event (Some l) = with_none (heard (parting s x l.peer.id) x event) (x, l.peer.id)

abbrev pub brought : Several → List ℕ → Event → Msg → Option LinkPeer → Several
brought s x event msg None = s
brought s x event msg (Some l) = heard (handed s x l.peer.id l.peer.role msg) x event

-- what has come of it once a router has heard of one more event
abbrev pub happened_at : Several → List ℕ → Event → Several
happened_at s x (Up link peer) = heard (coming s x peer peer.role) x (Up link peer)
happened_at s x (Down link) = gone s x (Down link) (link_at (s.hub x).node.links link.0)
happened_at s x (From link msg) = brought s x (From link msg) msg (link_at (s.hub x).node.links link.0)

abbrev pub happened : Several → Heard → Several
happened s h = happened_at s h.router h.event

-- what has come of a run
abbrev pub outcome_from : Several → List Heard → Several
outcome_from s [] = s
outcome_from s (h ∷ run) = outcome_from (happened s h) run

abbrev pub outcome_of : List Heard → Several
outcome_of run = outcome_from at_first run
