-- The world of a script: its routers and clients by name, the ends of links, what waits there, and what is under way.
-- What each act does to it stands in Acts.
use Rattle.std.specs.Prelude.{ℕ, ◌+◌, ◌&&◌, ◌||◌, not, Bool, true, false, if◌then◌else◌, List, [], ◌∷◌, ◌++◌, length, map, filter, Option, Some, None, is_some}
use Rattle.std.specs.declared.cmp.Ordering.{Ordering}
use Rattle.std.specs.Ordering.{is_eq, nat_cmp, ordering_then}
use Rattle.std.specs.Cmp.Lexicographic.{slice_cmp}
use Rattle.std.specs.List.{list_all}
use Rattle.std.specs.Option.{option_map_or}
use Rattle.std.specs.Map.{lookup, set_value, keys_of, values_of}
use Rattle.std.specs.BTreeMap.{insert_entry}
use Rattle.zr_id.specs.Record.{is_before}
use Rattle.zr_id.specs.Zid.{is_named}
use Rattle.zr_msg.specs.declared.msg.Msg.{Msg}
use Rattle.zr_msg.specs.declared.msg.Msg.TheVariants.{Sub, Unsub, Token, Untoken, Able, Unable, Interest, EndInterest, ToldSub, ToldAble, ToldUnsub, ToldToken, ToldUntoken, ToldUnable, ToldEnd, Push, Request, Response, Final, State, Step, Snap}
use Rattle.zr_node_spec.specs.State.{NodeState, new_node}
use Rattle.zr_told_spec.specs.Rows.{Maps}

-- ---- the data

-- a message that waits, with its tag: the number of the script line that it comes from
pub record Tagged : Type 0 where
  pub msg : Msg
  pub tag : ℕ

-- a router, of what its clients were told, link by link, and what all declarations and interests of its clients so far weigh together
pub record RouterState : Type 0 where
  pub node : NodeState
  pub told : Maps
  pub weight : ℕ

-- a client: its router, the ids under which it has a subscriber, a queryable and a token declared and those of its interests that it has not
-- ended, the numbers of its queries whose final was not sent yet, and those of the requests that it was sent and has not ended
pub record ClientState : Type 0 where
  pub router : List ℕ
  pub subs : List ℕ
  pub ables : List ℕ
  pub tokens : List ℕ
  pub interests : List ℕ
  pub queries : List ℕ
  pub requests : List ℕ

-- one end of a link, that of a router; the neighbour at the other end is a router or a client
abbrev pub End : Type 0
End = List ℕ × List ℕ

-- what is at a router's end: whether the end is up, whether the link is unbroken, what the router has queued for the neighbour, what the
-- wire from the neighbour has for the router, the oldest message first, and what the link weighs for the router
pub record EndState : Type 0 where
  pub up : Bool
  pub unbroken : Bool
  pub queue : List Tagged
  pub wire : List Tagged
  pub weight : ℕ

abbrev pub Routers : Type 0
Routers = List (List ℕ × RouterState)

abbrev pub Clients : Type 0
Clients = List (List ℕ × ClientState)

abbrev pub Ends : Type 0
Ends = List (End × EndState)

-- a world: routers, clients and ends in ascending order, and how many steps all runs so far asked for
pub record WorldState : Type 0 where
  pub routers : Routers
  pub clients : Clients
  pub ends : Ends
  pub booked : ℕ

abbrev pub empty_world : WorldState
empty_world = record { routers = []; clients = []; ends = []; booked = 0 }

-- the same world with another part
abbrev pub with_routers : WorldState → Routers → WorldState
with_routers w routers = record { routers = routers; clients = w.clients; ends = w.ends; booked = w.booked }

abbrev pub with_clients : WorldState → Clients → WorldState
with_clients w clients = record { routers = w.routers; clients = clients; ends = w.ends; booked = w.booked }

abbrev pub with_ends : WorldState → Ends → WorldState
with_ends w ends = record { routers = w.routers; clients = w.clients; ends = ends; booked = w.booked }

abbrev pub with_booked : WorldState → ℕ → WorldState
with_booked w booked = record { routers = w.routers; clients = w.clients; ends = w.ends; booked = booked }

-- a router without links
abbrev pub new_router : List ℕ → RouterState
new_router id = record { node = new_node id; told = []; weight = 0 }

-- a client that has declared nothing and has asked nothing
abbrev pub new_client : List ℕ → ClientState
new_client router = record { router = router; subs = []; ables = []; tokens = []; interests = []; queries = []; requests = [] }

-- the end of a new link of this weight: nothing waits there
abbrev pub new_end : ℕ → EndState
new_end weight = record { up = false; unbroken = true; queue = []; wire = []; weight = weight }

-- ---- names

abbrev pub router_of : Routers → List ℕ → Option RouterState
router_of routers name = lookup (is_named name) routers

abbrev pub client_of : Clients → List ℕ → Option ClientState
client_of clients name = lookup (is_named name) clients

abbrev pub with_router : Routers → List ℕ → RouterState → Routers
with_router routers name r = set_value (is_named name) routers r

abbrev pub with_client : Clients → List ℕ → ClientState → Clients
with_client clients name s = set_value (is_named name) clients s

-- routers and clients share one set of names
abbrev pub is_taken : WorldState → List ℕ → Bool
is_taken w name = is_some (router_of w.routers name) || is_some (client_of w.clients name)

-- ---- ends

-- ends go by router, then by neighbour
abbrev pub end_cmp : End → End → Ordering
end_cmp a b = ordering_then (slice_cmp nat_cmp a.0 b.0) (slice_cmp nat_cmp a.1 b.1)

-- two ends are one
abbrev pub is_end : End → End → Bool
is_end a b = is_eq (end_cmp a b)

abbrev pub end_of : Ends → End → Option EndState
end_of ends e = lookup (is_end e) ends

abbrev pub with_end : Ends → End → EndState → Ends
with_end ends e s = set_value (is_end e) ends s

-- an end of which one knows, or a new one
abbrev pub put_end : Ends → End → EndState → Ends
put_end ends e s = if is_some (end_of ends e) then with_end ends e s else insert_entry end_cmp ends e s

-- the other end of a link between routers
abbrev pub turned : End → End
turned e = (e.1, e.0)

-- ---- limits

-- how many routers and how many clients a world has at most, all that ever came
abbrev pub most_routers : ℕ
most_routers = 64

abbrev pub most_clients : ℕ
most_clients = 1024

-- how many links between routers are in place at most
abbrev pub most_links : ℕ
most_links = 512

-- what all declarations and interests of one router's clients weigh together at most, also those that were taken back
abbrev pub most_weight : ℕ
most_weight = 4194304

-- how many queries of a client are open at most
abbrev pub most_queries : ℕ
most_queries = 4096

-- how many steps all runs ask for at most
abbrev pub most_steps : ℕ
most_steps = 10000000

-- what the declaration of a key weighs, or an interest in it; one without a key weighs as one with no text
abbrev pub weight_of : List ℕ → ℕ
weight_of key = length key + 16

-- ---- links

-- the state of an end passes a test; an end of no link passes none
abbrev pub passes : (EndState → Bool) → Ends → End → Bool
passes test ends e = option_map_or test (end_of ends e) false

abbrev pub is_up : Ends → End → Bool
is_up ends e = passes (λ s. s.up) ends e

abbrev pub is_unbroken : Ends → End → Bool
is_unbroken ends e = passes (λ s. s.unbroken) ends e

-- what the link weighs for the router of an end, and nothing where there is no such end
abbrev pub end_weight : Ends → End → ℕ
end_weight ends e = option_map_or (λ s. s.weight) (end_of ends e) 0

-- a link between routers is up at both ends
abbrev pub is_linked : Ends → List ℕ → List ℕ → Bool
is_linked ends x y = is_up ends (x, y) && is_up ends (y, x)

-- a link is in place until it is broken and no router's end is up
abbrev pub is_in_place : Ends → End → Bool
is_in_place ends e = is_unbroken ends e || is_up ends e || is_up ends (turned e)

-- whether an end is the first one of a link between routers
abbrev pub is_first_end : Routers → End → Bool
is_first_end routers e = is_some (router_of routers e.1) && is_before e.0 e.1

-- the links between routers that are in place, each by its first end
abbrev pub links_in_place : WorldState → List End
links_in_place w = filter (λ e. is_first_end w.routers e && is_in_place w.ends e) (keys_of w.ends)

-- ---- wires and queues

-- one message more on the wire from the neighbour
abbrev pub sent : EndState → Msg → ℕ → EndState
sent s msg tag = record { up = s.up; unbroken = s.unbroken; queue = s.queue; wire = s.wire ++ record { msg = msg; tag = tag } ∷ []; weight = s.weight }

-- more messages queued for the neighbour, all with one tag
abbrev pub queued : EndState → List Msg → ℕ → EndState
queued s msgs tag = record { up = s.up; unbroken = s.unbroken; queue = s.queue ++ map (λ m. record { msg = m; tag = tag }) msgs; wire = s.wire; weight = s.weight }

abbrev pub with_wire : EndState → List Tagged → EndState
with_wire s wire = record { up = s.up; unbroken = s.unbroken; queue = s.queue; wire = wire; weight = s.weight }

abbrev pub with_queue : EndState → List Tagged → EndState
with_queue s queue = record { up = s.up; unbroken = s.unbroken; queue = queue; wire = s.wire; weight = s.weight }

-- the link is broken: what was on the wire is lost
abbrev pub broken : EndState → EndState
broken s = record { up = s.up; unbroken = false; queue = s.queue; wire = []; weight = s.weight }

-- the end is up
abbrev pub lifted : EndState → EndState
lifted s = record { up = true; unbroken = s.unbroken; queue = s.queue; wire = s.wire; weight = s.weight }

-- the end is down: what was queued is lost
abbrev pub lowered : EndState → EndState
lowered s = record { up = false; unbroken = s.unbroken; queue = []; wire = s.wire; weight = s.weight }

-- a change of one end, where it is there
abbrev pub changed : Ends → End → (EndState → EndState) → Ends
changed ends e change = map (λ x. if is_end e x.0 then (x.0, change x.1) else x) ends

-- ---- what is under way

-- no message waits
abbrev pub is_empty : List Tagged → Bool
is_empty [] = true
is_empty (x ∷ xs) = false

-- what is on the wire to an end
abbrev pub wire_at : Option EndState → List Tagged
wire_at None = []
wire_at (Some s) = s.wire

-- no message is under way at the end
abbrev pub is_idle : EndState → Bool
is_idle s = is_empty s.wire && is_empty s.queue

-- nothing is under way
abbrev pub is_quiet : WorldState → Bool
is_quiet w = list_all is_idle (values_of w.ends)

-- whether a message changes what routers know of links and declarations: a world where one is under way isn't settled
abbrev pub unsettles : Msg → Bool
unsettles (Sub id key) = true
unsettles (Unsub id) = true
unsettles (Token id key) = true
unsettles (Untoken id) = true
unsettles (Able id key complete) = true
unsettles (Unable id) = true
unsettles (Interest id current future kinds key aggregate) = false
unsettles (EndInterest id) = false
unsettles (ToldSub id key interest) = false
unsettles (ToldToken id key interest) = false
unsettles (ToldAble id key complete interest) = false
unsettles (ToldUnsub id) = false
unsettles (ToldUntoken id) = false
unsettles (ToldUnable id) = false
unsettles (ToldEnd interest) = false
unsettles (Push tree content) = false
unsettles (Request tree id target content) = false
unsettles (Response id content) = false
unsettles (Final id extras) = false
unsettles (State links) = true
unsettles (Step source number added decl) = true
unsettles (Snap source number decls) = true

-- a message that may be under way where a world is settled
abbrev pub is_calm : Tagged → Bool
is_calm x = not (unsettles x.msg)

-- nothing under way at the end unsettles
abbrev pub is_calm_end : EndState → Bool
is_calm_end s = list_all is_calm s.wire && list_all is_calm s.queue

-- an end that is up is that of an unbroken link; where the neighbour is a router, its end is up too
abbrev pub is_met : WorldState → End → EndState → Bool
is_met w e s = not s.up || (s.unbroken && (not (is_some (router_of w.routers e.1)) || is_up w.ends (turned e)))

-- a world is settled where no link between routers is up at one end only, no broken link has a router's end up, and nothing under way
-- unsettles
abbrev pub is_settled : WorldState → Bool
is_settled w = list_all (λ x. is_met w x.0 x.1 && is_calm_end x.1) w.ends
