-- What a world weighs (`WeightsHold`). What a router's clients have ever declared weighs no more than its `weight`, which is bounded. So do its
-- rows and the live interests of its clients together, and so much its own log's number, both with what still waits on its wires; and all that
-- any router knows of its log, or is told of it, was once declared there. All is said of one world alone: nothing here stands on an order of
-- messages, or on gaps.
use Rattle.std.proofs.Common.{◌≡◌, ◌≤◌, ◌+◌, ℕ, true, false, cond, List, [], ◌∷◌, ◌++◌, length, Option, Some, None}
use Rattle.std.specs.List.{AllByRecursion, sum_by}
use Rattle.std.specs.Option.{option_map_or}
use Rattle.zr_id.specs.Zid.{is_named}
use Rattle.zr_msg.specs.declared.decl.Decl.{Decl}
use Rattle.zr_msg.specs.declared.decl.Kind.TheVariants as kind
use Rattle.zr_msg.specs.declared.msg.Msg.{Msg}
use Rattle.zr_msg.specs.declared.msg.Msg.TheVariants.{Sub, Unsub, Token, Untoken, Able, Unable, Interest, EndInterest, ToldSub, ToldAble, ToldUnsub, ToldToken, ToldUntoken, ToldUnable, ToldEnd, Push, Request, Response, Final, State, Step, Snap}
use Rattle.zr_log_set.specs.Decls.{IsSet, has, weight}
use Rattle.zr_local.specs.Interests.{interest_weight}
use Rattle.zr_local.specs.Rows.{refuses_undeclare}
use Rattle.zr_local.specs.State.{held_weight}
use Rattle.zr_local.specs.declared.interest.Interest.{Interest as LiveInterest}
use Rattle.zr_log.specs.declared.log.Log.{Log}
use Rattle.zr_log.specs.Known.{position, is_gap}
use Rattle.zr_node_spec.specs.Tables.{leads_to_router, leads_to_client}
use Rattle.zr_node_spec.specs.State.{NodeState, tables, local_state}
use Rattle.zr_node_spec.specs.Queries.{asked_links}
use Rattle.zr_node_spec.specs.Table.{able_kind, key_of, live, refuses_request}
use Rattle.zr_world_spec.specs.World.{Tagged, RouterState, EndState, End, Ends, WorldState, router_of, end_of, most_weight}
use Rattle.zr_world_spec.specs.World as world
use Rattle.zr_law_settled.proofs.Spreading.{Name}
use Rattle.zr_law_settled.proofs.Ends.{AtEnds}
use Rattle.zr_law_settled.proofs.WeightsSums.{AreOf}

-- ---- what waits

-- what an interest weighs, if one is live
abbrev pub live_weight : Option LiveInterest → ℕ
live_weight o = option_map_or (λ i. interest_weight i) o 0

-- what a message makes a router hold more
abbrev pub weighs : Msg → ℕ
weighs (Sub id key) = world.weight_of key
weighs (Unsub id) = 0
weighs (Token id key) = world.weight_of key
weighs (Untoken id) = 0
weighs (Able id key complete) = world.weight_of key
weighs (Unable id) = 0
weighs (Interest id current future kinds key aggregate) = live_weight (live future (record { id = id; kinds = kinds; key = key; aggregate = aggregate }))
weighs (EndInterest id) = 0
weighs (ToldSub id key interest) = 0
weighs (ToldToken id key interest) = 0
weighs (ToldAble id key complete interest) = 0
weighs (ToldUnsub id) = 0
weighs (ToldUntoken id) = 0
weighs (ToldUnable id) = 0
weighs (ToldEnd interest) = 0
weighs (Push tree content) = 0
weighs (Request tree id target content) = 0
weighs (Response id content) = 0
weighs (Final id extras) = 0
weighs (State links) = 0
weighs (Step source number added decl) = 0
weighs (Snap source number decls) = 0

abbrev pub wire_weight : List Tagged → ℕ
wire_weight ws = sum_by (λ t. weighs t.msg) ws

-- what waits at an end weighs on its router
abbrev pub weighs_on : Name → End × EndState → ℕ
weighs_on x e = cond (is_named x e.0.0) (wire_weight e.1.wire) 0

-- what waits on all wires of a router
abbrev pub waiting : Ends → Name → ℕ
waiting es x = sum_by (weighs_on x) es

-- ---- what was declared

-- what the clients of each router have ever declared, also what they took back; it stands in proofs alone
abbrev pub Ever : Type 0
Ever = Name → List Decl

-- what a message makes of it where a router hears it
abbrev pub gained : Msg → List Decl
gained (Sub id key) = record { kind = kind.Sub; key = key } ∷ []
gained (Unsub id) = []
gained (Token id key) = record { kind = kind.Token; key = key } ∷ []
gained (Untoken id) = []
gained (Able id key complete) = record { kind = able_kind complete; key = key } ∷ []
gained (Unable id) = []
gained (Interest id current future kinds key aggregate) = []
gained (EndInterest id) = []
gained (ToldSub id key interest) = []
gained (ToldToken id key interest) = []
gained (ToldAble id key complete interest) = []
gained (ToldUnsub id) = []
gained (ToldUntoken id) = []
gained (ToldUnable id) = []
gained (ToldEnd interest) = []
gained (Push tree content) = []
gained (Request tree id target content) = []
gained (Response id content) = []
gained (Final id extras) = []
gained (State links) = []
gained (Step source number added decl) = []
gained (Snap source number decls) = []

abbrev pub ever_more : Ever → Name → List Decl → Ever
ever_more ever x more z = cond (is_named x z) (more ++ ever z) (ever z)

-- what a message adds to a log was declared
abbrev pub IsTold : Ever → Msg → Type 0
IsTold ever (Sub id key) = Unit {0}
IsTold ever (Unsub id) = Unit {0}
IsTold ever (Token id key) = Unit {0}
IsTold ever (Untoken id) = Unit {0}
IsTold ever (Able id key complete) = Unit {0}
IsTold ever (Unable id) = Unit {0}
IsTold ever (Interest id current future kinds key aggregate) = Unit {0}
IsTold ever (EndInterest id) = Unit {0}
IsTold ever (ToldSub id key interest) = Unit {0}
IsTold ever (ToldToken id key interest) = Unit {0}
IsTold ever (ToldAble id key complete interest) = Unit {0}
IsTold ever (ToldUnsub id) = Unit {0}
IsTold ever (ToldUntoken id) = Unit {0}
IsTold ever (ToldUnable id) = Unit {0}
IsTold ever (ToldEnd interest) = Unit {0}
IsTold ever (Push tree content) = Unit {0}
IsTold ever (Request tree id target content) = Unit {0}
IsTold ever (Response id content) = Unit {0}
IsTold ever (Final id extras) = Unit {0}
IsTold ever (State links) = Unit {0}
IsTold ever (Step source number added decl) = added ≡ true → has (ever source) decl ≡ true
IsTold ever (Snap source number decls) = AreOf (ever source) decls

-- and so it is with what a router sends, which makes no router hold more
abbrev pub IsSent : Ever → Msg → Type 0
IsSent ever msg = IsTold ever msg × (weighs msg ≡ 0)

-- what is known of a log is a set of what was declared
abbrev pub IsKnown : Ever → Log → Type 0
IsKnown ever l = IsSet l.decls × AreOf (ever l.source) l.decls

-- what a router has goes by its name, and was declared
pub record IsWithin (ever : Ever) (x : Name) (n : NodeState) : Type 0 where
  pub own : n.base.me ≡ x
  pub mine : n.known.me ≡ x
  pub rows : AllByRecursion (λ q. has (ever x) q.decl ≡ true) n.rows
  pub logs : AllByRecursion (IsKnown ever) n.known.logs

-- what waits at an end was declared, and what its router has queued makes no router hold more
pub record IsUnderWay (ever : Ever) (s : EndState) : Type 0 where
  pub wire : AllByRecursion (λ t. IsTold ever t.msg) s.wire
  pub queue : AllByRecursion (λ t. IsSent ever t.msg) s.queue

-- ---- worlds

-- what was declared at a router by its count, what its rows and its clients' live interests weigh, and its own log's number with a change more
-- for each row
abbrev pub weight_at : Option RouterState → ℕ
weight_at None = 0
weight_at (Some r) = r.weight

abbrev pub held_at : Option RouterState → ℕ
held_at None = 0
held_at (Some r) = held_weight (local_state r.node)

abbrev pub number_at : Option RouterState → ℕ
number_at None = 0
number_at (Some r) = position r.node.known r.node.known.me + length r.node.rows

pub record WeightsHold (w : WorldState) : Type 0 where
  pub ever : Ever
  pub most : (x : Name) → weight_at (router_of w.routers x) ≤ most_weight
  pub held : (x : Name) → held_at (router_of w.routers x) + waiting w.ends x ≤ weight_at (router_of w.routers x)
  pub number : (x : Name) → number_at (router_of w.routers x) + waiting w.ends x ≤ weight_at (router_of w.routers x)
  pub declared : (x : Name) → weight (ever x) + waiting w.ends x ≤ weight_at (router_of w.routers x)
  pub within : (x : Name) (r : RouterState) → router_of w.routers x ≡ Some r → IsWithin ever x r.node
  pub way : AtEnds (IsUnderWay ever) w.ends

-- ---- what else makes a router refuse a message

-- what is taken back is there, no change is missing before one that comes, and a request has a number that is free and goes where numbers are left
abbrev pub IsInTurn : NodeState → ℕ → Msg → Type 0
IsInTurn n from (Sub id key) = Unit {0}
IsInTurn n from (Unsub id) = leads_to_client n.links from ≡ true → refuses_undeclare n.rows (key_of from id kind.Sub) ≡ None
IsInTurn n from (Token id key) = Unit {0}
IsInTurn n from (Untoken id) = leads_to_client n.links from ≡ true → refuses_undeclare n.rows (key_of from id kind.Token) ≡ None
IsInTurn n from (Able id key complete) = Unit {0}
IsInTurn n from (Unable id) = leads_to_client n.links from ≡ true → refuses_undeclare n.rows (key_of from id kind.Able) ≡ None
IsInTurn n from (Interest id current future kinds key aggregate) = Unit {0}
IsInTurn n from (EndInterest id) = Unit {0}
IsInTurn n from (ToldSub id key interest) = Unit {0}
IsInTurn n from (ToldToken id key interest) = Unit {0}
IsInTurn n from (ToldAble id key complete interest) = Unit {0}
IsInTurn n from (ToldUnsub id) = Unit {0}
IsInTurn n from (ToldUntoken id) = Unit {0}
IsInTurn n from (ToldUnable id) = Unit {0}
IsInTurn n from (ToldEnd interest) = Unit {0}
IsInTurn n from (Push tree content) = Unit {0}
IsInTurn n from (Request tree id target content) = refuses_request n from id (asked_links (tables n) from tree target content.key) ≡ None
IsInTurn n from (Response id content) = Unit {0}
IsInTurn n from (Final id extras) = Unit {0}
IsInTurn n from (State links) = Unit {0}
IsInTurn n from (Step source number added decl) = leads_to_router n.links from ≡ true → is_gap n.known source number ≡ false
IsInTurn n from (Snap source number decls) = Unit {0}
