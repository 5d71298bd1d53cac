-- What an event comes to, in a router and in what its clients were told.
use Rattle.std.specs.Prelude.{◌≡◌, ℕ, Bool, true, false, List, [], ◌++◌, Option, Some, None, Result, Ok, Err, if◌then◌else◌}
use Rattle.zr_id.specs.declared.link.LinkNo.{LinkNo}
use Rattle.zr_msg.specs.declared.error.NodeError.{NodeError}
use Rattle.zr_msg.specs.declared.error.NodeError.TheVariants as e
use Rattle.zr_msg.specs.declared.event.Event.{Event}
use Rattle.zr_msg.specs.declared.msg.Msg.{Msg}
use Rattle.zr_node_spec.specs.Tables.{TableState}
use Rattle.zr_node_spec.specs.Early.{is_early}
use Rattle.zr_node_spec.specs.Event.{Sends, Tells, TellsPrefix}
use Rattle.zr_node_spec.specs.State.{NodeState, tables}
use Rattle.zr_node_spec.specs.Table.{sends, after, refuses}
use Rattle.zr_told_spec.specs.Hub.{HubState, by_link, hub_refuses, sends_told, told_after}
use Rattle.zr_told_spec.specs.Rows.{Maps, map_on, one_lacks_ids}
use Rattle.zr_router_core.specs.declared.failure.HubFailure.{HubFailure}
use Rattle.zr_router_core.specs.declared.failure.HubFailure.TheVariants.{Refused, NoMemory}

-- a router and what its clients were told, as one
abbrev pub hub_of : NodeState → Maps → HubState
hub_of node told = record { node = node; told = by_link node.links (λ k. map_on told k) }

-- why an event is refused: Spent where memory ran out at an earlier one
abbrev pub hub_refusal_of : HubState → Event → Option NodeError
hub_refusal_of h event = if h.node.spent then Some e.Spent else hub_refuses h event

-- ---- the router alone: `said` was sent before, `all` is sent now

pub record IsHandled (n : NodeState) (event : Event) (now : NodeState) (said all : List (LinkNo × Msg)) : Type 0 where
  pub allowed : refuses n event ≡ None
  pub state : now ≡ after n event
  pub sends : Sends n event said all

pub record IsRefused (refusal : Option NodeError) (why : NodeError) (n now : NodeState) (said all : List (LinkNo × Msg)) : Type 0 where
  pub refused : refusal ≡ Some why
  pub state : now ≡ n
  pub sends : all ≡ said

-- memory ran out: a prefix was sent on each link, and if the router refuses the event that isn't found without memory
pub record IsLacking (n : NodeState) (event : Event) (sent : ℕ → List Msg) (said all : List (LinkNo × Msg)) : Type 0 where
  pub late : is_early (refuses n event) ≡ false
  pub sends : TellsPrefix sent said all

abbrev pub IsNodeDone : NodeState → Event → Result (Unit {0}) HubFailure → NodeState → List (LinkNo × Msg) → List (LinkNo × Msg) → Type 0
IsNodeDone n event (Ok x) now said all = IsHandled n event now said all
IsNodeDone n event (Err (Refused why)) now said all = IsRefused (refuses n event) why n now said all
IsNodeDone n event (Err NoMemory) now said all = IsLacking n event (λ k. sends n event (record { 0 = k })) said all

-- ---- what the clients are told, by the tables after the event

pub record IsToldAll (t : TableState) (event : Event) (told now : Maps) (said all : List (LinkNo × Msg)) : Type 0 where
  pub map : (k : ℕ) → map_on now k ≡ told_after t (λ j. map_on told j) event k
  pub sends : Tells (λ k. sends_told t (map_on told k) event k) said all

abbrev pub IsToldOf : {E : Type 0} → TableState → Event → Result (Unit {0}) E → Maps → Maps → List (LinkNo × Msg) → List (LinkNo × Msg) → Type 0
IsToldOf t event (Ok x) told now said all = IsToldAll t event told now said all
IsToldOf t event (Err e) told now said all = TellsPrefix (λ k. sends_told t (map_on told k) event k) said all

-- ---- both

-- what an event sends on the link of a number: what the router sends, and behind it what its client is told
abbrev pub said_on : NodeState → Maps → Event → ℕ → List Msg
said_on n told event k = sends n event (record { 0 = k }) ++ sends_told (tables (after n event)) (map_on told k) event k

pub record IsDoneBoth (n : NodeState) (told : Maps) (event : Event) (now : NodeState) (now_told : Maps) (said all : List (LinkNo × Msg)) : Type 0 where
  pub allowed : hub_refuses (hub_of n told) event ≡ None
  pub state : now ≡ after n event
  pub map : (k : ℕ) → map_on now_told k ≡ told_after (tables (after n event)) (λ j. map_on told j) event k
  pub sends : Tells (said_on n told event) said all

pub record IsRefusedBoth (n : NodeState) (told : Maps) (event : Event) (why : NodeError) (now : NodeState) (now_told : Maps) (said all : List (LinkNo × Msg)) : Type 0 where
  pub node : IsRefused (hub_refuses (hub_of n told) event) why n now said all
  pub same : now_told ≡ told

abbrev pub IsDone : NodeState → Maps → Event → Result (Unit {0}) HubFailure → NodeState → Maps → List (LinkNo × Msg) → List (LinkNo × Msg) → Type 0
IsDone n told event (Ok x) now now_told said all = IsDoneBoth n told event now now_told said all
IsDone n told event (Err (Refused why)) now now_told said all = IsRefusedBoth n told event why now now_told said all
IsDone n told event (Err NoMemory) now now_told said all = IsLacking n event (said_on n told event) said all

-- ---- whether ids last, asked before the event

-- where the router refuses nothing there are ids for all, or else it is refused for want of one
abbrev pub have_ids : NodeState → Event → Type 0
have_ids n event = one_lacks_ids (tables (after n event)) (after n event).clients ≡ false

abbrev pub IsRoomy : NodeState → Event → Result (Unit {0}) HubFailure → Type 0
IsRoomy n event (Ok x) = refuses n event ≡ None → have_ids n event
IsRoomy n event (Err (Refused why)) = hub_refuses (hub_of n []) event ≡ Some why
IsRoomy n event (Err NoMemory) = is_early (refuses n event) ≡ false

-- whether there are ids for all that is wanted now: it is refused for want of one
abbrev pub IsLasting : Bool → Result (Unit {0}) HubFailure → Type 0
IsLasting lacks (Ok x) = lacks ≡ false
IsLasting lacks (Err (Refused why)) = (lacks ≡ true) × (why ≡ e.Worn)
IsLasting lacks (Err NoMemory) = Unit {0}

-- what clients were told, as an answer of the whole
abbrev pub answer_of : {E : Type 0} → Result (Unit {0}) E → Result (Unit {0}) HubFailure
answer_of (Ok x) = Ok x
answer_of (Err e) = Err NoMemory
