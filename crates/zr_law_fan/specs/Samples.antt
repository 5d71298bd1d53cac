-- Samples under way in a network, each where it waits, and what each becomes when it moves.
use Rattle.std.specs.Prelude.{◌≡◌, ℕ, ◌&&◌, Bool, true, false, if◌then◌else◌, List, [], ◌∷◌, ◌++◌, map, length, Option, Some, None, is_some, IfOk}
use Rattle.std.specs.List.{AllByRecursion, list_all}
use Rattle.std.specs.Map.{keys_of}
use Rattle.std.specs.Option.{option_map_or}
use Rattle.zr_id.specs.Zid.{is_named}
use Rattle.zr_id.specs.declared.link.LinkNo.{LinkNo}
use Rattle.zr_script_spec.specs.declared.command.Act.{Act}
use Rattle.zr_script_spec.specs.declared.report.ReportLine.{ReportLine}
use Rattle.zr_script_spec.specs.declared.report.ReportLine.TheVariants.{Handled, Taken}
use Rattle.zr_msg.specs.declared.content.Parts.{Parts}
use Rattle.zr_msg.specs.declared.event.Event.TheVariants.{From}
use Rattle.zr_msg.specs.declared.msg.Msg.{Msg}
use Rattle.zr_msg.specs.declared.msg.Msg.TheVariants.{Push}
use Rattle.zr_msg.specs.declared.peer.LinkPeer.{LinkPeer}
use Rattle.zr_node_spec.specs.Tables.{link_to}
use Rattle.zr_orders.specs.Bag.{AreSame, Moves, Goes}
use Rattle.zr_world_spec.specs.World.{Tagged, RouterState, EndState, End, Ends, WorldState, with_ends, router_of, end_of, turned}
use Rattle.zr_world_spec.specs.Acts.{sends_to, told_to, having_told, refuses_of}
use Rattle.zr_world_spec.specs.Fan.{is_sample}
use Rattle.zr_world_spec.specs.Next.{all_done}
use Rattle.zr_world_spec.specs.Moments.{Moment, is_step}
use Rattle.zr_world_spec.specs.Sound.{IsSound}

-- ---- what moves

-- a message is handled by the router of an end, or taken from the queue at an end
pub data Move : Type 0 where
  Handling : End → Tagged → Move
  Taking : End → Tagged → Move

abbrev pub at_end : End → EndState → List Move
at_end e s = map (λ m. Handling e m) s.wire ++ map (λ m. Taking e m) s.queue

abbrev pub under_way : Ends → List Move
under_way [] = []
under_way (e ∷ es) = at_end e.0 e.1 ++ under_way es

-- the report line of a move
abbrev pub line_of : Move → ReportLine
line_of (Handling e m) = Handled e.0 e.1 m.msg m.tag
line_of (Taking e m) = Taken e.0 e.1 m.msg m.tag

abbrev pub msg_of : Move → Msg
msg_of (Handling e m) = m.msg
msg_of (Taking e m) = m.msg

-- whether an end is up, and its link unbroken where something is to be taken
abbrev pub can_go : WorldState → Move → Bool
can_go w (Handling e m) = option_map_or (λ s. s.up) (end_of w.ends e) false
can_go w (Taking e m) = option_map_or (λ s. s.up && s.unbroken) (end_of w.ends e) false

-- ---- what it becomes

abbrev pub tagged : ℕ → Msg → Tagged
tagged tag m = record { msg = m; tag = tag }

-- messages of the router x wait at its ends
abbrev pub sent_at : List End → List ℕ → (List ℕ → List Msg) → ℕ → List Move
sent_at [] x msgs tag = []
sent_at (q ∷ qs) x msgs tag = (if is_named x q.0 then map (λ z. Taking q (tagged tag z)) (msgs q.1) else []) ++ sent_at qs x msgs tag

-- what a router sends to a neighbour for a message from another one
abbrev pub sends_over : RouterState → Option LinkPeer → Msg → List ℕ → List Msg
sends_over r None msg to = []
sends_over r (Some k) msg to = sends_to r.node (From k.link msg) to

abbrev pub sends_by : Option RouterState → List ℕ → Msg → List ℕ → List Msg
sends_by None from msg to = []
sends_by (Some r) from msg to = sends_over r (link_to r.node.links from) msg to

-- a message that is handled becomes what the router sends; one that is taken is on the wire to the neighbour, unless that is a client
abbrev pub next_moves : WorldState → Move → List Move
next_moves w (Handling e m) = sent_at (keys_of w.ends) e.0 (sends_by (router_of w.routers e.0) e.1 m.msg) m.tag
next_moves w (Taking e m) = if is_some (end_of w.ends (turned e)) then Handling (turned e) m ∷ [] else []

-- ---- what stays

abbrev pub bare : EndState → EndState
bare s = record { up = s.up; unbroken = s.unbroken; queue = []; wire = []; weight = s.weight }

-- ends at which nothing waits
abbrev pub emptied : Ends → Ends
emptied es = map (λ e. (e.0, bare e.1)) es

-- the same world, where nothing waits
abbrev pub quieted : WorldState → WorldState
quieted w = with_ends w (emptied w.ends)

-- the same world but for what waits at ends
pub record IsSameBut (w v : WorldState) : Type 0 where
  pub routers : v.routers ≡ w.routers
  pub clients : v.clients ≡ w.clients
  pub booked : v.booked ≡ w.booked
  pub ends : emptied v.ends ≡ emptied w.ends

-- ---- steps

-- a sample changes nothing of a router, nobody is told anything of it, and it is taken
pub record IsCalmWith (r : RouterState) (l : LinkNo) (msg : Msg) : Type 0 where
  pub stays : having_told r (From l msg) ≡ r
  pub silent : (name : List ℕ) → told_to r (From l msg) name ≡ []
  pub taken : refuses_of r (From l msg) ≡ None

abbrev pub IsCalmRouter : RouterState → Type 0
IsCalmRouter r = (l : LinkNo) (tree : Option (List ℕ)) (content : Parts) → IsCalmWith r l (Push tree content)

abbrev pub IsCalm : WorldState → Type 0
IsCalm w = (x : List ℕ) (r : RouterState) → router_of w.routers x ≡ Some r → IsCalmRouter r

-- a step has moved a message that can go
pub record HasMoved (now next : Moment) : Type 0 where
  pub moved : Move
  pub can : can_go now.world moved ≡ true
  pub report : next.report ≡ now.report ++ line_of moved ∷ []
  pub among : (others : List Move) × AreSame (under_way now.world.ends) (moved ∷ others)
  pub moves : is_sample (msg_of moved) ≡ true → Moves (next_moves now.world) (under_way now.world.ends) moved (under_way next.world.ends) × IsSameBut now.world next.world

-- ---- runs

-- only samples are under way
abbrev pub AreSamples : WorldState → Type 0
AreSamples w = AllByRecursion (λ m. is_sample (msg_of m) ≡ true) (under_way w.ends)

-- some steps have moved samples, each where it can go
pub record HaveMoved (w v : WorldState) (lines : List ReportLine) (acts : List Act) : Type 0 where
  pub moved : List Move
  pub can : AllByRecursion (λ m. can_go w m ≡ true) moved
  pub as_many : length moved ≡ length acts
  pub goes : Goes (next_moves w) (under_way w.ends) moved (under_way v.ends)
  pub lines_are : lines ≡ map line_of moved
  pub same : IsSameBut w v

-- so does each run
abbrev pub RunsMove : Type 0
RunsMove = (w : WorldState) → IsSound w → IsCalm w → AreSamples w → (line : ℕ) (acts : List Act) → list_all is_step acts ≡ true →
    IfOk (all_done w line acts) (λ x. HaveMoved w x.1 x.0 acts)
