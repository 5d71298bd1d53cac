-- What a router sends, by what came to it: a message goes on under another number, in another tree or as it came, and the router makes records, changes,
-- snapshots and finals of its own.
use Rattle.std.specs.Prelude.{ℕ, ◌<◌, ◌≤◌, Bool, List, Option}
use Rattle.std.specs.List.{AllByRecursion}
use Rattle.std.specs.Option.{option_map_or}
use Rattle.zr_id.specs.Record.{RecordState}
use Rattle.zr_log.specs.declared.log.Log.{Log}
use Rattle.zr_log_set.specs.Decls.{IsSet, weight, most_weight}
use Rattle.zr_msg.specs.declared.content.Parts.{Parts}
use Rattle.zr_msg.specs.declared.decl.Decl.{Decl}
use Rattle.zr_msg.specs.declared.event.Event.{Event}
use Rattle.zr_msg.specs.declared.event.Event.TheVariants.{Up, Down, From}
use Rattle.zr_msg.specs.declared.extras.Extras.{Extras}
use Rattle.zr_msg.specs.declared.msg.Msg.{Msg}
use Rattle.zr_msg.specs.declared.msg.Msg.TheVariants.{Push, Request, Response, Final, State, Step, Snap}
use Rattle.zr_msg.specs.declared.msg.Target.{Target}
use Rattle.zr_msg.specs.declared.peer.LinkPeer.{LinkPeer}
use Rattle.zr_msg.specs.declared.peer.Role.{Role}
use Rattle.zr_msg.specs.declared.peer.Role.TheVariants.{Client}
use Rattle.zr_msg.specs.Extras.{no_extras}
use Rattle.zr_pend_spec.specs.Held.{GatheringState}
use Rattle.zr_node_spec.specs.Queries.{tree_for}
use Rattle.zr_node_spec.specs.Snapshots.{snapshot}
use Rattle.zr_node_spec.specs.Tables.{link_at}

-- the message that came, if one has, is of a kind
abbrev pub Comes : (Msg → Type 0) → Event → Type 0
Comes kind (Up link peer) = Unit {0}
Comes kind (Down link) = Unit {0}
Comes kind (From link msg) = kind msg

-- each reply that is held is of a kind
abbrev pub Holds : (Parts → Type 0) → List GatheringState → Type 0
Holds kind held = AllByRecursion (λ g. AllByRecursion (λ c. kind c) g.held) held

-- the declarations of a log are a set that isn't too heavy, and it has begun
abbrev pub IsLight : Log → Type 0
IsLight l = (0 < l.position) × IsSet l.decls × (weight l.decls ≤ most_weight)

-- who is at the other end of a link: a client where the link isn't up
abbrev pub role_at : List LinkPeer → ℕ → Role
role_at links number = option_map_or (λ l. l.peer.role) (link_at links number) Client

-- What is sent to a peer of each role is of a kind, where what came is of a kind: message by message.
pub record Passes (came : Msg → Type 0) (sent : Role → Msg → Type 0) : Type 0 where
  pub state : (role : Role) (r : RecordState) → sent role (State r)
  pub step : (role : Role) (source : List ℕ) (number : ℕ) (added : Bool) (d : Decl) → 0 < number → sent role (Step source number added d)
  pub snap : (role : Role) (log : Log) → IsLight log → sent role (snapshot log)
  pub final : (role : Role) (number : ℕ) → sent role (Final number no_extras)
  pub push_on : (role : Role) (named : Option (List ℕ)) (tree : List ℕ) (content : Parts) → came (Push named content) → sent role (Push (tree_for tree role) content)
  pub request_on : (role : Role) (named : Option (List ℕ)) (tree : List ℕ) (id number : ℕ) (target : Target) (content : Parts) →
      came (Request named id target content) → sent role (Request (tree_for tree role) number target content)
  pub reply_on : (role : Role) (id number : ℕ) (content : Parts) → came (Response id content) → sent role (Response number content)
  pub final_on : (role : Role) (id number : ℕ) (extras : Extras) → came (Final id extras) → sent role (Final number extras)
  pub step_on : (role : Role) (source : List ℕ) (number : ℕ) (added : Bool) (d : Decl) → came (Step source number added d) → sent role (Step source number added d)
  pub snap_on : (role : Role) (source : List ℕ) (number : ℕ) (decls : List Decl) → came (Snap source number decls) → sent role (Snap source number decls)
