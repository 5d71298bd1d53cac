-- What waits in a world may be carried: on each wire what its sender may pass on, and in each queue towards a router what a router may. What a router
-- sends to a client is not carried.
use Rattle.std.specs.Prelude.{◌≡◌, ℕ, true, false, if◌then◌else◌, List, is_some, IfSome}
use Rattle.std.specs.List.{AllByRecursion}
use Rattle.zr_msg.specs.declared.msg.Msg.{Msg}
use Rattle.zr_msg.specs.declared.peer.Role.{Role}
use Rattle.zr_msg.specs.declared.peer.Role.TheVariants.{Client, Router}
use Rattle.zr_world_spec.specs.World.{EndState, End, Routers, WorldState, router_of, client_of, end_of}
use Rattle.zr_law_sent.specs.Passing.{MayPass}
use Rattle.zr_law_calls.specs.Reached.{IsFitReached}

-- who has a name: a router, or else a client
abbrev pub role_of : Routers → List ℕ → Role
role_of routers name = if is_some (router_of routers name) then Router else Client

-- what a router sends to a peer of a role may be passed on by a router, where it is carried
abbrev pub SentTo : Role → Msg → Type 0
SentTo Client m = Unit {0}
SentTo Router m = MayPass Router m

-- an end where the neighbour is of a role
pub record IsCarried (role : Role) (s : EndState) : Type 0 where
  pub wire : AllByRecursion (λ t. MayPass role t.msg) s.wire
  pub queue : AllByRecursion (λ t. SentTo role t.msg) s.queue

-- what waits at each end may be carried, and no name is that of a router and of a client
pub record IsCarriable (w : WorldState) : Type 0 where
  pub ends : (e : End) → IfSome (end_of w.ends e) (λ s. IsCarried (role_of w.routers e.1) s)
  pub apart : (name : List ℕ) → is_some (client_of w.clients name) ≡ true → is_some (router_of w.routers name) ≡ false

-- in each world to which calls of fit acts lead
abbrev pub ReachedIsCarriable : Type 0
ReachedIsCarriable = (w : WorldState) (applied : ℕ) → IsFitReached w applied → IsCarriable w
