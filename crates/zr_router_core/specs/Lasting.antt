-- What is known of interests, before and after each event.
use Rattle.std.specs.Prelude.{ℕ, ◌||◌, Bool, false, List, Option, Some, None, Result, Ok, Err}
use Rattle.std.specs.Ordering.{nat_cmp}
use Rattle.zr_lists.specs.Ascending.{has_key}
use Rattle.zr_local.specs.Clients.{client_link}
use Rattle.zr_local.specs.declared.interest.ClientInterests.{ClientInterests}
use Rattle.zr_msg.specs.declared.event.Event.{Event}
use Rattle.zr_msg.specs.declared.event.Event.TheVariants.{Up, Down, From}
use Rattle.zr_node_spec.specs.State.{NodeState}
use Rattle.zr_node_spec.specs.Table.{after}
use Rattle.zr_told_interested.specs.Among.{AreFound}
use Rattle.zr_told_interested.specs.ByKey.{IsOf}
use Rattle.zr_told_interested.specs.declared.interested.Interested.{Interested}
use Rattle.zr_told_spec.specs.declared.place.Place.{Place}
use Rattle.zr_router_core.specs.Ready.{is_own}
use Rattle.zr_router_core.specs.declared.failure.HubFailure.{HubFailure}
use Rattle.zr_router_core.specs.declared.failure.HubFailure.TheVariants.{Refused, NoMemory}

-- a client leaves that has interests
abbrev pub leaves_interests : List ClientInterests → Event → Bool
leaves_interests cs (Up link peer) = false
leaves_interests cs (Down link) = has_key nat_cmp client_link cs link.0
leaves_interests cs (From link msg) = false

-- a client has a new interest, one ends, or all of a client go
abbrev pub changes_interests : List ClientInterests → Event → Bool
changes_interests cs event = is_own event || leaves_interests cs event

-- what is known is of the interests before an event, and of those after it
pub record IsStillKnown (n : NodeState) (event : Event) (i : Interested) : Type 0 where
  pub before : IsOf n.clients i
  pub later : IsOf (after n event).clients i

-- where memory ran out nothing is said
abbrev pub IsKnown : List ClientInterests → Interested → Result (Unit {0}) HubFailure → Type 0
IsKnown cs i (Ok x) = IsOf cs i
IsKnown cs i (Err (Refused why)) = IsOf cs i
IsKnown cs i (Err NoMemory) = Unit {0}

-- the links of the clients that may be told of changes, where it is known at which places these are
abbrev pub AreLinksAt : Option (List Place) → List ClientInterests → List ℕ → Type 0
AreLinksAt None cs links = Unit {0}
AreLinksAt (Some qs) cs links = AreFound qs links cs
