-- What holds once the router has handled an event, and its clients were not told of it yet.
use Rattle.std.specs.Prelude.{◌≡◌, ℕ, ◌==◌, ◌&&◌, ◌||◌, not, Bool, true, false, List, [], ◌∷◌, Option, Some, None, if◌then◌else◌}
use Rattle.zr_local.specs.Clients.{interests_on}
use Rattle.zr_local.specs.declared.interest.ClientInterests.{ClientInterests}
use Rattle.zr_local.specs.declared.interest.Interest.{Interest as LiveInterest}
use Rattle.zr_msg.specs.declared.decl.Decl.{Decl}
use Rattle.zr_msg.specs.declared.event.Event.{Event}
use Rattle.zr_msg.specs.declared.event.Event.TheVariants.{Up, Down, From}
use Rattle.zr_msg.specs.declared.msg.Msg.{Msg}
use Rattle.zr_msg.specs.declared.msg.Msg.TheVariants.{Sub, Unsub, Token, Untoken, Able, Unable, Interest, EndInterest, ToldSub, ToldAble, ToldUnsub, ToldToken, ToldUntoken, ToldUnable, ToldEnd, Push, Request, Response, Final, State, Step, Snap}
use Rattle.zr_node_spec.specs.Tables.{TableState, leads_to_client}
use Rattle.zr_told_spec.specs.Hub.{Asking, asking_on}
use Rattle.zr_told_spec.specs.Rows.{others, IsAsWantedBut, IsNoted, one_lacks_ids}
use Rattle.zr_told_spec.specs.Told.{ToldMap}
use Rattle.zr_told_spec.specs.declared.place.Place.{Place}
use Rattle.zr_router_core.specs.Places.{is_quiet}

-- ---- whose interests an event changes

-- a client has a new interest, or one ends
abbrev pub is_own_msg : Msg → Bool
is_own_msg (Sub id key) = false
is_own_msg (Unsub id) = false
is_own_msg (Token id key) = false
is_own_msg (Untoken id) = false
is_own_msg (Able id key complete) = false
is_own_msg (Unable id) = false
is_own_msg (Interest id current future kinds key aggregate) = true
is_own_msg (EndInterest id) = true
is_own_msg (ToldSub id key interest) = false
is_own_msg (ToldToken id key interest) = false
is_own_msg (ToldAble id key complete interest) = false
is_own_msg (ToldUnsub id) = false
is_own_msg (ToldUntoken id) = false
is_own_msg (ToldUnable id) = false
is_own_msg (ToldEnd interest) = false
is_own_msg (Push tree content) = false
is_own_msg (Request tree id target content) = false
is_own_msg (Response id content) = false
is_own_msg (Final id extras) = false
is_own_msg (State links) = false
is_own_msg (Step source number added decl) = false
is_own_msg (Snap source number decls) = false

abbrev pub is_own : Event → Bool
is_own (Up link peer) = false
is_own (Down link) = false
is_own (From link msg) = is_own_msg msg

-- the one of the client of this link
abbrev pub is_own_on : Event → ℕ → Bool
is_own_on (Up link peer) k = false
is_own_on (Down link) k = false
is_own_on (From link msg) k = link.0 == k && is_own_msg msg

-- ---- what was told on a link that goes down is forgotten

abbrev pub is_gone : Event → ℕ → Bool
is_gone (Up link peer) k = false
is_gone (Down link) k = link.0 == k
is_gone (From link msg) k = false

abbrev pub still_told : Event → (ℕ → ToldMap) → ℕ → ToldMap
still_told event told k = if is_gone event k then [] else told k

-- ---- what is left to be told

-- a client was told of what is wanted but where these places touch; where anything may have changed, it is known only that one without interests
-- was told nothing
abbrev pub IsButAt : Option (List Place) → List Decl → List LiveInterest → ToldMap → Type 0
IsButAt None ds is m = is ≡ [] → m ≡ []
IsButAt (Some qs) ds is m = IsAsWantedBut qs ds is m

-- `t` are the tables after the event, `told` is of what was told before it, and `places` is where it changed what is declared
pub record IsReady (t : TableState) (event : Event) (places : Option (List Place)) (told : ℕ → ToldMap) : Type 0 where
  -- so it is with all but a client whose own interest changed
  pub others : (k : ℕ) → is_own_on event k ≡ false → IsButAt places (others t k) (interests_on t.clients k) (told k)
  -- no other link has interests, and on none was anything told
  pub away : (k : ℕ) → leads_to_client t.links k ≡ false → (interests_on t.clients k ≡ []) × (told k ≡ [])
  -- where an interest changed nothing else did
  pub calm : is_own event ≡ true → places ≡ Some []
  -- and a new one has been noted
  pub noted : (k : ℕ) (a : Asking) → asking_on event k ≡ Some a → leads_to_client t.links k ≡ true → IsNoted a.future a.interest (interests_on t.clients k)
  -- ids last
  pub ids : one_lacks_ids t t.clients ≡ false

-- before what was told on a link that goes down is forgotten
pub record IsToTell (t : TableState) (event : Event) (places : Option (List Place)) (told : ℕ → ToldMap) : Type 0 where
  pub ready : IsReady t event places (still_told event told)
  -- that link leads to no client any more
  pub gone : (k : ℕ) → leads_to_client t.links k ≡ true → is_gone event k ≡ false

-- ---- nothing is to be told

abbrev pub is_nowhere : Option (List Place) → Bool
is_nowhere None = false
is_nowhere (Some []) = true
is_nowhere (Some (q ∷ qs)) = false

abbrev pub is_none : List ClientInterests → Bool
is_none [] = true
is_none (c ∷ cs) = false

abbrev pub is_silent : List ClientInterests → Event → Option (List Place) → Bool
is_silent cs event places = not (is_own event) && (is_none cs || is_nowhere places)

-- so it is known before the event: nothing that clients are told of changes, or none has an interest
abbrev pub tells_nobody : List ClientInterests → Event → Bool
tells_nobody cs event = is_quiet event || (is_none cs && not (is_own event))
