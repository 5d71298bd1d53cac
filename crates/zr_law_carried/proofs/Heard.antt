-- What a router sends where it hears of an event may be carried, where what came may: towards routers it may be passed on, and towards clients nothing is
-- asked. And the router keeps and holds what it may.
use Rattle.std.proofs.Common.{◌≡◌, ℕ, Bool, true, false, cond, List, [], ◌∷◌, Option, Some, None, refl, sym, ap, ◌∙◌, subst, arith}
use Rattle.std.specs.Prelude.{is_some, IfSome}
use Rattle.std.specs.List.{AllByRecursion}
use Rattle.std.specs.Option.{option_map_or}
use Rattle.std.proofs.lemmas.Bool.{false≢true}
use Rattle.zr_msg.specs.declared.content.Parts.{Parts}
use Rattle.zr_msg.specs.declared.event.Event.{Event}
use Rattle.zr_msg.specs.declared.msg.Msg.{Msg}
use Rattle.zr_msg.specs.declared.msg.Msg.TheVariants.{Push, Request, Response, Final, State, Step, Snap}
use Rattle.zr_msg.specs.declared.msg.Target.{Target}
use Rattle.zr_msg.specs.Extras.{no_extras}
use Rattle.zr_net.specs.Writing as net
use Rattle.zr_msg.specs.declared.peer.LinkPeer.{LinkPeer}
use Rattle.zr_msg.specs.declared.peer.Role.{Role}
use Rattle.zr_msg.specs.declared.peer.Role.TheVariants.{Client, Router}
use Rattle.zr_node_spec.specs.Queries.{tree_for}
use Rattle.zr_node_spec.specs.Snapshots.{snapshot}
use Rattle.zr_node_spec.specs.Table.{after, refuses, sends}
use Rattle.zr_node_spec.specs.Tables.{is_router, link_to}
use Rattle.zr_world_spec.specs.World.{RouterState, Ends, Routers, router_of}
use Rattle.zr_world_spec.specs.Acts.{all_queued, all_told, having_told, sends_to, told_to}
use Rattle.zr_world_spec.specs.Sound.{AreUnique}
use Rattle.zr_world_spec.proofs.Links.{numbered_link}
use Rattle.zr_world_spec.proofs.Telling.{told_to_router}
use Rattle.zr_law_sent.specs.Passing.{IsPassable, MayPass}
use Rattle.zr_law_sent.specs.Sent.{Comes, Holds, Passes, role_at}
use Rattle.zr_law_sent.proofs.Holding.{held_after}
use Rattle.zr_law_sent.proofs.Kept.{IsKept, kept_after}
use Rattle.zr_law_sent.proofs.Sent.{sends_pass}
use Rattle.zr_law_carried.specs.Carriable.{SentTo, role_of}
use Rattle.zr_law_carried.proofs.Ends.{AreCarried, waiting_carried}

-- what a router knows weighs no more than it may, and what it holds came as a reply that may be passed on
pub record IsCarrier (r : RouterState) : Type 0 where
  pub kept : IsKept r.node
  pub held : Holds (λ c. IsPassable (Response 0 c)) r.node.held

abbrev pub AreCarriers : Routers → Type 0
AreCarriers routers = (x : List ℕ) → IfSome (router_of routers x) IsCarrier

-- ---- messages

by_role : (role : Role) (m : Msg) → MayPass Router m → SentTo role m
by_role Client m h = tt
by_role Router m h = h

push_passes : (role : Role) (named : Option (List ℕ)) (tree : List ℕ) (content : Parts) → IsPassable (Push named content) → SentTo role (Push (tree_for tree role) content)
push_passes Client named tree content h = tt
push_passes Router named tree content h = (refl, h)

request_passes : (role : Role) (named : Option (List ℕ)) (tree : List ℕ) (id number : ℕ) (target : Target) (content : Parts) → IsPassable (Request named id target content) →
    SentTo role (Request (tree_for tree role) number target content)
request_passes Client named tree id number target content h = tt
request_passes Router named tree id number target content h = (refl, h)

-- a message that is passed on goes to a router as one
passes : Passes (λ m. IsPassable m) (λ role m. SentTo role m)
passes = record {
  state = λ role r. by_role role (State r) (refl, tt);
  step = λ role source number added d some. by_role role (Step source number added d) (refl, some);
  snap = λ role log light. by_role role (snapshot log) (refl, light);
  final = λ role number. by_role role (Final number no_extras) (refl, (no_extras_fit, omega arith));
  push_on = push_passes;
  request_on = request_passes;
  reply_on = λ role id number content h. by_role role (Response number content) (refl, h);
  final_on = λ role id number extras h. by_role role (Final number extras) (refl, h);
  step_on = λ role source number added d h. by_role role (Step source number added d) (refl, h);
  snap_on = λ role source number decls h. by_role role (Snap source number decls) (refl, h);
}
  where
    no_extras_fit : net.Fits (Final 0 no_extras)
    no_extras_fit = (record { marks = refl; stamp = tt; responder = tt }, refl, refl, refl)

-- nothing is asked of what goes to clients
all_to_client : (ms : List Msg) → AllByRecursion (λ m. SentTo Client m) ms
all_to_client [] = tt
all_to_client (m ∷ ms) = (tt, all_to_client ms)

-- ---- a router that hears of an event that it takes

module _ (routers : Routers) (r : RouterState) (event : Event) (carrier : IsCarrier r) (taken : refuses r.node event ≡ None) (came : Comes (λ m. IsPassable m) event)
    (unique : AreUnique (after r.node event).links)
    (roles : (y : List ℕ) (l : LinkPeer) → link_to (after r.node event).links y ≡ Some l → is_router l.peer.role ≡ is_some (router_of routers y)) where
  role_is : (y : List ℕ) (l : LinkPeer) → link_to (after r.node event).links y ≡ Some l → l.peer.role ≡ role_of routers y
  role_is y l found = by l.peer.role (is_some (router_of routers y)) (roles y l found)
    where
      by : (role : Role) (b : Bool) → is_router role ≡ b → role ≡ cond b Router Client
      by Client false e = refl
      by Client true e = absurd (false≢true e)
      by Router true e = refl
      by Router false e = absurd (false≢true (sym e))

  sends_carried : (y : List ℕ) → AllByRecursion (λ m. SentTo (role_of routers y) m) (sends_to r.node event y)
  sends_carried y = by (link_to (after r.node event).links y) refl
    where
      by : (o : Option LinkPeer) → link_to (after r.node event).links y ≡ o → AllByRecursion (λ m. SentTo (role_of routers y) m) (option_map_or (λ l. sends r.node event l.link) o [])
      by None e = tt
      by (Some l) e =
          let at : role_at (after r.node event).links l.link.0 ≡ role_of routers y =
          ap (λ (o : Option LinkPeer). option_map_or (λ k. k.peer.role) o Client) (numbered_link (after r.node event).links unique y l e) ∙ role_is y l e in
          subst (λ (role : Role). AllByRecursion (λ m. SentTo role m) (sends r.node event l.link)) at
          (sends_pass (λ m. IsPassable m) (λ role m. SentTo role m) passes r.node event l.link carrier.kept carrier.held taken came)

  told_carried : (y : List ℕ) → AllByRecursion (λ m. SentTo (role_of routers y) m) (told_to r event y)
  told_carried y = by (is_some (router_of routers y)) refl
    where
      by : (b : Bool) → is_some (router_of routers y) ≡ b → AllByRecursion (λ m. SentTo (cond b Router Client) m) (told_to r event y)
      by false e = all_to_client (told_to r event y)
      by true e = subst (λ (ms : List Msg). AllByRecursion (λ m. SentTo Router m) ms) (sym (told_to_router r event y unique (λ l found. roles y l found ∙ e))) tt

  pub heard_ends : (es : Ends) (x : List ℕ) (tag : ℕ) → AreCarried (role_of routers) es → AreCarried (role_of routers) (all_told (all_queued es x r.node event tag) x r event tag)
  heard_ends es x tag h =
      waiting_carried (role_of routers) (all_queued es x r.node event tag) x (told_to r event) tag told_carried
      (waiting_carried (role_of routers) es x (sends_to r.node event) tag sends_carried h)

  pub heard_carrier : IsCarrier (having_told r event)
  heard_carrier = record {
    kept = kept_after r.node event carrier.kept taken;
    held = held_after (λ c. IsPassable (Response 0 c)) r.node event carrier.held (λ link id content e. subst (λ (z : Event). Comes (λ m. IsPassable m) z) e came);
  }
