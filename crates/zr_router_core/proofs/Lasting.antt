-- What is known of interests lasts where they don't change.
use Rattle.std.proofs.Common.{◌≡◌, ℕ, Bool, true, false, cond, not, List, [], ◌∷◌, Result, Ok, Err, refl, sym, ap, ◌∙◌, subst}
use Rattle.std.specs.Ordering.{is_eq, nat_cmp}
use Rattle.std.specs.declared.alloc.AllocError.{AllocError}
use Rattle.std.proofs.lemmas.Bool.{or_parts, true≢false}
use Rattle.zr_id.specs.declared.link.LinkNo.{LinkNo}
use Rattle.zr_lists.specs.Ascending.{has_key}
use Rattle.zr_local.specs.Clients.{client_link, clients_left}
use Rattle.zr_local.specs.declared.interest.ClientInterests.{ClientInterests}
use Rattle.zr_msg.specs.declared.event.Event.{Event}
use Rattle.zr_msg.specs.declared.event.Event.TheVariants.{Up, Down, From}
use Rattle.zr_msg.specs.declared.msg.Msg.{Msg}
use Rattle.zr_msg.specs.declared.msg.Msg.TheVariants.{Sub, Unsub, Token, Untoken, Able, Unable, Interest, EndInterest, ToldSub, ToldAble, ToldUnsub, ToldToken, ToldUntoken, ToldUnable, ToldEnd, Push, Request, Response, Final, State, Step, Snap}
use Rattle.zr_node_spec.specs.Tables.{leads_to_client}
use Rattle.zr_node_spec.specs.State.{NodeState}
use Rattle.zr_node_spec.specs.Table.{after}
use Rattle.zr_told_interested.specs.ByKey.{IsOf}
use Rattle.zr_told_interested.specs.declared.interested.Interested.{Interested}
use Rattle.zr_router_core.specs.Done.{IsHandled, IsNodeDone, answer_of}
use Rattle.zr_router_core.specs.Lasting.{IsKnown, IsStillKnown, changes_interests, leaves_interests}
use Rattle.zr_router_core.specs.Ready.{is_own, is_own_msg}
use Rattle.zr_router_core.specs.declared.failure.HubFailure.{HubFailure}
use Rattle.zr_router_core.specs.declared.failure.HubFailure.TheVariants.{Refused, NoMemory}

-- who has no interests takes none along
none_left : (cs : List ClientInterests) (link : ℕ) → has_key nat_cmp client_link cs link ≡ false → clients_left cs link ≡ cs
none_left [] link h = refl
none_left (c ∷ cs) link h =
    let p = or_parts (is_eq (nat_cmp c.link.0 link)) (has_key nat_cmp client_link cs link) h in
    ap (λ z. cond (not z) (c ∷ clients_left cs link) (clients_left cs link)) p.0 ∙ ap (λ (ds : List ClientInterests). c ∷ ds) (none_left cs link p.1)

kept_down : (n : NodeState) (link : ℕ) → has_key nat_cmp client_link n.clients link ≡ false → cond (leads_to_client n.links link) (clients_left n.clients link) n.clients ≡ n.clients
kept_down n link h = by (leads_to_client n.links link)
  where
    by : (b : Bool) → cond b (clients_left n.clients link) n.clients ≡ n.clients
    by true = none_left n.clients link h
    by false = refl

kept_from : (n : NodeState) (link : LinkNo) (msg : Msg) → is_own_msg msg ≡ false → (after n (From link msg)).clients ≡ n.clients
kept_from n link (Sub id key) h = refl
kept_from n link (Unsub id) h = refl
kept_from n link (Token id key) h = refl
kept_from n link (Untoken id) h = refl
kept_from n link (Able id key complete) h = refl
kept_from n link (Unable id) h = refl
kept_from n link (Interest id current future kinds key aggregate) h = absurd (true≢false h)
kept_from n link (EndInterest id) h = absurd (true≢false h)
kept_from n link (ToldSub id key interest) h = refl
kept_from n link (ToldToken id key interest) h = refl
kept_from n link (ToldAble id key complete interest) h = refl
kept_from n link (ToldUnsub id) h = refl
kept_from n link (ToldUntoken id) h = refl
kept_from n link (ToldUnable id) h = refl
kept_from n link (ToldEnd interest) h = refl
kept_from n link (Push tree content) h = refl
kept_from n link (Request tree id target content) h = refl
kept_from n link (Response id content) h = refl
kept_from n link (Final id extras) h = refl
kept_from n link (State links) h = refl
kept_from n link (Step source number added decl) h = refl
kept_from n link (Snap source number decls) h = refl

kept_clients : (n : NodeState) (event : Event) → is_own event ≡ false → leaves_interests n.clients event ≡ false → (after n event).clients ≡ n.clients
kept_clients n (Up link peer) own leaves = refl
kept_clients n (Down link) own leaves = kept_down n link.0 leaves
kept_clients n (From link msg) own leaves = kept_from n link msg own

pub lasting : (n : NodeState) (event : Event) (i : Interested) → changes_interests n.clients event ≡ false → IsOf n.clients i → IsStillKnown n event i
lasting n event i h of =
    let p = or_parts (is_own event) (leaves_interests n.clients event) h in
    record { before = of; later = subst (λ (cs : List ClientInterests). IsOf cs i) (sym (kept_clients n event p.0 p.1)) of }

-- ---- once the router has handled an event

pub known_after : (n : NodeState) (event : Event) (i : Interested) (result : Result (Unit {0}) HubFailure) (now : NodeState) (said all : List (LinkNo × Msg)) → IsNodeDone n event result now said all → IsStillKnown n event i → IsKnown now.clients i result
known_after n event i (Ok x) now said all d l = subst (λ (m : NodeState). IsOf m.clients i) (sym d.state) l.later
known_after n event i (Err (Refused why)) now said all d l = subst (λ (m : NodeState). IsOf m.clients i) (sym d.state) l.before
known_after n event i (Err NoMemory) now said all d l = tt

-- or has failed
pub known_failed : (cs : List ClientInterests) (i : Interested) (f : HubFailure) → IsOf cs i → IsKnown cs i (Err f)
known_failed cs i (Refused why) of = of
known_failed cs i NoMemory of = tt

pub known_handled : (n : NodeState) (event : Event) (i : Interested) (now : NodeState) (said all : List (LinkNo × Msg)) → IsHandled n event now said all → IsStillKnown n event i → IsOf now.clients i
known_handled n event i now said all d l = subst (λ (m : NodeState). IsOf m.clients i) (sym d.state) l.later

-- and once its clients were told
pub known_told : (before now : NodeState) (i : Interested) (told : Result (Unit {0}) AllocError) (answer : Result (Unit {0}) HubFailure) → now ≡ before → answer ≡ answer_of told → IsOf before.clients i → IsKnown now.clients i answer
known_told before now i told answer same is k = subst (λ r. IsKnown now.clients i r) (sym is) (by told)
  where
    by : (r : Result (Unit {0}) AllocError) → IsKnown now.clients i (answer_of r)
    by (Ok x) = subst (λ (m : NodeState). IsOf m.clients i) (sym same) k
    by (Err e) = tt
