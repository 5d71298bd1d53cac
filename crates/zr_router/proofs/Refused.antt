-- Where a message is refused, and where nothing refuses it, as the tables see it.
use Rattle.std.proofs.Common.{◌≡◌, ℕ, ◌==◌, not, ◌&&◌, Bool, true, false, cond, List, [], ◌∷◌, ◌++◌, Option, Some, None, map, option_map, refl, sym, ap, subst, ◌∙◌}
use Rattle.std.specs.Prelude.{is_some, is_none}
use Rattle.std.specs.List.{AllByRecursion, find}
use Rattle.zr_lists.proofs.Each.{All-append}
use Rattle.std.proofs.lemmas.Bool.{and_from, and_parts}
use Rattle.std.specs.Option.{option_and_then, option_map_or}
use Rattle.std.proofs.Math.Bool.{and-true}
use Rattle.zr_id.specs.declared.link.LinkNo.{LinkNo}
use Rattle.zr_msg.specs.declared.event.Event.TheVariants.{From}
use Rattle.zr_msg.specs.declared.msg.Msg.{Msg}
use Rattle.zr_msg.specs.declared.error.NodeError.{NodeError}
use Rattle.zr_msg.specs.Peer.{PeerState}
use Rattle.zr_msg.specs.declared.peer.Role.{Role}
use Rattle.zr_node_spec.specs.Early.{is_early, needs_no_memory}
use Rattle.zr_node_spec.specs.Tables.{link_at}
use Rattle.zr_msg.specs.declared.peer.LinkPeer.{LinkPeer}
use Rattle.zr_told_spec.specs.Hub.{HubState, hub_refuses}
use Rattle.zr_port.specs.Adding.{IsAdmitted}
use Rattle.zr_port.specs.declared.entry.Entry.{Entry}
use Rattle.zr_port.specs.declared.error.DeliverError.{DeliverError}
use Rattle.zr_port.specs.declared.error.DeliverError.TheVariants as deliver
use Rattle.zr_wire.specs.Roles.{admits}
use Rattle.zr_router_queue.specs.declared.link_end.Closing.{Closing}
use Rattle.zr_router_queue.specs.Tables.{LinkQueue, Tables, new_tables, advanced, replay_from, replay}
use Rattle.zr_router_core.proofs.Changed.{after_spent}
use Rattle.zr_router_queue.specs.Ends.{EndState, IsReplay}
use Rattle.zr_router_queue.specs.Held.{AreSpelled, ComesSpelled}
use Rattle.zr_router.specs.Before.{message_refusal, open_refusal}
use Rattle.zr_router.specs.Judged.{is_judged}
use Rattle.zr_router.specs.Refusals.{IsClosed, RefusesAt, RefusesOn, RefusesMessage, closing_of, denied_or, is_worn, node_refusal, refused_by, refuses_on}
use Rattle.zr_router.specs.Allowed.{AreAllowed, is_allowed, are_allowed_from}
use Rattle.zr_access.specs.Rules.{PolicyState, is_open}
use Rattle.zr_access.specs.Messages.{peer_denial}
use Rattle.zr_msg.specs.declared.error.NodeError.TheVariants as error

-- what is found under a number, where its peer is
pub found_peer : (o : Option LinkPeer) (p : PeerState) → option_map (λ l. l.peer) o ≡ Some p → (l : LinkPeer) × (o ≡ Some l) × (l.peer ≡ p)
found_peer None p e = cc
found_peer (Some l) p e = (l, refl, (let same : l.peer ≡ p = cc in same))

pub no_peer : (o : Option LinkPeer) → option_map (λ l. l.peer) o ≡ None → o ≡ None
no_peer None e = refl
no_peer (Some l) e = cc

abbrev asked : Option Closing → Option ℕ
asked o = option_map (λ c. c.asked) o

-- what closed the link that a number finds among the ends
abbrev pub closed_at : List EndState → LinkNo → Option ℕ
closed_at ends link = option_and_then (λ (x : EndState). x.queue.closed) (find (λ x. x.queue.link.0 == link.0) ends)

find_closed : (link : LinkNo) (ends : List EndState) → option_and_then (λ (q : LinkQueue). q.closed) (find (λ q. q.link.0 == link.0) (map (λ x. x.queue) ends)) ≡ closed_at ends link
find_closed link [] = refl
find_closed link (x ∷ xs) = by (x.queue.link.0 == link.0) (find_closed link xs)
  where
    by : (b : Bool) → option_and_then (λ (q : LinkQueue). q.closed) (find (λ q. q.link.0 == link.0) (map (λ y. y.queue) xs)) ≡ closed_at xs link →
        option_and_then (λ (q : LinkQueue). q.closed) (cond b (Some x.queue) (find (λ q. q.link.0 == link.0) (map (λ y. y.queue) xs)))
        ≡ option_and_then (λ (y : EndState). y.queue.closed) (cond b (Some x) (find (λ y. y.queue.link.0 == link.0) xs))
    by true ih = refl
    by false ih = ih

-- a refusal by the router needs memory where the router's own does
judged_as : (ruled : Bool) (x : NodeError) → is_judged (node_refusal ruled x) ≡ needs_no_memory x
judged_as true (error.NotDeclared id) = refl
judged_as true (error.Gap router has came) = refl
judged_as true (error.TextLimit held more) = refl
judged_as true (error.NumberTaken id) = refl
judged_as true (error.TooMany pending) = refl
judged_as true error.Worn = refl
judged_as true error.Spent = refl
judged_as true error.NoMemory = refl
judged_as false x = refl

router_judged : (ruled : Bool) (o : Option NodeError) (e : DeliverError) → is_early o ≡ false → refused_by ruled false o ≡ Some e → is_judged e ≡ true → ⊥
router_judged ruled None e late is judged = cc
router_judged ruled (Some x) e late is judged =
    let same : node_refusal ruled x ≡ e = cc in
    let never : false ≡ true = sym late ∙ sym (judged_as ruled x) ∙ ap is_judged same ∙ judged in
    cc

-- the router that a list of entries leaves isn't spent
awake_from : (t : Tables) (h : List Entry) → t.hub.node.spent ≡ false → (replay_from t h).hub.node.spent ≡ false
awake_from t [] e = e
awake_from t (x ∷ h) e = awake_from (advanced t x) h (after_spent t.hub.node x.event ∙ e)

pub replay_awake : (me : List ℕ) (h : List Entry) → (replay me h).hub.node.spent ≡ false
replay_awake me h = awake_from (new_tables me) h refl

module _ (policy : PolicyState) (me : List ℕ) (h : List Entry) (hub : HubState) (ends : List EndState) (r : IsReplay me h hub ends) (link : LinkNo) (msg : Msg) where
  here : (o : Option LinkPeer) → link_at hub.node.links link.0 ≡ o → link_at (replay me h).hub.node.links link.0 ≡ o
  here o e = ap (λ n. link_at n.node.links link.0) (sym r.hub_is) ∙ e

  closing : (o : Option ℕ) → closed_at ends link ≡ o → closing_of (replay me h) link ≡ o
  closing o e = ap (λ qs. option_and_then (λ (q : LinkQueue). q.closed) (find (λ q. q.link.0 == link.0) qs)) (sym r.queues) ∙ find_closed link ends ∙ e

  not_up : (e : DeliverError) → link_at hub.node.links link.0 ≡ None → e ≡ deliver.NotUp link → RefusesMessage policy me h link msg e
  not_up e none is = subst (λ o. RefusesAt policy (replay me h) h link msg o e) (sym (here None none)) is

  refused_on : (l : LinkPeer) (o : Option ℕ) (e : DeliverError) → link_at hub.node.links link.0 ≡ Some l → closed_at ends link ≡ o → RefusesOn policy (replay me h) h link l.peer msg o e → RefusesMessage policy me h link msg e
  refused_on l o e up shut is =
      subst (λ p. RefusesAt policy (replay me h) h link msg p e) (sym (here (Some l) up))
      (subst (λ p. RefusesOn policy (replay me h) h link l.peer msg p e) (sym (closing o shut)) is)

  refused_open : (l : LinkPeer) (e : DeliverError) → link_at hub.node.links link.0 ≡ Some l → closed_at ends link ≡ None → refuses_on policy hub h link l.peer msg ≡ Some e → RefusesMessage policy me h link msg e
  refused_open l e up unshut is = refused_on l None e up unshut (subst (λ n. refuses_on policy n h link l.peer msg ≡ Some e) r.hub_is is)

  -- a link that is up and open admits the message, or says why not
  worn_more : (a : Bool) (d : Option ℕ) (ruled w : Bool) (role : Role) (x : Option NodeError) (e : DeliverError) → cond (not a) (Some (deliver.Misplaced role)) (denied_or d (cond w (Some deliver.Worn) None)) ≡ Some e →
      cond (not a) (Some (deliver.Misplaced role)) (denied_or d (refused_by ruled w x)) ≡ Some e
  worn_more false d ruled w role x e is = is
  worn_more true (Some rule) ruled w role x e is = is
  worn_more true None ruled true role x e is = is
  worn_more true None ruled false role x e is = cc

  none_more : (a : Bool) (d : Option ℕ) (ruled w : Bool) (role : Role) (x : Option NodeError) → cond (not a) (Some (deliver.Misplaced role)) (denied_or d (cond w (Some deliver.Worn) None)) ≡ None →
      (a ≡ true) × (d ≡ None) × (w ≡ false) × (cond (not a) (Some (deliver.Misplaced role)) (denied_or d (refused_by ruled w x)) ≡ refused_by ruled false x)
  none_more false d ruled w role x is = cc
  none_more true (Some rule) ruled w role x is = cc
  none_more true None ruled true role x is = cc
  none_more true None ruled false role x is = (refl, refl, refl, refl)

  pub message_refused : (p : Option PeerState) (c : Option Closing) (e : DeliverError) → p ≡ option_map (λ l. l.peer) (link_at hub.node.links link.0) → asked c ≡ closed_at ends link →
      message_refusal policy p c link msg (is_worn h) ≡ Some e → RefusesMessage policy me h link msg e
  message_refused None c e at shut is = not_up e (no_peer (link_at hub.node.links link.0) (sym at)) (let same : e ≡ deliver.NotUp link = cc in same)
  message_refused (Some q) (Some c) e at shut is =
      let f = found_peer (link_at hub.node.links link.0) q (sym at) in
      refused_on f.0 (Some c.asked) e f.1 (sym shut) (subst (λ x. IsClosed (Some c.asked) x) (let same : deliver.Full c.asked c.free ≡ e = cc in same) (refl, c.less))
  message_refused (Some q) None e at shut is =
      let f = found_peer (link_at hub.node.links link.0) q (sym at) in
      refused_open f.0 e f.1 (sym shut)
      (worn_more (admits f.0.peer.role msg) (peer_denial policy f.0.peer msg) (not (is_open policy)) (is_worn h) f.0.peer.role (hub_refuses hub (From link msg)) e (subst (λ z. open_refusal policy z msg (is_worn h) ≡ Some e) (sym f.2) is))

  -- what follows where nothing of that refuses it
  unshut : (p : Option PeerState) (c : Option Closing) → p ≡ option_map (λ l. l.peer) (link_at hub.node.links link.0) → asked c ≡ closed_at ends link → message_refusal policy p c link msg (is_worn h) ≡ None →
      (l : LinkPeer) × (link_at hub.node.links link.0 ≡ Some l) × (closed_at ends link ≡ None) × (open_refusal policy l.peer msg (is_worn h) ≡ None)
  unshut None c at shut is = cc
  unshut (Some q) (Some c) at shut is = cc
  unshut (Some q) None at shut is =
      let f = found_peer (link_at hub.node.links link.0) q (sym at) in
      (f.0, f.1, sym shut, subst (λ z. open_refusal policy z msg (is_worn h) ≡ None) (sym f.2) is)

  module _ (p : Option PeerState) (c : Option Closing) (at : p ≡ option_map (λ l. l.peer) (link_at hub.node.links link.0)) (shut : asked c ≡ closed_at ends link) (is : message_refusal policy p c link msg (is_worn h) ≡ None) where
    pub message_comes : is_some (link_at hub.node.links link.0) ≡ true
    message_comes = ap is_some (unshut p c at shut is).1

    pub message_room : is_worn h ≡ false
    message_room = let u = unshut p c at shut is in (none_more (admits u.0.peer.role msg) (peer_denial policy u.0.peer msg) (not (is_open policy)) (is_worn h) u.0.peer.role (hub_refuses hub (From link msg)) u.3).2

    -- its role sends such messages, and no rule denies it
    pub message_allowed : is_allowed policy (replay me h).hub.node (From link msg) ≡ true
    message_allowed =
        let u = unshut p c at shut is in
        let told = none_more (admits u.0.peer.role msg) (peer_denial policy u.0.peer msg) (not (is_open policy)) (is_worn h) u.0.peer.role (hub_refuses hub (From link msg)) u.3 in
        subst (λ o. option_map_or (λ (l : LinkPeer). admits l.peer.role msg && is_none (peer_denial policy l.peer msg)) o false ≡ true) (sym (here (Some u.0) u.1)) (and_from _ _ told.0 (ap is_none told.1))

    pub message_node : (x : NodeError) → hub_refuses hub (From link msg) ≡ Some x → RefusesMessage policy me h link msg (node_refusal (not (is_open policy)) x)
    message_node x denied =
        let u = unshut p c at shut is in
        refused_open u.0 (node_refusal (not (is_open policy)) x) u.1 u.2
        ((none_more (admits u.0.peer.role msg) (peer_denial policy u.0.peer msg) (not (is_open policy)) (is_worn h) u.0.peer.role (hub_refuses hub (From link msg)) u.3).3 ∙ ap (λ o. refused_by (not (is_open policy)) false o) denied)

    pub message_admitted : hub_refuses hub (From link msg) ≡ None → IsAdmitted (λ e. RefusesMessage policy me h link msg e)
    message_admitted takes e refused =
        let u = unshut p c at shut is in
        let on : RefusesAt policy (replay me h) h link msg (Some u.0) e = subst (λ o. RefusesAt policy (replay me h) h link msg o e) (here (Some u.0) u.1) refused in
        let there : refuses_on policy (replay me h).hub h link u.0.peer msg ≡ Some e = subst (λ o. RefusesOn policy (replay me h) h link u.0.peer msg o e) (closing None u.2) on in
        let same : refuses_on policy hub h link u.0.peer msg ≡ Some e = subst (λ n. refuses_on policy n h link u.0.peer msg ≡ Some e) (sym r.hub_is) there in
        let none : refuses_on policy hub h link u.0.peer msg ≡ None =
        (none_more (admits u.0.peer.role msg) (peer_denial policy u.0.peer msg) (not (is_open policy)) (is_worn h) u.0.peer.role (hub_refuses hub (From link msg)) u.3).3 ∙ ap (λ o. refused_by (not (is_open policy)) false o) takes in
        cc

    -- and then each refusal is the router's
    pub message_judged : is_early (hub_refuses hub (From link msg)) ≡ false → (e : DeliverError) → is_judged e ≡ true → RefusesMessage policy me h link msg e → ⊥
    message_judged late e judged refused =
        let u = unshut p c at shut is in
        let on : RefusesAt policy (replay me h) h link msg (Some u.0) e = subst (λ o. RefusesAt policy (replay me h) h link msg o e) (here (Some u.0) u.1) refused in
        let there : refuses_on policy (replay me h).hub h link u.0.peer msg ≡ Some e = subst (λ o. RefusesOn policy (replay me h) h link u.0.peer msg o e) (closing None u.2) on in
        let same : refuses_on policy hub h link u.0.peer msg ≡ Some e = subst (λ n. refuses_on policy n h link u.0.peer msg ≡ Some e) (sym r.hub_is) there in
        let node : refuses_on policy hub h link u.0.peer msg ≡ refused_by (not (is_open policy)) false (hub_refuses hub (From link msg)) =
        (none_more (admits u.0.peer.role msg) (peer_denial policy u.0.peer msg) (not (is_open policy)) (is_worn h) u.0.peer.role (hub_refuses hub (From link msg)) u.3).3 in
        router_judged (not (is_open policy)) (hub_refuses hub (From link msg)) e late (sym node ∙ same) judged

-- out of memory is no cause of these
pub never_memory : (policy : PolicyState) (p : Option PeerState) (c : Option Closing) (link : LinkNo) (msg : Msg) (w : Bool) → message_refusal policy p c link msg w ≡ Some deliver.NoMemory → ⊥
never_memory policy None c link msg w e = cc
never_memory policy (Some q) (Some c) link msg w e = cc
never_memory policy (Some q) None link msg w e = by (admits q.role msg) (peer_denial policy q msg) w e
  where
    by : (a : Bool) (d : Option ℕ) (w : Bool) → cond (not a) (Some (deliver.Misplaced q.role)) (denied_or d (cond w (Some deliver.Worn) None)) ≡ Some deliver.NoMemory → ⊥
    by false d w e = cc
    by true (Some rule) w e = cc
    by true None true e = cc
    by true None false e = cc

-- nor is it one of a refusal by the router
pub node_never_memory : (ruled : Bool) (x : NodeError) → node_refusal ruled x ≡ deliver.NoMemory → ⊥
node_never_memory true (error.NotDeclared id) e = cc
node_never_memory true (error.Gap router has came) e = cc
node_never_memory true (error.TextLimit held more) e = cc
node_never_memory true (error.NumberTaken id) e = cc
node_never_memory true (error.TooMany pending) e = cc
node_never_memory true error.Worn e = cc
node_never_memory true error.Spent e = cc
node_never_memory true error.NoMemory e = cc
node_never_memory false x e = cc

-- ---- one more entry that is allowed

allowed_snoc : (policy : PolicyState) (t : Tables) (h : List Entry) (e : Entry) → are_allowed_from policy t h ≡ true → is_allowed policy (replay_from t h).hub.node e.event ≡ true → are_allowed_from policy t (h ++ e ∷ []) ≡ true
allowed_snoc policy t [] e a b = and-true (is_allowed policy t.hub.node e.event) ∙ b
allowed_snoc policy t (x ∷ h) e a b =
    let first = and_parts (is_allowed policy t.hub.node x.event) (are_allowed_from policy (advanced t x) h) a in
    and_from _ _ first.0 (allowed_snoc policy (advanced t x) h e first.1 b)

pub allowed_more : (policy : PolicyState) (me : List ℕ) (h : List Entry) (e : Entry) →
    AreAllowed policy me h → is_allowed policy (replay me h).hub.node e.event ≡ true → ComesSpelled e.event → AreAllowed policy me (h ++ e ∷ [])
allowed_more policy me h e a b spelled = (allowed_snoc policy (new_tables me) h e a.0 b, All-append (λ x. ComesSpelled x.event) h (e ∷ []) a.1 (spelled, tt))
