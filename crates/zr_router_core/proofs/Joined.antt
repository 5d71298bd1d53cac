-- What the router does with an event and what its clients are told make one.
use Rattle.std.proofs.Common.{◌≡◌, Vec, Global, ℕ, ◌==◌, ◌&&◌, ◌||◌, ◌++◌, not, map, filter, unwrap_or, Bool, true, false, cond, List, [], ◌∷◌, Option, Some, None, IfSome, option_map, Result, Ok, Err, OnOk, refl, sym, ap, subst, ◌∙◌}
use Rattle.std.specs.List.{list_any}
use Rattle.std.specs.Map.{lookup}
use Rattle.std.specs.Option.{option_or, option_map_or}
use Rattle.std.specs.Ordering.{is_eq, nat_cmp}
use Rattle.std.proofs.lemmas.Bool.{true≢false, false≢true, eqb-true}
use Rattle.std.proofs.lemmas.List.{append-nil}
use Rattle.std.proofs.lemmas.Option.{none-some}
use Rattle.zr_lists.proofs.Numbers.{nat_eq_turned}
use Rattle.zr_id.specs.declared.link.LinkNo.{LinkNo}
use Rattle.zr_local.specs.Clients.{interests_on}
use Rattle.zr_local.specs.declared.interest.ClientInterests.{ClientInterests}
use Rattle.zr_msg.specs.declared.error.NodeError.{NodeError}
use Rattle.zr_msg.specs.declared.error.NodeError.TheVariants as e
use Rattle.zr_msg.specs.declared.event.Event.{Event}
use Rattle.zr_msg.specs.declared.msg.Msg.{Msg}
use Rattle.zr_msg.specs.declared.peer.LinkPeer.{LinkPeer}
use Rattle.zr_node_spec.specs.Tables.{TableState, link_at, leads_to_client}
use Rattle.zr_node_spec.specs.Early.{is_early}
use Rattle.zr_node_spec.specs.Event.{on_link, Sends, SendsPrefix, Tells, TellsPrefix}
use Rattle.zr_lists.specs.Prefix.{IsPrefixOf}
use Rattle.zr_node_spec.specs.State.{NodeState, new_node, tables}
use Rattle.zr_node_spec.specs.Table.{sends, after, refuses}
use Rattle.zr_told_spec.specs.Hub.{HubState, by_link, hub_after, hub_refuses, hub_sends, HubSends, HubSendsPrefix, sends_told, told_after}
use Rattle.zr_told_spec.specs.Rows.{Maps, map_on, one_lacks_ids, others, IsAsWanted}
use Rattle.zr_told_spec.specs.Told.{ToldMap}
use Rattle.zr_told_spec.specs.declared.place.Place.{Place}
use Rattle.zr_told_spec.proofs.Events.{nothing_told}
use Rattle.zr_told_spec.proofs.Hubs.{to_client}
use Rattle.zr_node.specs.Answer.{refusal_of}
use Rattle.zr_node.proofs.Early.{behind_late, worn_late}
use Rattle.zr_node.proofs.Refusals.{not_memory, not_spent}
use Rattle.zr_node.proofs.Retold.{told_both, prefix_first, prefix_second}
use Rattle.zr_node.proofs.Handled.{error, same_error}
use Rattle.zr_router_core.specs.Done.{hub_of, hub_refusal_of, said_on, IsHandled, IsNodeDone, IsToldAll, IsToldOf, IsDoneBoth, IsRefusedBoth, IsDone, IsLacking, IsLasting, IsRoomy, answer_of, have_ids}
use Rattle.zr_router_core.specs.Places.{AreKeys, changed_places, is_quiet}
use Rattle.zr_router_core.specs.Ready.{is_own, is_none, tells_nobody, IsToTell}
use Rattle.zr_router_core.specs.Right.{IsRight, IsSound, IsBefore, spent_as}
use Rattle.zr_router_core.specs.declared.failure.HubFailure.{HubFailure}
use Rattle.zr_router_core.specs.declared.failure.HubFailure.TheVariants.{Refused, NoMemory}
use Rattle.zr_router_core.proofs.Changed.{quiet_tables, quiet_own, no_clients, after_spent}
use Rattle.zr_router_core.proofs.Ready.{still_right, to_tell}
use Rattle.zr_router_core.proofs.Telling.{none_told, calm_on, unasked}

module _ (n : NodeState) (told : Maps) (event : Event) where
  abbrev said_by : ℕ → List Msg
  said_by k = sends n event (record { 0 = k })

  abbrev told_by : ℕ → List Msg
  told_by k = sends_told (tables (after n event)) (map_on told k) event k

  -- first the router, then its clients
  both_sent : (said mid all : List (LinkNo × Msg)) → Sends n event said mid → Tells told_by mid all → Tells (said_on n told event) said all
  both_sent said mid all s t = told_both said_by told_by (said_on n told event) said (λ to. refl) mid all s t

  -- memory ran out in the router
  pub first_prefix : (said all : List (LinkNo × Msg)) → SendsPrefix n event said all → TellsPrefix (said_on n told event) said all
  first_prefix said all h = prefix_first said_by told_by (said_on n told event) said (λ to. refl) all h

  -- and where its clients were told
  second_prefix : (said mid all : List (LinkNo × Msg)) → Sends n event said mid → TellsPrefix told_by mid all → TellsPrefix (said_on n told event) said all
  second_prefix said mid all s t = prefix_second said_by told_by (said_on n told event) said (λ to. refl) mid all s t

  -- ---- refusals

  pub refused_both : (why : NodeError) → refuses n event ≡ Some why → hub_refuses (hub_of n told) event ≡ Some why
  refused_both why h = ap (λ (o : Option NodeError). option_or o (cond (one_lacks_ids (tables (after n event)) (after n event).clients) (Some e.Worn) None)) h

  allowed_both : refuses n event ≡ None → have_ids n event → hub_refuses (hub_of n told) event ≡ None
  allowed_both h ids = ap (λ (o : Option NodeError). option_or o (cond (one_lacks_ids (tables (after n event)) (after n event).clients) (Some e.Worn) None)) h ∙ ap (λ (b : Bool). cond b (Some e.Worn) None) ids

  -- what is found without memory is the router's own refusal
  pub early_both : is_early (hub_refuses (hub_of n told) event) ≡ is_early (refuses n event)
  early_both =
      let lacks : Bool = one_lacks_ids (tables (after n event)) (after n event).clients in
      behind_late (refuses n event) (cond lacks (Some e.Worn) None) (worn_late lacks)

  -- whether there are ids for all is asked once the router has handled the event
  pub roomy : (res : Result (Unit {0}) HubFailure) (now : NodeState) (said all : List (LinkNo × Msg)) → IsHandled n event now said all → IsLasting (one_lacks_ids (tables now) now.clients) res → IsRoomy n event res
  roomy res now said all h lasts = by res (subst (λ (m : NodeState). IsLasting (one_lacks_ids (tables m) m.clients) res) h.state lasts)
    where
      by : (res : Result (Unit {0}) HubFailure) → IsLasting (one_lacks_ids (tables (after n event)) (after n event).clients) res → IsRoomy n event res
      by (Ok x) k = λ allowed. k
      by (Err (Refused why)) k =
          ap (λ (o : Option NodeError). option_or o (cond (one_lacks_ids (tables (after n event)) (after n event).clients) (Some e.Worn) None)) h.allowed
          ∙ ap (λ (b : Bool). cond b (Some e.Worn) None) k.0 ∙ ap Some (sym k.1)
      by (Err NoMemory) k = ap is_early h.allowed

  -- ---- an event of which nobody is told anything

  -- all that clients were told stays right
  record IsCalm : Type 0 where
    pub ids : have_ids n event
    pub none : (said : List (LinkNo × Msg)) → IsToldAll (tables (after n event)) event told told said said
    pub right : IsRight (tables (after n event)) (λ k. map_on told k)

  none_without : (t : TableState) (k : ℕ) → IsRight t (λ j. map_on told j) → interests_on t.clients k ≡ [] → map_on told k ≡ []
  none_without t k r e = nothing_told (others t k) (map_on told k) (subst (λ is. IsAsWanted (others t k) is (map_on told k)) e (r.wanted k))

  -- it changes nothing of which they are told
  quiet_calm : IsRight (tables n) (λ k. map_on told k) → is_quiet event ≡ true → IsCalm
  quiet_calm r quiet =
      let same : tables (after n event) ≡ tables n = quiet_tables n event quiet in
      let right : IsRight (tables (after n event)) (λ k. map_on told k) = subst (λ (t : TableState). IsRight t (λ k. map_on told k)) (sym same) r in
      record {
        ids = right.ids;
        none = λ said.
            none_told (tables (after n event)) event told said
            (λ k. calm_on (tables (after n event)) event told k (unasked event k (quiet_own event quiet)) (right.wanted k) (λ away. none_without (tables (after n event)) k right (right.clients k away)));
        right = right;
      }

  -- or none of them has an interest
  silent_calm : IsRight (tables n) (λ k. map_on told k) → n.clients ≡ [] → is_own event ≡ false → IsCalm
  silent_calm r none own =
      let t : TableState = tables (after n event) in
      let still : (after n event).clients ≡ [] = no_clients n event none own in
      let empty : (k : ℕ) → map_on told k ≡ [] = λ k. none_without (tables n) k r (ap (λ (cs : List ClientInterests). interests_on cs k) none) in
      let wanted : (k : ℕ) → IsAsWanted (others t k) (interests_on t.clients k) (map_on told k) =
      λ k. subst (λ (cs : List ClientInterests). IsAsWanted (others t k) (interests_on cs k) (map_on told k)) (sym still) (subst (λ (m : ToldMap). IsAsWanted (others t k) [] m) (sym (empty k)) (λ p. refl)) in
      let ids : one_lacks_ids t t.clients ≡ false = ap (λ (cs : List ClientInterests). one_lacks_ids t cs) still in
      record {
        ids = ids;
        none = λ said. none_told t event told said (λ k. calm_on t event told k (unasked event k own) (wanted k) (λ away. empty k));
        right = record { wanted = wanted; clients = λ k away. ap (λ (cs : List ClientInterests). interests_on cs k) still; ids = ids };
      }

  nobody_calm : IsRight (tables n) (λ k. map_on told k) → tells_nobody n.clients event ≡ true → IsCalm
  nobody_calm r h = by (is_quiet event) refl n.clients refl (is_own event) refl h
    where
      by : (q : Bool) → is_quiet event ≡ q → (cs : List ClientInterests) → n.clients ≡ cs → (o : Bool) → is_own event ≡ o → (q || (is_none cs && not o)) ≡ true → IsCalm
      by true q cs e o f h = quiet_calm r q
      by false q [] e false f h = silent_calm r e f
      by false q [] e true f h = absurd (false≢true h)
      by false q (c ∷ cs) e o f h = absurd (false≢true h)

  module _ (sound : IsSound n told) (nobody : tells_nobody n.clients event ≡ true) where
    calm : IsCalm
    calm = nobody_calm sound.right nobody

    pub nobody_done : (res : Result (Unit {0}) HubFailure) (now : NodeState) (said all : List (LinkNo × Msg)) → IsNodeDone n event res now said all → IsDone n told event res now told said all
    nobody_done (Ok x) now said all h =
        let a = calm.none all in
        record { allowed = allowed_both h.allowed calm.ids; state = h.state; map = a.map; sends = both_sent said all all h.sends a.sends }
    nobody_done (Err (Refused why)) now said all h = record { node = record { refused = refused_both why h.refused; state = h.state; sends = h.sends }; same = refl }
    nobody_done (Err NoMemory) now said all h = record { late = h.late; sends = first_prefix said all h.sends }

    pub nobody_stays : (res : Result (Unit {0}) HubFailure) (now : NodeState) (said all : List (LinkNo × Msg)) → IsNodeDone n event res now said all → OnOk res (IsSound now told)
    nobody_stays (Ok x) now said all h = subst (λ (m : NodeState). IsSound m told) (sym h.state) (record { awake = after_spent n event ∙ sound.awake; right = calm.right })
    nobody_stays (Err f) now said all h = tt

  -- ---- the router has handled it, and its clients were told

  pub told_done : {E : Type 0} (res : Result (Unit {0}) E) (now : NodeState) (now_told : Maps) (said mid all : List (LinkNo × Msg)) → IsHandled n event now said mid → have_ids n event
      → IsToldOf (tables (after n event)) event res told now_told mid all → IsDone n told event (answer_of res) now now_told said all
  told_done (Ok x) now now_told said mid all h ids a = record { allowed = allowed_both h.allowed ids; state = h.state; map = a.map; sends = both_sent said mid all h.sends a.sends }
  told_done (Err x) now now_told said mid all h ids p = record { late = ap is_early h.allowed; sends = second_prefix said mid all h.sends p }

  pub told_stays : {E : Type 0} (res : Result (Unit {0}) E) (now : NodeState) (now_told : Maps) (said mid all : List (LinkNo × Msg)) (places : Option (List Place)) → IsSound n told → IsHandled n event now said mid
      → IsToTell (tables (after n event)) event places (λ k. map_on told k) → IsToldOf (tables (after n event)) event res told now_told mid all → OnOk (answer_of res) (IsSound now now_told)
  told_stays (Ok x) now now_told said mid all places sound h t a =
      subst (λ (m : NodeState). IsSound m now_told) (sym h.state)
      (record { awake = after_spent n event ∙ sound.awake; right = still_right (tables (after n event)) event places (λ k. map_on told k) (λ k. map_on now_told k) t a.map })
  told_stays (Err x) now now_told said mid all places sound h t a = tt

  -- the router refused it, or ran out of memory
  pub first_failed : (f : HubFailure) (now : NodeState) (said all : List (LinkNo × Msg)) → IsNodeDone n event (Err f) now said all → IsDone n told event (Err f) now told said all
  first_failed (Refused why) now said all h = record { node = record { refused = refused_both why h.refused; state = h.state; sends = h.sends }; same = refl }
  first_failed NoMemory now said all h = record { late = h.late; sends = first_prefix said all h.sends }

  -- it was judged to be refused, or memory ran out before anything changed
  pub judged : (f : HubFailure) (said : List (LinkNo × Msg)) → IsRoomy n event (Err f) → IsDone n told event (Err f) n told said said
  judged (Refused why) said h = record { node = record { refused = h; state = refl; sends = refl }; same = refl }
  judged NoMemory said h = record { late = h; sends = record { sent = []; appended = sym (append-nil said); each = λ to. (said_on n told event to.0, refl) } }

keys_items : (o : Option (Vec Place Global)) → IfSome o (λ v. AreKeys v.items) → IfSome (option_map (λ v. v.items) o) (λ qs. AreKeys qs)
keys_items None h = tt
keys_items (Some v) h = h

module _ (n : NodeState) (told : Maps) (event : Event) (places : Option (Vec Place Global)) (before : IsBefore n event (λ k. map_on told k)) (sound : IsSound n told) (places_are : option_map (λ v. v.items) places ≡ changed_places n event)
    (keys : IfSome places (λ v. AreKeys v.items)) (ids : refuses n event ≡ None → have_ids n event) (now : NodeState) (said mid : List (LinkNo × Msg)) (h : IsHandled n event now said mid) where
  pub to_tell_now : IsToTell (tables now) event (option_map (λ v. v.items) places) (λ k. map_on told k)
  to_tell_now =
      subst (λ (m : NodeState). IsToTell (tables m) event (option_map (λ v. v.items) places) (λ k. map_on told k)) (sym h.state)
      (to_tell n event (λ k. map_on told k) (option_map (λ v. v.items) places) before places_are (keys_items places keys) (ids h.allowed))

  module _ {E : Type 0} (res : Result (Unit {0}) E) (last : NodeState) (now_told : Maps) (all : List (LinkNo × Msg)) (stays : last ≡ now) (told_now : IsToldOf (tables now) event res told now_told mid all) (answered : Result (Unit {0}) HubFailure) (is : answered ≡ answer_of res) where
    left : IsHandled n event last said mid
    left = subst (λ (m : NodeState). IsHandled n event m said mid) (sym stays) h

    told_of : IsToldOf (tables (after n event)) event res told now_told mid all
    told_of = subst (λ (m : NodeState). IsToldOf (tables m) event res told now_told mid all) h.state told_now

    pub now_done : IsDone n told event answered last now_told said all
    now_done = subst (λ (r : Result (Unit {0}) HubFailure). IsDone n told event r last now_told said all) (sym is) (told_done n told event res last now_told said mid all left (ids h.allowed) told_of)

    pub now_sound : OnOk answered (IsSound last now_told)
    now_sound =
        subst (λ (r : Result (Unit {0}) HubFailure). OnOk r (IsSound last now_told)) (sym is)
        (told_stays n told event res last now_told said mid all (option_map (λ v. v.items) places) sound left
        (subst (λ (m : NodeState). IsToTell (tables m) event (option_map (λ v. v.items) places) (λ k. map_on told k)) h.state to_tell_now) told_of)

-- ---- a router that counts as spent or not

pub same_spent : (n : NodeState) (b : Bool) → n.spent ≡ b → spent_as n b ≡ n
same_spent n b h = λ i. record { links = n.links; base = n.base; rows = n.rows; clients = n.clients; known = n.known; pending = n.pending; held = n.held; spent = sym h i }

-- a router without links
pub new_sound : (me : List ℕ) → IsSound (new_node me) []
new_sound me = record { awake = refl; right = record { wanted = λ k p. refl; clients = λ k away. refl; ids = refl } }

-- ---- what was told is found by link

-- on the link of a number, whatever stands before it
found_there : (ls : List LinkPeer) (f : ℕ → ToldMap) (k : ℕ) (b : Bool) → list_any (λ l. l.link.0 == k && to_client l) ls ≡ b → map_on (by_link ls f) k ≡ cond b (f k) []
found_there [] f k b h = ap (λ s. cond s (f k) []) h
found_there (l ∷ ls) f k b h = by (l.link.0 == k) (to_client l) refl h (found_there ls f k)
  where
    by : (s c : Bool) → (l.link.0 == k) ≡ s → ((s && c) || list_any (λ l. l.link.0 == k && to_client l) ls) ≡ b
        → ((d : Bool) → list_any (λ l. l.link.0 == k && to_client l) ls ≡ d → map_on (by_link ls f) k ≡ cond d (f k) [])
        → map_on (map (λ l. (l.link.0, f l.link.0)) (cond c (l ∷ filter to_client ls) (filter to_client ls))) k ≡ cond b (f k) []
    by true true s h ih =
        ap (λ t. unwrap_or (cond t (Some (f l.link.0)) (lookup (λ j. is_eq (nat_cmp k j)) (by_link ls f))) []) (nat_eq_turned k l.link.0 ∙ s) ∙ ap f (eqb-true l.link.0 k s) ∙ ap (λ t. cond t (f k) []) h
    by true false s h ih = ih b h
    by false true s h ih = ap (λ t. unwrap_or (cond t (Some (f l.link.0)) (lookup (λ j. is_eq (nat_cmp k j)) (by_link ls f))) []) (nat_eq_turned k l.link.0 ∙ s) ∙ ih b h
    by false false s h ih = ih b h

-- a link that leads to a client is among them
leads_there : (ls : List LinkPeer) (k : ℕ) → leads_to_client ls k ≡ true → list_any (λ l. l.link.0 == k && to_client l) ls ≡ true
leads_there [] k h = h
leads_there (l ∷ ls) k h = by (l.link.0 == k) (to_client l) refl h (leads_there ls k)
  where
    by : (s c : Bool) → to_client l ≡ c → option_map_or to_client (cond s (Some l) (link_at ls k)) false ≡ true → (leads_to_client ls k ≡ true → list_any (λ l. l.link.0 == k && to_client l) ls ≡ true) → ((s && c) || list_any (λ l. l.link.0 == k && to_client l) ls) ≡ true
    by true true c h ih = refl
    by true false c h ih = absurd (true≢false (sym h ∙ c))
    by false c e h ih = ih h

module _ (n : NodeState) (told : Maps) (sound : IsSound n told) where
  pub seen : (k : ℕ) → map_on (by_link n.links (λ j. map_on told j)) k ≡ map_on told k
  seen k = by (leads_to_client n.links k) refl
    where
      either : (b : Bool) → map_on told k ≡ [] → cond b (map_on told k) [] ≡ map_on told k
      either true e = refl
      either false e = sym e

      by : (b : Bool) → leads_to_client n.links k ≡ b → map_on (by_link n.links (λ j. map_on told j)) k ≡ map_on told k
      by true h = found_there n.links (λ j. map_on told j) k true (leads_there n.links k h)
      by false h =
          found_there n.links (λ j. map_on told j) k (list_any (λ l. l.link.0 == k && to_client l) n.links) refl
          ∙ either (list_any (λ l. l.link.0 == k && to_client l) n.links)
          (nothing_told (others (tables n) k) (map_on told k) (subst (λ is. IsAsWanted (others (tables n) k) is (map_on told k)) (sound.right.clients k h) (sound.right.wanted k)))

  module _ (event : Event) where
    said_is : (k : ℕ) → said_on n told event k ≡ hub_sends (hub_of n told) event (record { 0 = k })
    said_is k = ap (λ (m : ToldMap). sends n event (record { 0 = k }) ++ sends_told (tables (after n event)) m event k) (sym (seen k))

    pub hub_state : (now : NodeState) (now_told : Maps) (said all : List (LinkNo × Msg)) → IsDoneBoth n told event now now_told said all → hub_of now now_told ≡ hub_after (hub_of n told) event
    hub_state now now_told said all d =
        let maps : (λ k. map_on now_told k) ≡ told_after (tables (after n event)) (λ j. map_on (by_link n.links (λ i. map_on told i)) j) event =
        λ i k. (d.map k ∙ (λ i. told_after (tables (after n event)) (λ j. sym (seen j) i) event k)) i in
        λ i. record { node = d.state i; told = by_link (d.state i).links (maps i) }

    pub hub_said : (said all : List (LinkNo × Msg)) → Tells (said_on n told event) said all → HubSends (hub_of n told) event said all
    hub_said said all t = record { sent = t.sent; appended = t.appended; each = λ to. t.each to ∙ said_is to.0 }

    pub hub_prefix : (said all : List (LinkNo × Msg)) → TellsPrefix (said_on n told event) said all → HubSendsPrefix (hub_of n told) event said all
    hub_prefix said all t = record { sent = t.sent; appended = t.appended; each = λ to. subst (λ (ms : List Msg). IsPrefixOf (on_link to t.sent) ms) (said_is to.0) (t.each to) }

-- where memory ran out in a router that wasn't spent, no refusal is found without memory
pub node_lacking : (n : NodeState) (event : Event) (why : NodeError) (said all : List (LinkNo × Msg)) → n.spent ≡ false → why ≡ e.NoMemory → (error why ≡ error e.NoMemory → is_early (refusal_of n event) ≡ false)
    → (error why ≡ error e.NoMemory → SendsPrefix n event said all) → IsLacking n event (λ k. sends n event (record { 0 = k })) said all
node_lacking n event why said all awake is late prefix = record {
  late = sym (ap (λ (b : Bool). is_early (cond b (Some e.Spent) (refuses n event))) awake) ∙ late (ap error is);
  sends = prefix (ap error is);
}

-- what is refused is neither that memory ran out nor that it ran out before
pub refused_else : (n : NodeState) (told : Maps) (event : Event) (why : NodeError) → hub_refuses (hub_of n told) event ≡ Some why → (error why ≡ error e.NoMemory → ⊥) × (error why ≡ error e.Spent → ⊥)
refused_else n told event why h = (
  λ k. never e.NoMemory (not_memory n event) (λ f. cc) (h ∙ ap Some (same_error why e.NoMemory k)),
  λ k. never e.Spent (not_spent n event) (λ f. cc) (h ∙ ap Some (same_error why e.Spent k)),
)
  where
    never : (other : NodeError) → (refuses n event ≡ Some other → ⊥) → (Some e.Worn ≡ Some other → ⊥) → hub_refuses (hub_of n told) event ≡ Some other → ⊥
    never other table worn f = by (refuses n event) refl (one_lacks_ids (tables (after n event)) (after n event).clients) f
      where
        by : (o : Option NodeError) → refuses n event ≡ o → (b : Bool) → option_or o (cond b (Some e.Worn) None) ≡ Some other → ⊥
        by None r true g = worn g
        by None r false g = none-some other g
        by (Some x) r b g = table (r ∙ g)

-- ---- a router with its clients, where memory hasn't run out: `self` is what contracts see of it

module _ (n : NodeState) (told : Maps) (spent : Bool) (self : HubState) (view_is : record { node = spent_as n spent; told = by_link n.links (λ k. map_on told k) } ≡ self) (awake : spent ≡ false) (sound : IsSound n told) (event : Event) where
  pub whole : hub_of n told ≡ self
  whole = (λ i. record { node = sym (same_spent n spent (sound.awake ∙ sym awake)) i; told = by_link n.links (λ k. map_on told k) }) ∙ view_is

  module _ (now : NodeState) (now_told : Maps) (said all : List (LinkNo × Msg)) where
    pub self_state : IsDoneBoth n told event now now_told said all → IsSound now now_told → record { node = spent_as now spent; told = by_link now.links (λ k. map_on now_told k) } ≡ hub_after self event
    self_state d s =
        (λ i. record { node = same_spent now spent (s.awake ∙ sym awake) i; told = by_link now.links (λ k. map_on now_told k) })
        ∙ hub_state n told sound event now now_told said all d
        ∙ ap (λ (h : HubState). hub_after h event) whole

    pub self_sends : IsDoneBoth n told event now now_told said all → HubSends self event said all
    self_sends d = subst (λ (h : HubState). HubSends h event said all) whole (hub_said n told sound event said all d.sends)

    pub self_stays : (why : NodeError) → IsRefusedBoth n told event why now now_told said all → (record { node = spent_as now spent; told = by_link now.links (λ k. map_on now_told k) } ≡ self) × (all ≡ said)
    self_stays why r = ((λ i. record { node = spent_as (r.node.state i) spent; told = by_link (r.node.state i).links (λ k. map_on (r.same i) k) }) ∙ view_is, r.node.sends)

  pub self_prefix : (said all : List (LinkNo × Msg)) → TellsPrefix (said_on n told event) said all → HubSendsPrefix self event said all
  self_prefix said all t = subst (λ (h : HubState). HubSendsPrefix h event said all) whole (hub_prefix n told sound event said all t)

  -- and no refusal is found without memory
  pub not_early : is_early (refuses n event) ≡ false → is_early (hub_refusal_of self event) ≡ false
  not_early late =
      ap (λ (h : HubState). is_early (hub_refusal_of h event)) (sym whole)
      ∙ ap (λ (b : Bool). is_early (cond b (Some e.Spent) (hub_refuses (hub_of n told) event))) sound.awake ∙ early_both n told event ∙ late

  -- what is refused is not that memory ran out
  pub never_memory : (why : NodeError) → hub_refusal_of self event ≡ Some why → error e.NoMemory ≡ error why → ⊥
  never_memory why h k = by (refuses n event) refl (one_lacks_ids (tables (after n event)) (after n event).clients) (sym (ap (λ (b : Bool). cond b (Some e.Spent) (hub_refuses (hub_of n told) event)) sound.awake) ∙ ap (λ (x : HubState). hub_refusal_of x event) whole ∙ h ∙ ap Some (sym (same_error e.NoMemory why k)))
    where
      by : (o : Option NodeError) → refuses n event ≡ o → (b : Bool) → option_or o (cond b (Some e.Worn) None) ≡ Some e.NoMemory → ⊥
      by None r true f = cc
      by None r false f = none-some e.NoMemory f
      by (Some x) r b f = not_memory n event (r ∙ f)
