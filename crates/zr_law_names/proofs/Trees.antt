-- What a router does doesn't depend on the trees that its clients name (`trees_change_nothing`).
use Rattle.std.proofs.Common.{◌≡◌, ℕ, Bool, true, false, cond, List, [], ◌++◌, Option, Some, None, refl, sym, ap, ◌∙◌}
use Rattle.std.specs.Prelude.{◌==◌, ◌&&◌}
use Rattle.std.specs.Option.{option_map_or, option_or}
use Rattle.std.proofs.lemmas.Bool.{false≢true}
use Rattle.zr_id.specs.declared.link.LinkNo.{LinkNo}
use Rattle.zr_body.specs.Latest.{is_latest}
use Rattle.zr_msg.specs.declared.content.Parts.{Parts}
use Rattle.zr_msg.specs.declared.error.NodeError.TheVariants as e
use Rattle.zr_msg.specs.declared.event.Event.{Event}
use Rattle.zr_msg.specs.declared.event.Event.TheVariants.{Up, Down, From}
use Rattle.zr_msg.specs.declared.msg.Msg.{Msg}
use Rattle.zr_msg.specs.declared.msg.Msg.TheVariants.{Sub, Unsub, Token, Untoken, Able, Unable, Interest, EndInterest, ToldSub, ToldAble, ToldUnsub, ToldToken, ToldUntoken, ToldUnable, ToldEnd, Push, Request, Response, Final, State, Step, Snap}
use Rattle.zr_msg.specs.declared.msg.Target.{Target}
use Rattle.zr_msg.specs.declared.peer.LinkPeer.{LinkPeer}
use Rattle.zr_msg.specs.declared.peer.Role.{Role}
use Rattle.zr_msg.specs.declared.peer.Role.TheVariants.{Client, Router}
use Rattle.zr_node_spec.specs.Tables.{is_router, link_at, leads_to_router, leads_to_client}
use Rattle.zr_node_spec.specs.State.{NodeState, tables}
use Rattle.zr_node_spec.specs.Samples.{tree_by, tree_of, push_along}
use Rattle.zr_node_spec.specs.Queries.{asker, links_along, request_along, final_at_once, asked_over, gathering_if}
use Rattle.zr_node_spec.specs.Snapshots.{sends_snapshots}
use Rattle.zr_node_spec.specs.Table.{with_pending, with_held, after_from, after, sends_from, sends_first, sends, refuses_request, refuses_from, refuses}
use Rattle.zr_told_spec.specs.Hub.{HubState, asking_of, asking_on, by_link, tells_with, told_with, sends_told, told_after, hub_sends, hub_after, hub_refuses}
use Rattle.zr_told_spec.specs.Rows.{map_on, one_lacks_ids}
use Rattle.zr_law_names.specs.Trees.{treeless, treeless_event, TreesChangeNothing}

-- ---- one message

-- what holds of each message and itself, and of a sample and a query without a tree and with one, holds of each message without a tree and with one
by_tree : (P : Msg → Msg → Type 0) → ((msg : Msg) → P msg msg) → ((tree : Option (List ℕ)) (content : Parts) → P (Push None content) (Push tree content)) →
    ((tree : Option (List ℕ)) (id : ℕ) (target : Target) (content : Parts) → P (Request None id target content) (Request tree id target content)) → (msg : Msg) → P (treeless msg) msg
by_tree P same push request (Sub id key) = same (Sub id key)
by_tree P same push request (Unsub id) = same (Unsub id)
by_tree P same push request (Token id key) = same (Token id key)
by_tree P same push request (Untoken id) = same (Untoken id)
by_tree P same push request (Able id key complete) = same (Able id key complete)
by_tree P same push request (Unable id) = same (Unable id)
by_tree P same push request (Interest id current future kinds key aggregate) = same (Interest id current future kinds key aggregate)
by_tree P same push request (EndInterest id) = same (EndInterest id)
by_tree P same push request (ToldSub id key interest) = same (ToldSub id key interest)
by_tree P same push request (ToldAble id key complete interest) = same (ToldAble id key complete interest)
by_tree P same push request (ToldUnsub id) = same (ToldUnsub id)
by_tree P same push request (ToldToken id key interest) = same (ToldToken id key interest)
by_tree P same push request (ToldUntoken id) = same (ToldUntoken id)
by_tree P same push request (ToldUnable id) = same (ToldUnable id)
by_tree P same push request (ToldEnd interest) = same (ToldEnd interest)
by_tree P same push request (Push tree content) = push tree content
by_tree P same push request (Request tree id target content) = request tree id target content
by_tree P same push request (Response id content) = same (Response id content)
by_tree P same push request (Final id extras) = same (Final id extras)
by_tree P same push request (State links) = same (State links)
by_tree P same push request (Step source number added decl) = same (Step source number added decl)
by_tree P same push request (Snap source number decls) = same (Snap source number decls)

-- no message asks by its tree
asking_kept : (msg : Msg) → asking_of (treeless msg) ≡ asking_of msg
asking_kept msg = by_tree (λ a b. asking_of a ≡ asking_of b) (λ z. refl) (λ tree content. refl) (λ tree id target content. refl) msg

module _ (n : NodeState) (from : ℕ) (client : leads_to_router n.links from ≡ false) where
  -- what comes over a link that leads to no router goes along the same tree, whatever tree it names
  any_tree : (named : Option (List ℕ)) → tree_of (tables n) (link_at n.links from) None ≡ tree_of (tables n) (link_at n.links from) named
  any_tree named = by (link_at n.links from) client
    where
      one : (l : LinkPeer) (r : Role) → is_router r ≡ false → tree_by (tables n) l r None ≡ tree_by (tables n) l r named
      one l Client h = refl
      one l Router h = absurd (false≢true (sym h))

      by : (o : Option LinkPeer) → option_map_or (λ l. is_router l.peer.role) o false ≡ false → tree_of (tables n) o None ≡ tree_of (tables n) o named
      by None h = refl
      by (Some l) h = one l l.peer.role h

  message_sent : (msg : Msg) (to : ℕ) → sends_from n from (treeless msg) to ≡ sends_from n from msg to
  message_sent msg to = by_tree (λ a b. sends_from n from a to ≡ sends_from n from b to) (λ z. refl)
      (λ tree content. ap (λ o. push_along (tables n) from o content to) (any_tree tree))
      (λ tree id target content.
      ap (λ o. final_at_once from id (links_along (tables n) from o target content.key) to ++ request_along (tables n) n.pending from o target content to) (any_tree tree)) msg

  message_left : (msg : Msg) → after_from n from (treeless msg) ≡ after_from n from msg
  message_left msg = by_tree (λ a b. after_from n from a ≡ after_from n from b) (λ z. refl) (λ tree content. refl)
      (λ tree id target content.
      ap (λ o. with_held (with_pending n (asked_over n.pending (asker from id) (links_along (tables n) from o target content.key)))
      (gathering_if n.held (leads_to_client n.links from && is_latest content.body) (asker from id) (links_along (tables n) from o target content.key))) (any_tree tree)) msg

  message_refused : (msg : Msg) → refuses_from n from (treeless msg) ≡ refuses_from n from msg
  message_refused msg = by_tree (λ a b. refuses_from n from a ≡ refuses_from n from b) (λ z. refl) (λ tree content. refl)
      (λ tree id target content. ap (λ o. refuses_request n from id (links_along (tables n) from o target content.key)) (any_tree tree)) msg

-- ---- one event

-- what is read of a message over a link, where nothing is read of a client's tree
read_kept : {X : Type 0} (f : Msg → X) (links : List LinkPeer) (from : ℕ) (msg : Msg) → (leads_to_router links from ≡ false → f (treeless msg) ≡ f msg) →
    f (cond (leads_to_router links from) msg (treeless msg)) ≡ f msg
read_kept f links from msg same = by (leads_to_router links from) refl
  where
    by : (b : Bool) → leads_to_router links from ≡ b → f (cond b msg (treeless msg)) ≡ f msg
    by true i = refl
    by false i = same i

asking_same : (links : List LinkPeer) (event : Event) (to : ℕ) → asking_on (treeless_event links event) to ≡ asking_on event to
asking_same links (Up link peer) to = refl
asking_same links (Down link) to = refl
asking_same links (From link msg) to = ap (λ o. cond (link.0 == to) o None) (read_kept asking_of links link.0 msg (λ client. asking_kept msg))

module _ (n : NodeState) where
  first_sent : (event : Event) (to : LinkNo) → sends_first n (treeless_event n.links event) to ≡ sends_first n event to
  first_sent (Up link peer) to = refl
  first_sent (Down link) to = refl
  first_sent (From link msg) to = read_kept (λ z. sends_from n link.0 z to.0) n.links link.0 msg (λ client. message_sent n link.0 client msg to.0)

  left_same : (event : Event) → after n (treeless_event n.links event) ≡ after n event
  left_same (Up link peer) = refl
  left_same (Down link) = refl
  left_same (From link msg) = read_kept (after_from n link.0) n.links link.0 msg (λ client. message_left n link.0 client msg)

  refused_same : (event : Event) → refuses n (treeless_event n.links event) ≡ refuses n event
  refused_same (Up link peer) = refl
  refused_same (Down link) = refl
  refused_same (From link msg) = read_kept (refuses_from n link.0) n.links link.0 msg (λ client. message_refused n link.0 client msg)

-- ---- the router with its clients

module _ (h : HubState) (event : Event) where
  abbrev plain : Event
  plain = treeless_event h.node.links event

  abbrev then : NodeState
  then = after h.node event

  told_then : (k : ℕ) → told_after (tables then) (λ k. map_on h.told k) plain k ≡ told_after (tables then) (λ k. map_on h.told k) event k
  told_then k = ap (λ a. cond (leads_to_client then.links k) (told_with (tables then) (map_on h.told k) k a) []) (asking_same h.node.links event k)

  sent_then : (to : ℕ) → sends_told (tables then) (map_on h.told to) plain to ≡ sends_told (tables then) (map_on h.told to) event to
  sent_then to = ap (λ a. cond (leads_to_client then.links to) (tells_with (tables then) (map_on h.told to) to a) []) (asking_same h.node.links event to)

  hub_left : hub_after h plain ≡ hub_after h event
  hub_left =
      ap (λ (m : NodeState). record { node = m; told = by_link m.links (told_after (tables m) (λ k. map_on h.told k) plain) }) (left_same h.node event)
      ∙ (λ i. record { node = then; told = by_link then.links (λ k. told_then k i) })

  hub_sent : (link : LinkNo) → hub_sends h plain link ≡ hub_sends h event link
  hub_sent link =
      ap (λ z. (z ++ sends_snapshots (tables (after h.node plain)) h.node.base.records link.0) ++ sends_told (tables (after h.node plain)) (map_on h.told link.0) plain link.0) (first_sent h.node event link)
      ∙ ap (λ (m : NodeState). (sends_first h.node event link ++ sends_snapshots (tables m) h.node.base.records link.0) ++ sends_told (tables m) (map_on h.told link.0) plain link.0) (left_same h.node event)
      ∙ ap (λ z. sends h.node event link ++ z) (sent_then link.0)

  hub_refused : hub_refuses h plain ≡ hub_refuses h event
  hub_refused =
      ap (λ (m : NodeState). option_or (refuses h.node plain) (cond (one_lacks_ids (tables m) m.clients) (Some e.Worn) None)) (left_same h.node event)
      ∙ ap (λ o. option_or o (cond (one_lacks_ids (tables then) then.clients) (Some e.Worn) None)) (refused_same h.node event)

pub trees_change_nothing : TreesChangeNothing
trees_change_nothing h event = record { after = hub_left h event; sends = hub_sent h event; refuses = hub_refused h event }
