-- What a router itself sends says nothing of what others declare: its clients hear nothing in it.
use Rattle.std.proofs.Common.{◌≡◌, ℕ, ◌+◌, Bool, true, false, cond, List, [], ◌∷◌, ◌++◌, map, refl, ap, ◌∙◌}
use Rattle.std.specs.declared.option.Option.{Option}
use Rattle.std.specs.declared.option.Option.TheVariants.{None, Some}
use Rattle.std.specs.List.{fold, flat_map}
use Rattle.std.specs.Option.{option_map_or}
use Rattle.std.proofs.lemmas.List.Sums.{fold-append}
use Rattle.zr_id.specs.Record.{RecordState}
use Rattle.zr_id.specs.declared.link.LinkNo.{LinkNo}
use Rattle.zr_graph.specs.Base.{BaseState}
use Rattle.zr_graph.specs.Record.{record_of}
use Rattle.zr_msg.specs.Extras.{no_extras}
use Rattle.zr_msg.specs.declared.content.Parts.{Parts}
use Rattle.zr_msg.specs.declared.event.Event.{Event}
use Rattle.zr_msg.specs.declared.event.Event.TheVariants.{Up, Down, From}
use Rattle.zr_msg.specs.declared.extras.Extras.{Extras}
use Rattle.zr_msg.specs.declared.msg.Msg.{Msg}
use Rattle.zr_msg.specs.declared.msg.Target.{Target}
use Rattle.zr_msg.specs.declared.msg.Msg.TheVariants.{Sub, Unsub, Token, Untoken, Able, Unable, Interest, EndInterest, ToldSub, ToldAble, ToldUnsub, ToldToken, ToldUntoken, ToldUnable, ToldEnd, Push, Request, Response, Final, State, Step, Snap}
use Rattle.zr_msg.specs.declared.peer.LinkPeer.{LinkPeer}
use Rattle.zr_msg.specs.Peer.{PeerState}
use Rattle.zr_msg.specs.declared.peer.Role.{Role}
use Rattle.zr_msg.specs.declared.peer.Role.TheVariants.{Client, Router}
use Rattle.zr_local.specs.declared.row.Row.{Row}
use Rattle.zr_log.specs.Log.{Change}
use Rattle.zr_pend_spec.specs.Row.{RowState}
use Rattle.zr_pend_spec.specs.declared.branch.Asker.{Asker}
use Rattle.zr_node_spec.specs.Tables.{TableState, link_at}
use Rattle.zr_node_spec.specs.Changes.{steps, sends_changes}
use Rattle.zr_node_spec.specs.Samples.{push_to, push_on, push_along, tree_of}
use Rattle.zr_pend_spec.specs.Held.{GatheringState, held_for}
use Rattle.zr_node_spec.specs.Queries.{asked_links, final_at_once, final_for, held_to, ending_for, reply_to, request_along, request_to, sends_ends}
use Rattle.zr_node_spec.specs.Snapshots.{sends_snapshots, snapshots_on}
use Rattle.zr_node_spec.specs.State.{NodeState, tables}
use Rattle.zr_node_spec.specs.Table.{own_link, after, all_records, joined, own_record, parted, rows_left, sends, sends_down, sends_first, sends_from, sends_own, sends_parted, sends_rows, sends_up}
use Rattle.zr_told_spec.specs.Told.{Heard, hear}

pub record IsUnheard (ms : List Msg) : Type 0 where
  pub leaves : (t : Heard) → fold hear t ms ≡ t

none : IsUnheard []
none = record { leaves = λ t. refl }

one : (msg : Msg) → ((t : Heard) → hear t msg ≡ t) → IsUnheard (msg ∷ [])
one msg h = record { leaves = h }

either : (b : Bool) (xs ys : List Msg) → IsUnheard xs → IsUnheard ys → IsUnheard (cond b xs ys)
either true xs ys u v = u
either false xs ys u v = v

both : (xs ys : List Msg) → IsUnheard xs → IsUnheard ys → IsUnheard (xs ++ ys)
both xs ys u v = record { leaves = λ t. fold-append hear t xs ys ∙ ap (λ z. fold hear z ys) (u.leaves t) ∙ v.leaves t }

module _ {X : Type 0} where
  of_found : (f : X → List Msg) → ((x : X) → IsUnheard (f x)) → (o : Option X) → IsUnheard (option_map_or f o [])
  of_found f u None = none
  of_found f u (Some x) = u x

  of_each : (f : X → List Msg) → ((x : X) → IsUnheard (f x)) → (xs : List X) → IsUnheard (flat_map f xs)
  of_each f u [] = none
  of_each f u (x ∷ xs) = both (f x) (flat_map f xs) (u x) (of_each f u xs)

-- ---- changes, snapshots and records

of_steps : (source : List ℕ) (number : ℕ) (cs : List Change) → IsUnheard (steps source number cs)
of_steps source number [] = none
of_steps source number (c ∷ cs) = record { leaves = λ t. (of_steps source (number + 1) cs).leaves t }

of_changes : (t : TableState) (cs : List Change) (to : ℕ) → IsUnheard (sends_changes t cs to)
of_changes t cs to = either _ _ [] (of_steps _ _ cs) none

of_snapshots : (t : TableState) (before : List RecordState) (to : ℕ) → IsUnheard (sends_snapshots t before to)
of_snapshots t before to =
    of_found (λ l. snapshots_on t before l) (λ l. either _ _ [] (of_each _ (λ g. either _ _ [] (one _ (λ h. refl)) none) t.known.logs) none) (link_at t.links to)

of_records : (rs : List RecordState) → IsUnheard (map (λ r. State r) rs)
of_records [] = none
of_records (r ∷ rs) = record { leaves = λ t. (of_records rs).leaves t }

of_own : (node : NodeState) (from : ℕ) (b : BaseState) (to : ℕ) → IsUnheard (sends_own node from b to)
of_own node from b to = either _ (own_record b) [] (of_found (λ r. State r ∷ []) (λ r. one (State r) (λ h. refl)) (record_of b.records b.me)) none

-- ---- samples and queries

of_push_to : (t : TableState) (from : ℕ) (tree : List ℕ) (content : Parts) (l : LinkPeer) (r : Role) → IsUnheard (push_to t from tree content l r)
of_push_to t from tree content l Client = either _ _ [] (one _ (λ h. refl)) none
of_push_to t from tree content l Router = either _ _ [] (one _ (λ h. refl)) none

of_push_on : (t : TableState) (from : ℕ) (tree : List ℕ) (content : Parts) (o : Option LinkPeer) → IsUnheard (push_on t from tree content o)
of_push_on t from tree content None = none
of_push_on t from tree content (Some l) = of_push_to t from tree content l l.peer.role

of_push : (t : TableState) (from : ℕ) (content : Parts) (to : ℕ) (tree : Option (List ℕ)) → IsUnheard (push_along t from tree content to)
of_push t from content to None = none
of_push t from content to (Some tree) = of_push_on t from tree content (link_at t.links to)

of_final : (extras : Extras) (to : ℕ) (a : Asker) → IsUnheard (final_for extras to a)
of_final extras to a = either _ _ [] (one _ (λ h. refl)) none

of_reply : (content : Parts) (to : ℕ) (a : Asker) → IsUnheard (reply_to content to a)
of_reply content to a = either _ _ [] (one _ (λ h. refl)) none

of_held : (number : ℕ) (cs : List Parts) → IsUnheard (map (λ c. Response number c) cs)
of_held number [] = none
of_held number (c ∷ cs) = both (Response number c ∷ []) (map (λ d. Response number d) cs) (one _ (λ h. refl)) (of_held number cs)

of_ending : (held : List GatheringState) (extras : Extras) (to : ℕ) (a : Asker) → IsUnheard (ending_for held extras to a)
of_ending held extras to a = both (held_to held to a) (final_for extras to a) (either _ _ [] (of_held a.number (held_for held a)) none) (of_final extras to a)

of_final_at_once : (from number to : ℕ) (links : List LinkNo) → IsUnheard (final_at_once from number links to)
of_final_at_once from number to [] = either _ _ [] (one _ (λ h. refl)) none
of_final_at_once from number to (l ∷ links) = none

of_request_along : (t : TableState) (pending : List RowState) (from : ℕ) (target : Target) (content : Parts) (to : ℕ) (tree : Option (List ℕ)) →
    IsUnheard (request_along t pending from tree target content to)
of_request_along t pending from target content to None = none
of_request_along t pending from target content to (Some tree) =
    of_found (λ l. request_to t pending from tree target content l) (λ l. either _ _ [] (one _ (λ h. refl)) none) (link_at t.links to)

-- ---- events

of_up : (node : NodeState) (link : ℕ) (peer : PeerState) (r : Role) (to : ℕ) → IsUnheard (sends_up node link peer r to)
of_up node link peer Client to = none
of_up node link peer Router to = let b : BaseState = joined node.base (own_link peer) in
    either _ (all_records b) (sends_own node link b to) (of_records b.records) (of_own node link b to)

of_parted : (node : NodeState) (link : ℕ) (peer : PeerState) (r : Role) (to : ℕ) → IsUnheard (sends_parted node link peer r to)
of_parted node link peer Client to = none
of_parted node link peer Router to = of_own node link (parted node.base peer.id) to

of_down : (node : NodeState) (link to : ℕ) (o : Option LinkPeer) → IsUnheard (sends_down node link o to)
of_down node link to None = none
of_down node link to (Some l) = of_parted node link l.peer l.peer.role to

of_rows : (node : NodeState) (rows : List Row) (to : ℕ) → IsUnheard (sends_rows node rows to)
of_rows node rows to = of_changes (tables node) _ to

of_from : (node : NodeState) (from to : ℕ) (msg : Msg) → IsUnheard (sends_from node from msg to)
of_from node from to (Sub id key) = of_rows node _ to
of_from node from to (Unsub id) = of_rows node _ to
of_from node from to (Token id key) = of_rows node _ to
of_from node from to (Untoken id) = of_rows node _ to
of_from node from to (Able id key complete) = of_rows node _ to
of_from node from to (Unable id) = of_rows node _ to
of_from node from to (Interest id current future kinds key aggregate) = none
of_from node from to (EndInterest id) = none
of_from node from to (ToldSub id key interest) = none
of_from node from to (ToldToken id key interest) = none
of_from node from to (ToldAble id key complete interest) = none
of_from node from to (ToldUnsub id) = none
of_from node from to (ToldUntoken id) = none
of_from node from to (ToldUnable id) = none
of_from node from to (ToldEnd interest) = none
of_from node from to (Push tree content) = of_push (tables node) from content to (tree_of (tables node) (link_at node.links from) tree)
of_from node from to (Request tree id target content) =
    both (final_at_once from id (asked_links (tables node) from tree target content.key) to) (request_along (tables node) node.pending from _ target content to)
    (of_final_at_once from id to (asked_links (tables node) from tree target content.key))
    (of_request_along (tables node) node.pending from target content to (tree_of (tables node) (link_at node.links from) tree))
of_from node from to (Response id content) = either _ [] _ none (of_found (λ a. reply_to content to a) (of_reply content to) _)
of_from node from to (Final id extras) = of_found (λ a. ending_for node.held extras to a) (of_ending node.held extras to) _
of_from node from to (State links) = either _ _ [] (one _ (λ h. refl)) none
of_from node from to (Step source number added decl) = either _ _ [] (one _ (λ h. refl)) none
of_from node from to (Snap source number decls) = either _ _ [] (one _ (λ h. refl)) none

of_first : (node : NodeState) (event : Event) (to : LinkNo) → IsUnheard (sends_first node event to)
of_first node (Up link peer) to = of_up node link.0 peer peer.role to.0
of_first node (Down link) to =
    both (sends_ends node.pending node.held link.0 to.0) _
    (of_each (λ a. ending_for node.held no_extras to.0 a) (of_ending node.held no_extras to.0) _)
    (both (sends_down node link.0 (link_at node.links link.0) to.0) _ (of_down node link.0 to.0 (link_at node.links link.0)) (of_rows node (rows_left node link.0) to.0))
of_first node (From link msg) to = of_from node link.0 to.0 msg

pub own_unheard : (node : NodeState) (event : Event) (to : LinkNo) → IsUnheard (sends node event to)
own_unheard node event to =
    both (sends_first node event to) _ (of_first node event to) (of_snapshots (tables (after node event)) node.base.records to.0)
