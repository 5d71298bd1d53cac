-- What a router sends where it handles a sample, link by link, and in which tree. A message that leaves its tables as they are makes no new
-- children. A client's sample goes along the router's own tree, and a router's along the tree that it names, where it comes from the parent
-- there; to a router that it goes on to it goes once, and that one is a child; to a client it goes once where the client subscribes and
-- isn't the publisher.
use Rattle.std.proofs.Common.{◌≡◌, ℕ, Bool, true, false, cond, ◌&&◌, not, List, [], ◌∷◌, ◌++◌, Option, Some, None, is_some, refl, sym, ap, ◌∙◌, append-nil, subst}
use Rattle.std.specs.Prelude.{◌==◌}
use Rattle.std.specs.List.{cons_option, list_all, list_any}
use Rattle.std.proofs.lemmas.List.Elements.{filter_map-append}
use Rattle.std.specs.Option.{option_map_or}
use Rattle.std.specs.Ordering.{is_eq, nat_cmp}
use Rattle.std.specs.Cmp.Lexicographic.{slice_cmp}
use Rattle.std.proofs.lemmas.Bool.{false≢true, and_parts, and_from}
use Rattle.zr_id.specs.Zid.{is_named}
use Rattle.zr_id.specs.declared.link.LinkNo.{LinkNo}
use Rattle.zr_tree.specs.Tree.{parent, is_child, below, reached, toward}
use Rattle.zr_lists.proofs.Finds.{find_in, any_in, in_any}
use Rattle.zr_graph.proofs.Names.{same_is, same_refl}
use Rattle.zr_msg.specs.declared.content.Parts.{Parts}
use Rattle.zr_msg.specs.declared.msg.Msg.{Msg}
use Rattle.zr_msg.specs.declared.decl.Decl.{Decl}
use Rattle.zr_msg.specs.declared.msg.Msg.TheVariants.{Push, Request, Final}
use Rattle.zr_local.specs.declared.row.Row.{Row}
use Rattle.zr_pend_spec.specs.Pending.{free_number}
use Rattle.zr_msg.specs.declared.event.Event.TheVariants.{From}
use Rattle.zr_msg.specs.declared.peer.LinkPeer.{LinkPeer}
use Rattle.zr_msg.specs.declared.peer.Role.{Role}
use Rattle.zr_msg.specs.declared.peer.Role.TheVariants.{Client, Router}
use Rattle.zr_log.specs.declared.log.Log.{Log}
use Rattle.zr_log.specs.Known.{log_of, decls}
use Rattle.zr_node_spec.specs.Tables.{TableState, is_router, link_at, link_to, graph}
use Rattle.zr_node_spec.specs.Samples.{is_for, subscribes, is_toward, leads_to_source, leads_to_subscriber, named_tree, tree_by, tree_of, push_to, push_on, push_along}
use Rattle.zr_node_spec.specs.Snapshots.{sends_snapshots}
use Rattle.zr_node_spec.specs.Queries.{can_answer, leads_to_queryable, is_asked, asked_links, tree_for, request_to, request_along, final_at_once, sends_request}
use Rattle.zr_node_spec.specs.State.{NodeState, tables}
use Rattle.zr_node_spec.specs.Table.{sends_from, sends, after_from}
use Rattle.zr_node_spec.proofs.NoNewChildren.{no_new_children}
use Rattle.zr_msg.specs.declared.msg.Target.{Target}
use Rattle.zr_guarantee.specs.Item.{Carried, Sample, Query}
use Rattle.zr_guarantee.specs.Sent.{carried_by}
use Rattle.zr_lists.proofs.Tests.{all_both}
use Rattle.zr_law_settled.proofs.Answering.{at_once_all, request_all}
use Rattle.zr_law_samples.proofs.Carried.{carried_in, none_carried, all_pass}
use Rattle.zr_law_samples.proofs.Idle.{idle}
use Rattle.zr_world_spec.specs.World.{unsettles}
use Rattle.zr_world_spec.specs.Acts.{sends_to}

-- ---- tables that stay

module _ (node : NodeState) (l : LinkNo) (msg : Msg) (same : idle (after_from node l.0 msg) ≡ idle node) where
  sends_only : (to : LinkNo) → sends node (From l msg) to ≡ sends_from node l.0 msg to.0
  sends_only to =
      ap (λ z. sends_from node l.0 msg to.0 ++ sends_snapshots (tables z) node.base.records to.0) same
      ∙ ap (λ z. sends_from node l.0 msg to.0 ++ z) (no_new_children (tables node) node.base.records refl to.0) ∙ append-nil (sends_from node l.0 msg to.0)

  -- what goes to a neighbour
  pub goes_to : (name : List ℕ) → sends_to node (From l msg) name ≡ option_map_or (λ k. sends_from node l.0 msg k.link.0) (link_to node.links name) []
  goes_to name = ap (λ z. option_map_or (λ k. sends node (From l msg) k.link) (link_to z.links name) []) same ∙ by (link_to node.links name)
    where
      by : (o : Option LinkPeer) → option_map_or (λ k. sends node (From l msg) k.link) o [] ≡ option_map_or (λ k. sends_from node l.0 msg k.link.0) o []
      by None = refl
      by (Some k) = sends_only k.link

  -- what holds of all that goes on over any link holds of what goes to a neighbour
  pub goes_on : (P : List Msg → Type 0) → P [] → ((to : ℕ) → P (sends_from node l.0 msg to)) → (name : List ℕ) → P (sends_to node (From l msg) name)
  goes_on P none each name = subst P (sym (goes_to name)) (by (link_to node.links name))
    where
      by : (o : Option LinkPeer) → P (option_map_or (λ k. sends_from node l.0 msg k.link.0) o [])
      by None = none
      by (Some k) = each k.link.0

-- ---- in which tree

module _ (t : TableState) (named : Option (List ℕ)) (j : LinkPeer) where
  pub tree_from_client : (o : Option LinkPeer) → o ≡ Some j → is_router j.peer.role ≡ false → tree_of t o named ≡ Some t.base.me
  tree_from_client o at k = ap (λ z. tree_of t z named) at ∙ by j.peer.role k
    where
      by : (role : Role) → is_router role ≡ false → tree_by t j role named ≡ Some t.base.me
      by Client k = refl
      by Router k = absurd (false≢true (sym k))

  pub tree_from_parent : (o : Option LinkPeer) → o ≡ Some j → is_router j.peer.role ≡ true → (root : List ℕ) → named ≡ Some root → parent (graph t) root t.base.me ≡ Some j.peer.id → tree_of t o named ≡ Some root
  tree_from_parent o at k root is_tree from = ap (λ z. tree_of t z named) at ∙ by j.peer.role k
    where
      by : (role : Role) → is_router role ≡ true → tree_by t j role named ≡ Some root
      by Client k = absurd (false≢true k)
      by Router k =
          ap (named_tree t j.peer.id) is_tree
          ∙ ap (λ o. cond (option_map_or (λ p. is_named p j.peer.id) o false) (Some root) None) from
          ∙ ap (λ b. cond b (Some root) None) (same_refl j.peer.id)

-- ---- to whom

-- a declaration takes what is carried: one of a subscriber whose expression meets a sample's key, or one of a queryable that can answer a query
abbrev pub takes_it : Carried → Decl → Bool
takes_it (Sample content) d = is_for content.key d
takes_it (Query target content) d = can_answer target content.key d

-- the client of a link has declared one that does, and the clients of a log's router have
abbrev pub asks_it : List Row → ℕ → Carried → Bool
asks_it rows link carried = list_any (λ r. r.link.0 == link && takes_it carried r.decl) rows

abbrev pub has_taker : Carried → Log → Bool
has_taker carried log = list_any (λ d. takes_it carried d) log.decls

-- whether what is carried goes on over a link along a tree
abbrev pub goes_over : TableState → ℕ → List ℕ → Carried → LinkPeer → Role → Bool
goes_over t from root carried l Client = not (l.link.0 == from) && asks_it t.rows l.link.0 carried
goes_over t from root carried l Router = leads_to_source t root (has_taker carried) l.peer.id

module _ (t : TableState) (root : List ℕ) (test : Log → Bool) where
  -- a neighbour on the way to a source is a child
  pub leads_to_child : (name : List ℕ) → leads_to_source t root test name ≡ true → is_child (graph t) root t.base.me name ≡ true
  leads_to_child name h =
      let found = any_in (λ log. test log && (reached (graph t) t.base.me log.source && is_toward t root log.source name)) t.known.logs h in
      let parts = and_parts (test found.0) (reached (graph t) t.base.me found.0.source && is_toward t root found.0.source name) found.2 in
      let on_way = and_parts (reached (graph t) t.base.me found.0.source) (is_toward t root found.0.source name) parts.1 in
      by found.0.source (toward (graph t) root t.base.me found.0.source) refl on_way.1
    where
      by : (dest : List ℕ) (o : Option (List ℕ)) → toward (graph t) root t.base.me dest ≡ o → option_map_or (λ y. is_named y name) o false ≡ true → is_child (graph t) root t.base.me name ≡ true
      by dest None e h = absurd (false≢true h)
      by dest (Some y) e h =
          let f = find_in (λ z. is_child (graph t) root t.base.me z && below (graph t) root z dest) (graph t).names y e in
          ap (is_child (graph t) root t.base.me) (sym (same_is y name h)) ∙ (and_parts (is_child (graph t) root t.base.me y) (below (graph t) root y dest) f.1).0

-- the next one toward a router that is reached and whose clients take it is on the way
pub leads_there : (t : TableState) (root : List ℕ) (carried : Carried) (dest name : List ℕ) → list_any (λ d. takes_it carried d) (decls t.known dest) ≡ true → reached (graph t) t.base.me dest ≡ true →
    toward (graph t) root t.base.me dest ≡ Some name → leads_to_source t root (has_taker carried) name ≡ true
leads_there t root carried dest name has reaches next = by (log_of t.known dest) refl has
  where
    by : (o : Option Log) → log_of t.known dest ≡ o → list_any (λ d. takes_it carried d) (option_map_or (λ l. l.decls) o []) ≡ true → leads_to_source t root (has_taker carried) name ≡ true
    by None e h = absurd (false≢true h)
    by (Some log) e h =
        let f = find_in (λ (x : Log). is_eq (slice_cmp nat_cmp x.source dest)) t.known.logs log e in
        let source_is : log.source ≡ dest = same_is log.source dest f.1 in
        in_any (λ z. has_taker carried z && (reached (graph t) t.base.me z.source && is_toward t root z.source name)) t.known.logs log f.0
        (and_from (has_taker carried log) (reached (graph t) t.base.me log.source && is_toward t root log.source name) h
        (and_from (reached (graph t) t.base.me log.source) (is_toward t root log.source name)
        (ap (reached (graph t) t.base.me) source_is ∙ reaches)
        (ap (λ z. option_map_or (λ y. is_named y name) (toward (graph t) root t.base.me z) false) source_is ∙ ap (λ o. option_map_or (λ y. is_named y name) o false) next ∙ same_refl name)))

-- ---- a sample

-- what goes to a neighbour with a link, along a tree
pub goes_along : (node : NodeState) (l : LinkNo) (tree : Option (List ℕ)) (content : Parts) (root : List ℕ) → tree_of (tables node) (link_at node.links l.0) tree ≡ Some root →
    (name : List ℕ) (k : LinkPeer) → link_to node.links name ≡ Some k → link_at node.links k.link.0 ≡ Some k →
    sends_to node (From l (Push tree content)) name ≡ push_to (tables node) l.0 root content k k.peer.role
goes_along node l tree content root in_tree name k found at =
    goes_to node l (Push tree content) refl name
    ∙ ap (λ o. option_map_or (λ (z : LinkPeer). sends_from node l.0 (Push tree content) z.link.0) o []) found
    ∙ ap (λ o. push_along (tables node) l.0 o content k.link.0) in_tree
    ∙ ap (push_on (tables node) l.0 root content) at

-- a message is a sample or a request in a tree
abbrev pub names_tree : List ℕ → Msg → Bool
names_tree root (Push (Some tree) content) = is_named root tree
names_tree root (Request (Some tree) number target content) = is_named root tree
names_tree root other = false

-- what a router sends of a sample or a request, to a neighbour with a link, along a tree: what it carries, where it goes over the link, and to a
-- router in that tree
pub record Goes (node : NodeState) (l : LinkNo) (msg : Msg) (carried : Carried) : Type 0 where
  pub tree : Option (List ℕ)
  pub tree_is : (root : List ℕ) → names_tree root msg ≡ true → tree ≡ Some root
  pub carries : (root : List ℕ) → tree_of (tables node) (link_at node.links l.0) tree ≡ Some root → (name : List ℕ) (k : LinkPeer) → link_to node.links name ≡ Some k → link_at node.links k.link.0 ≡ Some k →
      carried_in (sends_to node (From l msg) name) ≡ cond (goes_over (tables node) l.0 root carried k k.peer.role) (carried ∷ []) []
  pub passes : (root : List ℕ) → tree_of (tables node) (link_at node.links l.0) tree ≡ Some root → (name : List ℕ) (k : LinkPeer) → link_to node.links name ≡ Some k → link_at node.links k.link.0 ≡ Some k →
      is_router k.peer.role ≡ true → (t : Msg → Bool) → ((z : Msg) → carried_by z ≡ None → t z ≡ true) →
      (goes_over (tables node) l.0 root carried k Router ≡ true → (z : Msg) → names_tree root z ≡ true → t z ≡ true) → list_all t (sends_to node (From l msg) name) ≡ true
  pub nowhere : (name : List ℕ) → link_to node.links name ≡ None → sends_to node (From l msg) name ≡ []

one_carried : (b : Bool) (z : Msg) (carried : Carried) → carried_by z ≡ Some carried → carried_in (cond b (z ∷ []) []) ≡ cond b (carried ∷ []) []
one_carried true z carried e = ap (λ o. cons_option o []) e
one_carried false z carried e = refl

one_passes : (t : Msg → Bool) (b : Bool) (z : Msg) → (b ≡ true → t z ≡ true) → list_all t (cond b (z ∷ []) []) ≡ true
one_passes t true z h = and_from (t z) true (h refl) refl
one_passes t false z h = refl

pub push_goes : (node : NodeState) (l : LinkNo) (tree : Option (List ℕ)) (content : Parts) → Goes node l (Push tree content) (Sample content)
push_goes node l tree content = record {
  tree = tree;
  tree_is = names tree;
  carries = λ root in_tree name k found at. ap carried_in (goes_along node l tree content root in_tree name k found at) ∙ by root k k.peer.role;
  passes = λ root in_tree name k found at router t none on.
      ap (list_all t) (goes_along node l tree content root in_tree name k found at) ∙ to_router root k t on k.peer.role router;
  nowhere = λ name none. goes_to node l (Push tree content) refl name ∙ ap (λ o. option_map_or (λ (z : LinkPeer). sends_from node l.0 (Push tree content) z.link.0) o []) none;
}
  where
    names : (tree : Option (List ℕ)) (root : List ℕ) → names_tree root (Push tree content) ≡ true → tree ≡ Some root
    names None root h = absurd (false≢true h)
    names (Some t) root h = ap Some (sym (same_is root t h))

    by : (root : List ℕ) (k : LinkPeer) (role : Role) → carried_in (push_to (tables node) l.0 root content k role) ≡ cond (goes_over (tables node) l.0 root (Sample content) k role) (Sample content ∷ []) []
    by root k Client = one_carried (not (k.link.0 == l.0) && subscribes node.rows k.link.0 content.key) (Push None content) (Sample content) refl
    by root k Router = one_carried (leads_to_subscriber (tables node) root content.key k.peer.id) (Push (Some root) content) (Sample content) refl

    to_router : (root : List ℕ) (k : LinkPeer) (t : Msg → Bool) → (goes_over (tables node) l.0 root (Sample content) k Router ≡ true → (z : Msg) → names_tree root z ≡ true → t z ≡ true) → (role : Role) → is_router role ≡ true →
        list_all t (push_to (tables node) l.0 root content k role) ≡ true
    to_router root k t on Client r = absurd (false≢true r)
    to_router root k t on Router r = one_passes t (leads_to_subscriber (tables node) root content.key k.peer.id) (Push (Some root) content) (λ e. on e (Push (Some root) content) (same_refl root))

pub request_goes : (node : NodeState) (l : LinkNo) (tree : Option (List ℕ)) (number : ℕ) (target : Target) (content : Parts) → Goes node l (Request tree number target content) (Query target content)
request_goes node l tree number target content = record {
  tree = tree;
  tree_is = names tree;
  carries = λ root in_tree name k found at.
      ap carried_in (to_link root in_tree name k found at) ∙ filter_map-append carried_by (at_once k.link.0) (request_to (tables node) node.pending l.0 root target content k)
      ∙ ap (λ z. z ++ carried_in (request_to (tables node) node.pending l.0 root target content k)) (none_carried (at_once k.link.0) (at_once_all (λ z. carried_by z ≡ None) (λ n e. refl) l.0 number asked k.link.0))
      ∙ one_carried (is_asked (tables node) l.0 root target content.key k k.peer.role) (Request (tree_for root k.peer.role) (free_number k.link node.pending) target content) (Query target content) refl
      ∙ ap (λ b. cond b (Query target content ∷ []) []) (same_test root k k.peer.role);
  passes = λ root in_tree name k found at router t none on.
      ap (list_all t) (to_link root in_tree name k found at)
      ∙ all_both t (at_once k.link.0) (request_to (tables node) node.pending l.0 root target content k)
      (all_pass t (at_once k.link.0) (at_once_all (λ z. t z ≡ true) (λ n e. none (Final n e) refl) l.0 number asked k.link.0))
      (to_router root k t on k.peer.role router);
  nowhere = λ name none. goes_to node l (Request tree number target content) refl name ∙ ap (λ o. option_map_or (λ (z : LinkPeer). sends_from node l.0 (Request tree number target content) z.link.0) o []) none;
}
  where
    asked : List LinkNo
    asked = asked_links (tables node) l.0 tree target content.key

    at_once : ℕ → List Msg
    at_once to = final_at_once l.0 number asked to

    names : (tree : Option (List ℕ)) (root : List ℕ) → names_tree root (Request tree number target content) ≡ true → tree ≡ Some root
    names None root h = absurd (false≢true h)
    names (Some t) root h = ap Some (sym (same_is root t h))

    to_link : (root : List ℕ) → tree_of (tables node) (link_at node.links l.0) tree ≡ Some root → (name : List ℕ) (k : LinkPeer) → link_to node.links name ≡ Some k → link_at node.links k.link.0 ≡ Some k →
        sends_to node (From l (Request tree number target content)) name ≡ at_once k.link.0 ++ request_to (tables node) node.pending l.0 root target content k
    to_link root in_tree name k found at =
        goes_to node l (Request tree number target content) refl name
        ∙ ap (λ o. option_map_or (λ (z : LinkPeer). sends_from node l.0 (Request tree number target content) z.link.0) o []) found
        ∙ ap (λ o. at_once k.link.0 ++ request_along (tables node) node.pending l.0 o target content k.link.0) in_tree
        ∙ ap (λ o. at_once k.link.0 ++ option_map_or (λ (z : LinkPeer). request_to (tables node) node.pending l.0 root target content z) o []) at

    same_test : (root : List ℕ) (k : LinkPeer) (role : Role) → is_asked (tables node) l.0 root target content.key k role ≡ goes_over (tables node) l.0 root (Query target content) k role
    same_test root k Client = refl
    same_test root k Router = refl

    to_router : (root : List ℕ) (k : LinkPeer) (t : Msg → Bool) → (goes_over (tables node) l.0 root (Query target content) k Router ≡ true → (z : Msg) → names_tree root z ≡ true → t z ≡ true) → (role : Role) → is_router role ≡ true →
        list_all t (cond (is_asked (tables node) l.0 root target content.key k role) (Request (tree_for root role) (free_number k.link node.pending) target content ∷ []) []) ≡ true
    to_router root k t on Client r = absurd (false≢true r)
    to_router root k t on Router r = one_passes t (leads_to_queryable (tables node) root target content.key k.peer.id) (Request (Some root) (free_number k.link node.pending) target content)
        (λ e. on e (Request (Some root) (free_number k.link node.pending) target content) (same_refl root))

-- of each message that carries something
pub goes_of : (node : NodeState) (l : LinkNo) (msg : Msg) (carried : Carried) → carried_by msg ≡ Some carried → Goes node l msg carried
goes_of node l (Push tree content) carried e = let same : Sample content ≡ carried = cc in subst (λ (x : Carried). Goes node l (Push tree content) x) same (push_goes node l tree content)
goes_of node l (Request tree number target content) carried e =
    let same : Query target content ≡ carried = cc in subst (λ (x : Carried). Goes node l (Request tree number target content) x) same (request_goes node l tree number target content)
goes_of node l other carried e = absurd (false≢true (ap is_some e))

-- over a link to a client, and over one to a router
module _ (t : TableState) (from : ℕ) (root : List ℕ) (carried : Carried) (k : LinkPeer) where
  pub over_client : (role : Role) → is_router role ≡ false → goes_over t from root carried k role ≡ (not (k.link.0 == from) && asks_it t.rows k.link.0 carried)
  over_client Client h = refl
  over_client Router h = absurd (false≢true (sym h))

  pub over_router : (role : Role) → is_router role ≡ true → goes_over t from root carried k role ≡ leads_to_source t root (has_taker carried) k.peer.id
  over_router Client h = absurd (false≢true h)
  over_router Router h = refl

-- nothing that a router sends of a sample unsettles
pub calm_sent : (node : NodeState) (l : LinkNo) (tree : Option (List ℕ)) (content : Parts) (name : List ℕ) → list_all (λ z. not (unsettles z)) (sends_to node (From l (Push tree content)) name) ≡ true
calm_sent node l tree content name = ap (list_all (λ z. not (unsettles z))) (goes_to node l (Push tree content) refl name) ∙ by (link_to node.links name)
  where
    one : (t : Option (List ℕ)) (b : Bool) → list_all (λ z. not (unsettles z)) (cond b (Push t content ∷ []) []) ≡ true
    one t true = refl
    one t false = refl

    by_role : (root : List ℕ) (k : LinkPeer) (role : Role) → list_all (λ z. not (unsettles z)) (push_to (tables node) l.0 root content k role) ≡ true
    by_role root k Client = one None (not (k.link.0 == l.0) && subscribes node.rows k.link.0 content.key)
    by_role root k Router = one (Some root) (leads_to_subscriber (tables node) root content.key k.peer.id)

    by_link : (root : List ℕ) (o : Option LinkPeer) → list_all (λ z. not (unsettles z)) (push_on (tables node) l.0 root content o) ≡ true
    by_link root None = refl
    by_link root (Some k) = by_role root k k.peer.role

    by_tree : (to : ℕ) (o : Option (List ℕ)) → list_all (λ z. not (unsettles z)) (push_along (tables node) l.0 o content to) ≡ true
    by_tree to None = refl
    by_tree to (Some root) = by_link root (link_at node.links to)

    by : (o : Option LinkPeer) → list_all (λ z. not (unsettles z)) (option_map_or (λ k. sends_from node l.0 (Push tree content) k.link.0) o []) ≡ true
    by None = refl
    by (Some k) = by_tree k.link.0 (tree_of (tables node) (link_at node.links l.0) tree)

-- nor does anything of a request
pub calm_asked : (node : NodeState) (l : LinkNo) (tree : Option (List ℕ)) (number : ℕ) (target : Target) (content : Parts) (name : List ℕ) →
    list_all (λ z. not (unsettles z)) (sends_to node (From l (Request tree number target content)) name) ≡ true
calm_asked node l tree number target content name = goes_on node l (Request tree number target content) refl (λ ms. list_all (λ z. not (unsettles z)) ms ≡ true) refl
    (λ to. all_pass (λ z. not (unsettles z)) (sends_request (tables node) node.pending l.0 tree number target content to)
    (request_all (λ z. not (unsettles z) ≡ true) (λ n e. refl) (λ t n g c. refl) (tables node) node.pending l.0 tree number target content to)) name
