-- What a router sends is the same without the names of its clients.
use Rattle.std.proofs.Common.{◌≡◌, ℕ, cond, not, List, [], ◌∷◌, ◌++◌, Option, Some, None, refl, ap, ◌∙◌}
use Rattle.std.specs.Prelude.{◌==◌, ◌&&◌}
use Rattle.std.specs.Option.{option_map}
use Rattle.zr_id.specs.Record.{RecordState}
use Rattle.zr_id.specs.declared.link.LinkNo.{LinkNo}
use Rattle.zr_graph.specs.Base.{BaseState, is_newer}
use Rattle.zr_log.specs.Known.{position, is_next, is_newer as is_newer_log}
use Rattle.zr_log.specs.Log.{Change}
use Rattle.zr_local.specs.Rows.{Key, declared, undeclared, left}
use Rattle.zr_local.specs.declared.row.Row.{Row}
use Rattle.zr_msg.specs.declared.content.Parts.{Parts}
use Rattle.zr_msg.specs.declared.decl.Decl.{Decl}
use Rattle.zr_msg.specs.declared.event.Event.{Event}
use Rattle.zr_msg.specs.declared.event.Event.TheVariants.{Up, Down, From}
use Rattle.zr_msg.specs.declared.msg.Msg.{Msg}
use Rattle.zr_msg.specs.declared.msg.Msg.TheVariants.{Sub, Unsub, Token, Untoken, Able, Unable, Interest, EndInterest, ToldSub, ToldAble, ToldUnsub, ToldToken, ToldUntoken, ToldUnable, ToldEnd, Push, Request, Response, Final, State, Step, Snap}
use Rattle.zr_msg.specs.declared.msg.Target.{Target}
use Rattle.zr_msg.specs.declared.peer.LinkPeer.{LinkPeer}
use Rattle.zr_msg.specs.declared.peer.Role.{Role}
use Rattle.zr_msg.specs.declared.peer.Role.TheVariants.{Client, Router}
use Rattle.zr_msg.specs.Peer.{PeerState}
use Rattle.zr_msg.specs.declared.decl.Kind.TheVariants as kind
use Rattle.zr_pend_spec.specs.Pending.{free_number}
use Rattle.zr_pend_spec.specs.Row.{RowState}
use Rattle.zr_node_spec.specs.Tables.{TableState, is_router, link_at, leads_to_router, is_to_child}
use Rattle.zr_node_spec.specs.State.{NodeState, tables}
use Rattle.zr_node_spec.specs.Changes.{steps, changes, sends_changes}
use Rattle.zr_node_spec.specs.Samples.{tree_of, push_to, push_on, push_along, sends_push}
use Rattle.zr_node_spec.specs.Queries.{is_asked, links_along, asked_links, tree_for, request_to, request_along, final_at_once, sends_request, sends_ends}
use Rattle.zr_node_spec.specs.Snapshots.{snapshots_for, snapshots_on, sends_snapshots, sends_step, sends_snap}
use Rattle.zr_node_spec.specs.Table.{able_kind, row, key_of, own_link, joined, parted, rows_declared, rows_undeclared, rows_left, sends_rows, is_other_router, own_record, all_records, sends_own, sends_up, sends_parted, sends_down, sends_state, sends_from, sends_first}
use Rattle.zr_law_names.specs.Names.{name_of, weight_of, nameless_link, nameless_event, nameless_node}
use Rattle.zr_law_names.proofs.Links.{at_role, at_same, read_same, leads_router, leads_client, kept, plain, child_same, tree_same}

-- ---- by tables

module _ (t : TableState) where
  pub changes_sent : (cs : List Change) (to : ℕ) → sends_changes (plain t) cs to ≡ sends_changes t cs to
  changes_sent cs to = ap (λ b. cond b (steps t.base.me (position t.known t.base.me) cs) []) (child_same t t.base.me to)

  pub step_sent : (from : ℕ) (source : List ℕ) (number : ℕ) (c : Change) (to : ℕ) → sends_step (plain t) from source number c to ≡ sends_step t from source number c to
  step_sent from source number c to =
      ap (λ b. cond (b && (is_next t.known source number && is_to_child (plain t) source to)) (Step source number c.added c.decl ∷ []) []) (leads_router t.links from)
      ∙ ap (λ b. cond (leads_to_router t.links from && (is_next t.known source number && b)) (Step source number c.added c.decl ∷ []) []) (child_same t source to)

  pub snap_sent : (from : ℕ) (source : List ℕ) (number : ℕ) (decls : List Decl) (to : ℕ) → sends_snap (plain t) from source number decls to ≡ sends_snap t from source number decls to
  snap_sent from source number decls to =
      ap (λ b. cond (b && (is_newer_log t.known source number && is_to_child (plain t) source to)) (Snap source number decls ∷ []) []) (leads_router t.links from)
      ∙ ap (λ b. cond (leads_to_router t.links from && (is_newer_log t.known source number && b)) (Snap source number decls ∷ []) []) (child_same t source to)

  pub snapshots_sent : (before : List RecordState) (to : ℕ) → sends_snapshots (plain t) before to ≡ sends_snapshots t before to
  snapshots_sent before to = read_same (λ l. snapshots_on (plain t) before l) (λ l. snapshots_on t before l) [] (λ l. by l l.peer.role) t.links to
    where
      by : (l : LinkPeer) (r : Role) → cond (is_router r) (snapshots_for t before (name_of l.peer.id r)) [] ≡ cond (is_router r) (snapshots_for t before l.peer.id) []
      by l Client = refl
      by l Router = refl

  pub push_sent : (from : ℕ) (named : Option (List ℕ)) (content : Parts) (to : ℕ) → sends_push (plain t) from named content to ≡ sends_push t from named content to
  push_sent from named content to = ap (λ o. push_along (plain t) from o content to) (tree_same t from named) ∙ along (tree_of t (link_at t.links from) named)
    where
      one : (tree : List ℕ) (l : LinkPeer) (r : Role) → push_to (plain t) from tree content (at_role l r) r ≡ push_to t from tree content l r
      one tree l Client = refl
      one tree l Router = refl

      on : (tree : List ℕ) (o : Option LinkPeer) → push_on (plain t) from tree content (option_map nameless_link o) ≡ push_on t from tree content o
      on tree None = refl
      on tree (Some l) = one tree l l.peer.role

      along : (o : Option (List ℕ)) → push_along (plain t) from o content to ≡ push_along t from o content to
      along None = refl
      along (Some tree) = ap (λ o. push_on (plain t) from tree content o) (at_same t.links to) ∙ on tree (link_at t.links to)

  -- ---- requests

  asked_on : (from : ℕ) (tree : List ℕ) (target : Target) (key : List ℕ) (l : LinkPeer) (r : Role) → is_asked (plain t) from tree target key (at_role l r) r ≡ is_asked t from tree target key l r
  asked_on from tree target key l Client = refl
  asked_on from tree target key l Router = refl

  pub asked_same : (from : ℕ) (named : Option (List ℕ)) (target : Target) (key : List ℕ) → asked_links (plain t) from named target key ≡ asked_links t from named target key
  asked_same from named target key = ap (λ o. links_along (plain t) from o target key) (tree_same t from named) ∙ along (tree_of t (link_at t.links from) named)
    where
      along : (o : Option (List ℕ)) → links_along (plain t) from o target key ≡ links_along t from o target key
      along None = refl
      along (Some tree) = kept (λ l. l.link) (λ l. is_asked (plain t) from tree target key l l.peer.role) (λ l. is_asked t from tree target key l l.peer.role) (λ l. refl)
          (λ l. asked_on from tree target key l l.peer.role) t.links

  pub request_sent : (pending : List RowState) (from : ℕ) (named : Option (List ℕ)) (number : ℕ) (target : Target) (content : Parts) (to : ℕ) →
      sends_request (plain t) pending from named number target content to ≡ sends_request t pending from named number target content to
  request_sent pending from named number target content to =
      ap (λ ls. final_at_once from number ls to ++ request_along (plain t) pending from (tree_of (plain t) (link_at (plain t).links from) named) target content to) (asked_same from named target content.key)
      ∙ ap (λ z. final_at_once from number (asked_links t from named target content.key) to ++ z)
      (ap (λ o. request_along (plain t) pending from o target content to) (tree_same t from named) ∙ along (tree_of t (link_at t.links from) named))
    where
      one : (tree : List ℕ) (l : LinkPeer) → request_to (plain t) pending from tree target content (nameless_link l) ≡ request_to t pending from tree target content l
      one tree l = ap (λ b. cond b (Request (tree_for tree l.peer.role) (free_number l.link pending) target content ∷ []) []) (asked_on from tree target content.key l l.peer.role)

      along : (o : Option (List ℕ)) → request_along (plain t) pending from o target content to ≡ request_along t pending from o target content to
      along None = refl
      along (Some tree) = read_same (λ l. request_to (plain t) pending from tree target content l) (λ l. request_to t pending from tree target content l) [] (one tree) t.links to

-- ---- by the router

module _ (n : NodeState) where
  abbrev pub node : NodeState
  node = nameless_node n

  pub declared_rows : (from : ℕ) (r : Row) → rows_declared node from r ≡ rows_declared n from r
  declared_rows from r = ap (λ b. cond b (declared n.rows r) n.rows) (leads_client n.links from)

  pub undeclared_rows : (from : ℕ) (k : Key) → rows_undeclared node from k ≡ rows_undeclared n from k
  undeclared_rows from k = ap (λ b. cond b (undeclared n.rows k) n.rows) (leads_client n.links from)

  pub left_rows : (from : ℕ) → rows_left node from ≡ rows_left n from
  left_rows from = ap (λ b. cond b (left n.rows from) n.rows) (leads_client n.links from)

  rows_sent : (rows others : List Row) (to : ℕ) → rows ≡ others → sends_rows node rows to ≡ sends_rows n others to
  rows_sent rows others to e = ap (λ z. sends_rows node z to) e ∙ changes_sent (tables n) (changes n.rows others) to

  other_same : (from to : ℕ) → is_other_router node from to ≡ is_other_router n from to
  other_same from to = ap (λ b. not (to == from) && b) (leads_router n.links to)

  own_sent : (from : ℕ) (b : BaseState) (to : ℕ) → sends_own node from b to ≡ sends_own n from b to
  own_sent from b to = ap (λ z. cond z (own_record b) []) (other_same from to)

  state_sent : (from : ℕ) (told : RecordState) (to : ℕ) → sends_state node from told to ≡ sends_state n from told to
  state_sent from told to =
      ap (λ b. cond (b && is_newer n.base told && is_other_router node from to) (State told ∷ []) []) (leads_router n.links from)
      ∙ ap (λ b. cond (leads_to_router n.links from && is_newer n.base told && b) (State told ∷ []) []) (other_same from to)

  from_sent : (from : ℕ) (msg : Msg) (to : ℕ) → sends_from node from msg to ≡ sends_from n from msg to
  from_sent from (Sub id key) to = rows_sent _ _ to (declared_rows from (row from id kind.Sub key))
  from_sent from (Unsub id) to = rows_sent _ _ to (undeclared_rows from (key_of from id kind.Sub))
  from_sent from (Token id key) to = rows_sent _ _ to (declared_rows from (row from id kind.Token key))
  from_sent from (Untoken id) to = rows_sent _ _ to (undeclared_rows from (key_of from id kind.Token))
  from_sent from (Able id key complete) to = rows_sent _ _ to (declared_rows from (row from id (able_kind complete) key))
  from_sent from (Unable id) to = rows_sent _ _ to (undeclared_rows from (key_of from id kind.Able))
  from_sent from (Interest id current future kinds key aggregate) to = refl
  from_sent from (EndInterest id) to = refl
  from_sent from (ToldSub id key interest) to = refl
  from_sent from (ToldToken id key interest) to = refl
  from_sent from (ToldAble id key complete interest) to = refl
  from_sent from (ToldUnsub id) to = refl
  from_sent from (ToldUntoken id) to = refl
  from_sent from (ToldUnable id) to = refl
  from_sent from (ToldEnd interest) to = refl
  from_sent from (Push tree content) to = push_sent (tables n) from tree content to
  from_sent from (Request tree id target content) to = request_sent (tables n) n.pending from tree id target content to
  from_sent from (Response id content) to = refl
  from_sent from (Final id extras) to = refl
  from_sent from (State links) to = state_sent from links to
  from_sent from (Step source number added decl) to = step_sent (tables n) from source number (record { added = added; decl = decl }) to
  from_sent from (Snap source number decls) to = snap_sent (tables n) from source number decls to

  up_sent : (link : ℕ) (peer : PeerState) (r : Role) (to : ℕ) → sends_up node link (record { id = name_of peer.id r; role = peer.role; weight = weight_of peer.weight r }) r to ≡ sends_up n link peer r to
  up_sent link peer Client to = refl
  up_sent link peer Router to = ap (λ z. cond (to == link) (all_records (joined n.base (own_link peer))) z) (own_sent link (joined n.base (own_link peer)) to)

  parted_sent : (link : ℕ) (peer : PeerState) (r : Role) (to : ℕ) →
      sends_parted node link (record { id = name_of peer.id r; role = peer.role; weight = weight_of peer.weight r }) r to ≡ sends_parted n link peer r to
  parted_sent link peer Client to = refl
  parted_sent link peer Router to = own_sent link (parted n.base peer.id) to

  down_sent : (link to : ℕ) → sends_down node link (link_at node.links link) to ≡ sends_down n link (link_at n.links link) to
  down_sent link to = ap (λ o. sends_down node link o to) (at_same n.links link) ∙ by (link_at n.links link)
    where
      by : (o : Option LinkPeer) → sends_down node link (option_map nameless_link o) to ≡ sends_down n link o to
      by None = refl
      by (Some l) = parted_sent link l.peer l.peer.role to

  pub first_sent : (event : Event) (to : LinkNo) → sends_first node (nameless_event event) to ≡ sends_first n event to
  first_sent (Up link peer) to = up_sent link.0 peer peer.role to.0
  first_sent (Down link) to =
      ap (λ z. sends_ends n.pending n.held link.0 to.0 ++ (z ++ sends_rows node (rows_left node link.0) to.0)) (down_sent link.0 to.0)
      ∙ ap (λ z. sends_ends n.pending n.held link.0 to.0 ++ (sends_down n link.0 (link_at n.links link.0) to.0 ++ z)) (rows_sent _ _ to.0 (left_rows link.0))
  first_sent (From link msg) to = from_sent link.0 msg to.0
