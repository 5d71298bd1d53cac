-- What a router sends is of a kind by who receives it, where what came to it is (`sends_pass`): its records, changes and finals always are, its
-- snapshots since they are light, and what goes on since it came so.
use Rattle.std.proofs.Common.{◌≡◌, ℕ, ◌+◌, ◌==◌, ◌&&◌, Bool, true, false, cond, List, [], ◌∷◌, ◌++◌, Option, Some, None, is_some, map, sym, subst, arith}
use Rattle.std.specs.List.{AllByRecursion, flat_map}
use Rattle.std.specs.Option.{option_map_or}
use Rattle.zr_id.specs.Record.{RecordState}
use Rattle.zr_id.specs.declared.link.LinkNo.{LinkNo}
use Rattle.zr_graph.specs.Base.{BaseState}
use Rattle.zr_graph.specs.Record.{record_of}
use Rattle.zr_log.specs.declared.log.Log.{Log}
use Rattle.zr_log.specs.Log.{Change}
use Rattle.zr_log.specs.Known.{position, is_newer, is_next}
use Rattle.zr_local.specs.declared.row.Row.{Row}
use Rattle.zr_msg.specs.declared.content.Parts.{Parts}
use Rattle.zr_msg.specs.declared.decl.Kind.TheVariants as kind
use Rattle.zr_msg.specs.declared.msg.Msg.{Msg}
use Rattle.zr_msg.specs.declared.msg.Msg.TheVariants.{Sub, Unsub, Token, Untoken, Able, Unable, Interest, EndInterest, ToldSub, ToldAble, ToldUnsub, ToldToken, ToldUntoken, ToldUnable, ToldEnd, Push, Request, Response, Final, State, Step, Snap}
use Rattle.zr_msg.specs.declared.event.Event.{Event}
use Rattle.zr_msg.specs.declared.event.Event.TheVariants.{Up, Down, From}
use Rattle.zr_msg.specs.declared.peer.LinkPeer.{LinkPeer}
use Rattle.zr_msg.specs.Peer.{PeerState}
use Rattle.zr_msg.specs.declared.peer.Role.{Role}
use Rattle.zr_msg.specs.declared.peer.Role.TheVariants.{Client, Router}
use Rattle.zr_msg.specs.Extras.{no_extras}
use Rattle.zr_msg.specs.declared.extras.Extras.{Extras}
use Rattle.zr_msg.specs.declared.msg.Target.{Target}
use Rattle.zr_pend_spec.specs.declared.branch.Asker.{Asker}
use Rattle.zr_pend_spec.specs.Held.{GatheringState, held_for}
use Rattle.zr_pend_spec.specs.Row.{RowState}
use Rattle.zr_pend_spec.specs.Pending.{asker_of, branch, final_to, finals_of_drop, free_number}
use Rattle.zr_node_spec.specs.Queries.{asked_links, ending_for, final_at_once, final_for, held_at, held_to, is_asked, link_no, passes_reply, reply_to, request_along, request_to, sends_ends, sends_final, sends_reply, sends_request, tree_for}
use Rattle.zr_node_spec.specs.Changes.{changes, steps}
use Rattle.zr_node_spec.specs.Samples.{leads_to_subscriber, push_along, push_on, push_to, tree_of}
use Rattle.zr_node_spec.specs.Snapshots.{is_new_child, sends_snapshots, snapshot, snapshots_for, snapshots_on}
use Rattle.zr_node_spec.specs.Tables.{TableState, is_router, is_to_child, leads_to_router, link_at}
use Rattle.zr_lists.proofs.Each.{All-append}
use Rattle.zr_node_spec.specs.State.{NodeState, tables}
use Rattle.zr_node_spec.proofs.LinksStay.{links_from}
use Rattle.zr_node_spec.specs.Table.{able_kind, after, all_records, is_other_router, joined, key_of, own_link, own_record, parted, refuses, row, rows_declared, rows_left, rows_undeclared, sends, sends_down, sends_first, sends_from, sends_own, sends_parted, sends_rows, sends_up}
use Rattle.zr_law_sent.specs.Sent.{Comes, Holds, IsLight, Passes, role_at}
use Rattle.zr_law_sent.proofs.Holding.{found_held}
use Rattle.zr_law_sent.proofs.Kept.{IsKept, kept_after}
use Rattle.zr_law_sent.proofs.Logs.{logs_light}

module _ (came : Msg → Type 0) (sent : Role → Msg → Type 0) (p : Passes came sent) where
  abbrev AreSent : Role → List Msg → Type 0
  AreSent role messages = AllByRecursion (λ m. sent role m) messages

  -- each reply that is held came as one
  abbrev pub HoldsPassed : List GatheringState → Type 0
  HoldsPassed held = Holds (λ c. came (Response 0 c)) held

  either : (role : Role) (b : Bool) (xs ys : List Msg) → AreSent role xs → AreSent role ys → AreSent role (cond b xs ys)
  either role true xs ys h k = h
  either role false xs ys h k = k

  -- ---- records

  records_pass : (role : Role) (rs : List RecordState) → AreSent role (map (λ r. State r) rs)
  records_pass role [] = tt
  records_pass role (r ∷ rs) = (p.state role r, records_pass role rs)

  own_passes : (role : Role) (b : BaseState) → AreSent role (own_record b)
  own_passes role b = by (record_of b.records b.me)
    where
      by : (o : Option RecordState) → AreSent role (option_map_or (λ r. State r ∷ []) o [])
      by None = tt
      by (Some r) = (p.state role r, tt)

  told_passes : (role : Role) (node : NodeState) (from : ℕ) (b : BaseState) (to : ℕ) → AreSent role (sends_own node from b to)
  told_passes role node from b to = either role (is_other_router node from to) (own_record b) [] (own_passes role b) tt

  up_passes : (role : Role) (node : NodeState) (link : ℕ) (peer : PeerState) (of : Role) (to : ℕ) → AreSent role (sends_up node link peer of to)
  up_passes role node link peer Client to = tt
  up_passes role node link peer Router to =
      either role (to == link) (all_records (joined node.base (own_link peer))) (sends_own node link (joined node.base (own_link peer)) to)
      (records_pass role (joined node.base (own_link peer)).records) (told_passes role node link (joined node.base (own_link peer)) to)

  parted_passes : (role : Role) (node : NodeState) (link : ℕ) (peer : PeerState) (of : Role) (to : ℕ) → AreSent role (sends_parted node link peer of to)
  parted_passes role node link peer Client to = tt
  parted_passes role node link peer Router to = told_passes role node link (parted node.base peer.id) to

  down_passes : (role : Role) (node : NodeState) (link : ℕ) (o : Option LinkPeer) (to : ℕ) → AreSent role (sends_down node link o to)
  down_passes role node link None to = tt
  down_passes role node link (Some l) to = parted_passes role node link l.peer l.peer.role to

  -- ---- logs

  -- the changes of the own log are numbered from 1 on
  steps_pass : (role : Role) (source : List ℕ) (number : ℕ) (cs : List Change) → AreSent role (steps source number cs)
  steps_pass role source number [] = tt
  steps_pass role source number (c ∷ cs) = (p.step role source (number + 1) c.added c.decl (omega arith), steps_pass role source (number + 1) cs)

  rows_pass : (role : Role) (node : NodeState) (rows : List Row) (to : ℕ) → AreSent role (sends_rows node rows to)
  rows_pass role node rows to =
      let cs : List Change = changes node.rows rows in
      let all : List Msg = steps node.base.me (position node.known node.base.me) cs in
      either role (is_to_child (tables node) node.base.me to) all [] (steps_pass role node.base.me (position node.known node.base.me) cs) tt

  -- what a router knows of logs is light
  snapshots_pass : (role : Role) (t : TableState) (before : List RecordState) (to : ℕ) → AllByRecursion IsLight t.known.logs → AreSent role (sends_snapshots t before to)
  snapshots_pass role t before to light = by (link_at t.links to)
    where
      one : (b : Bool) (log : Log) → IsLight log → AreSent role (cond b (snapshot log ∷ []) [])
      one true log h = (p.snap role log h, tt)
      one false log h = tt

      all : (name : List ℕ) (logs : List Log) → AllByRecursion IsLight logs →
          AreSent role (flat_map (λ log. cond (is_new_child before t.base.records t.base.me log.source name) (snapshot log ∷ []) []) logs)
      all name [] h = tt
      all name (log ∷ logs) h =
          let b = is_new_child before t.base.records t.base.me log.source name in
          All-append (λ m. sent role m) (cond b (snapshot log ∷ []) []) (flat_map (λ log. cond (is_new_child before t.base.records t.base.me log.source name) (snapshot log ∷ []) []) logs)
          (one b log h.0) (all name logs h.1)

      by : (o : Option LinkPeer) → AreSent role (option_map_or (λ l. snapshots_on t before l) o [])
      by None = tt
      by (Some l) = either role (is_router l.peer.role) (snapshots_for t before l.peer.id) [] (all l.peer.id t.known.logs light) tt

  -- ---- samples

  push_passes : (t : TableState) (from : ℕ) (named : Option (List ℕ)) (content : Parts) (to : ℕ) → came (Push named content) →
      AreSent (role_at t.links to) (push_along t from (tree_of t (link_at t.links from) named) content to)
  push_passes t from named content to h = by (tree_of t (link_at t.links from) named)
    where
      on : (tree : List ℕ) (l : LinkPeer) (r : Role) → AreSent r (push_to t from tree content l r)
      on tree l Client = either Client _ (Push None content ∷ []) [] (p.push_on Client named tree content h, tt) tt
      on tree l Router = either Router (leads_to_subscriber t tree content.key l.peer.id) (Push (Some tree) content ∷ []) [] (p.push_on Router named tree content h, tt) tt

      over : (tree : List ℕ) (o : Option LinkPeer) → AreSent (option_map_or (λ l. l.peer.role) o Client) (push_on t from tree content o)
      over tree None = tt
      over tree (Some l) = on tree l l.peer.role

      by : (tree : Option (List ℕ)) → AreSent (role_at t.links to) (push_along t from tree content to)
      by None = tt
      by (Some tree) = over tree (link_at t.links to)

  -- ---- queries

  at_once_passes : (role : Role) (from number : ℕ) (links : List LinkNo) (to : ℕ) → AreSent role (final_at_once from number links to)
  at_once_passes role from number [] to = either role (to == from) (Final number no_extras ∷ []) [] (p.final role number, tt) tt
  at_once_passes role from number (l ∷ links) to = tt

  request_passes : (t : TableState) (pending : List RowState) (from : ℕ) (named : Option (List ℕ)) (id : ℕ) (target : Target) (content : Parts) (to : ℕ) →
      came (Request named id target content) → AreSent (role_at t.links to) (sends_request t pending from named id target content to)
  request_passes t pending from named id target content to h =
      All-append (λ m. sent (role_at t.links to) m) (final_at_once from id (asked_links t from named target content.key) to) (request_along t pending from (tree_of t (link_at t.links from) named) target content to)
      (at_once_passes (role_at t.links to) from id (asked_links t from named target content.key) to) (by (tree_of t (link_at t.links from) named))
    where
      over : (tree : List ℕ) (o : Option LinkPeer) → AreSent (option_map_or (λ l. l.peer.role) o Client) (option_map_or (λ l. request_to t pending from tree target content l) o [])
      over tree None = tt
      over tree (Some l) = either l.peer.role (is_asked t from tree target content.key l l.peer.role) (Request (tree_for tree l.peer.role) (free_number l.link pending) target content ∷ []) []
          (p.request_on l.peer.role named tree id (free_number l.link pending) target content h, tt) tt

      by : (tree : Option (List ℕ)) → AreSent (role_at t.links to) (request_along t pending from tree target content to)
      by None = tt
      by (Some tree) = over tree (link_at t.links to)

  reply_passes : (role : Role) (pending : List RowState) (held : List GatheringState) (from id : ℕ) (content : Parts) (to : ℕ) → came (Response id content) →
      AreSent role (sends_reply pending held from id content to)
  reply_passes role pending held from id content to h =
      either role (is_some (held_at pending held from id content)) [] (passes_reply pending from id content to) tt (by (asker_of (branch (link_no from) id) pending))
    where
      by : (o : Option Asker) → AreSent role (option_map_or (λ a. reply_to content to a) o [])
      by None = tt
      by (Some a) = either role (to == a.link.0) (Response a.number content ∷ []) [] (p.reply_on role id a.number content h, tt) tt

  -- what was held for who asked, and the final behind it
  ending_passes : (role : Role) (held : List GatheringState) (extras : Extras) (to : ℕ) (a : Asker) → HoldsPassed held → sent role (Final a.number extras) →
      AreSent role (ending_for held extras to a)
  ending_passes role held extras to a h k =
      All-append (λ m. sent role m) (held_to held to a) (final_for extras to a)
      (either role (to == a.link.0) (map (λ c. Response a.number c) (held_for held a)) [] (replies (held_for held a) (found_held (λ c. came (Response 0 c)) held a h)) tt)
      (either role (to == a.link.0) (Final a.number extras ∷ []) [] (k, tt) tt)
    where
      replies : (cs : List Parts) → AllByRecursion (λ c. came (Response 0 c)) cs → AreSent role (map (λ c. Response a.number c) cs)
      replies [] k = tt
      replies (c ∷ cs) k = (p.reply_on role 0 a.number c k.0, replies cs k.1)

  final_passes : (role : Role) (pending : List RowState) (held : List GatheringState) (from id : ℕ) (extras : Extras) (to : ℕ) → HoldsPassed held → came (Final id extras) →
      AreSent role (sends_final pending held from id extras to)
  final_passes role pending held from id extras to h k = by (final_to pending (branch (link_no from) id))
    where
      by : (o : Option Asker) → AreSent role (option_map_or (λ a. ending_for held extras to a) o [])
      by None = tt
      by (Some a) = ending_passes role held extras to a h (p.final_on role id a.number extras k)

  ends_pass : (role : Role) (pending : List RowState) (held : List GatheringState) (link to : ℕ) → HoldsPassed held → AreSent role (sends_ends pending held link to)
  ends_pass role pending held link to h = by (finals_of_drop (link_no link) pending)
    where
      by : (askers : List Asker) → AreSent role (flat_map (λ a. ending_for held no_extras to a) askers)
      by [] = tt
      by (a ∷ askers) =
          All-append (λ m. sent role m) (ending_for held no_extras to a) (flat_map (λ b. ending_for held no_extras to b) askers)
          (ending_passes role held no_extras to a h (p.final role a.number)) (by askers)

  -- ---- events

  from_passes : (node : NodeState) (from : ℕ) (msg : Msg) (to : ℕ) → HoldsPassed node.held → came msg → AreSent (role_at node.links to) (sends_from node from msg to)
  from_passes node from (Sub id key) to held h = rows_pass (role_at node.links to) node (rows_declared node from (row from id kind.Sub key)) to
  from_passes node from (Unsub id) to held h = rows_pass (role_at node.links to) node (rows_undeclared node from (key_of from id kind.Sub)) to
  from_passes node from (Token id key) to held h = rows_pass (role_at node.links to) node (rows_declared node from (row from id kind.Token key)) to
  from_passes node from (Untoken id) to held h = rows_pass (role_at node.links to) node (rows_undeclared node from (key_of from id kind.Token)) to
  from_passes node from (Able id key complete) to held h = rows_pass (role_at node.links to) node (rows_declared node from (row from id (able_kind complete) key)) to
  from_passes node from (Unable id) to held h = rows_pass (role_at node.links to) node (rows_undeclared node from (key_of from id kind.Able)) to
  from_passes node from (Interest id current future kinds key aggregate) to held h = tt
  from_passes node from (EndInterest id) to held h = tt
  from_passes node from (ToldSub id key interest) to held h = tt
  from_passes node from (ToldToken id key interest) to held h = tt
  from_passes node from (ToldAble id key complete interest) to held h = tt
  from_passes node from (ToldUnsub id) to held h = tt
  from_passes node from (ToldUntoken id) to held h = tt
  from_passes node from (ToldUnable id) to held h = tt
  from_passes node from (ToldEnd interest) to held h = tt
  from_passes node from (Push tree content) to held h = push_passes (tables node) from tree content to h
  from_passes node from (Request tree id target content) to held h = request_passes (tables node) node.pending from tree id target content to h
  from_passes node from (Response id content) to held h = reply_passes (role_at node.links to) node.pending node.held from id content to h
  from_passes node from (Final id extras) to held h = final_passes (role_at node.links to) node.pending node.held from id extras to held h
  from_passes node from (State links) to held h = either (role_at node.links to) _ (State links ∷ []) [] (p.state (role_at node.links to) links, tt) tt
  from_passes node from (Step source number added decl) to held h =
      either (role_at node.links to) (leads_to_router node.links from && (is_next node.known source number && is_to_child (tables node) source to)) (Step source number added decl ∷ []) []
      (p.step_on (role_at node.links to) source number added decl h, tt) tt
  from_passes node from (Snap source number decls) to held h =
      either (role_at node.links to) (leads_to_router node.links from && (is_newer node.known source number && is_to_child (tables node) source to)) (Snap source number decls ∷ []) []
      (p.snap_on (role_at node.links to) source number decls h, tt) tt

  -- by who is at the link's other end afterwards
  first_passes : (node : NodeState) (event : Event) (to : LinkNo) → HoldsPassed node.held → Comes came event → AreSent (role_at (after node event).links to.0) (sends_first node event to)
  first_passes node (Up link peer) to held h = up_passes (role_at (after node (Up link peer)).links to.0) node link.0 peer peer.role to.0
  first_passes node (Down link) to held h =
      let role : Role = role_at (after node (Down link)).links to.0 in
      All-append (λ m. sent role m) (sends_ends node.pending node.held link.0 to.0) (sends_down node link.0 (link_at node.links link.0) to.0 ++ sends_rows node (rows_left node link.0) to.0)
      (ends_pass role node.pending node.held link.0 to.0 held)
      (All-append (λ m. sent role m) (sends_down node link.0 (link_at node.links link.0) to.0) (sends_rows node (rows_left node link.0) to.0)
      (down_passes role node link.0 (link_at node.links link.0) to.0) (rows_pass role node (rows_left node link.0) to.0))
  first_passes node (From link msg) to held h =
      subst (λ (links : List LinkPeer). AreSent (role_at links to.0) (sends_from node link.0 msg to.0)) (sym (links_from node link msg)) (from_passes node link.0 msg to.0 held h)

  -- what an event sends on a link
  pub sends_pass : (node : NodeState) (event : Event) (to : LinkNo) → IsKept node → HoldsPassed node.held → refuses node event ≡ None → Comes came event →
      AreSent (role_at (after node event).links to.0) (sends node event to)
  sends_pass node event to kept held taken h =
      let k = kept_after node event kept taken in
      let role : Role = role_at (after node event).links to.0 in
      All-append (λ m. sent role m) (sends_first node event to) (sends_snapshots (tables (after node event)) node.base.records to.0)
      (first_passes node event to held h)
      (snapshots_pass role (tables (after node event)) node.base.records to.0 (logs_light (after node event).known (after node event).rows k.logs (omega (arith, k.light))))
