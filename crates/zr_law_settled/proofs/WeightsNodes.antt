-- What one event does to a router by weight (`Weighs`): what it has stays within what was declared, what it holds of its clients and its log's
-- number gain no more than the message weighs, and what it sends was declared. And what a router has that weighs little enough it takes (`takes`,
-- `lets_leave`).
use Rattle.std.proofs.Common.{◌≡◌, ◌≤◌, ◌+◌, ℕ, Bool, true, false, cond, List, [], ◌∷◌, ◌++◌, length, Option, Some, None, refl, sym, ap, ◌∙◌, subst, arith}
use Rattle.std.specs.Prelude.{◌&&◌, ◌||◌, ◌==◌, ◌^◌, ◌-◌, not, filter}
use Rattle.std.specs.List.{AllByRecursion}
use Rattle.std.specs.Ordering.{is_eq}
use Rattle.std.specs.Option.{option_map, option_or}
use Rattle.std.proofs.lemmas.Bool.{le-ltb}
use Rattle.std.proofs.lemmas.List.Sums.{sum_by-cons}
use Rattle.zr_id.specs.declared.link.LinkNo.{LinkNo}
use Rattle.zr_graph.specs.Base.{is_newer}
use Rattle.zr_msg.specs.Decl.{decl_cmp}
use Rattle.zr_msg.specs.declared.decl.Decl.{Decl}
use Rattle.zr_msg.specs.declared.decl.Kind.TheVariants as kind
use Rattle.zr_msg.specs.declared.msg.Msg.{Msg}
use Rattle.zr_msg.specs.declared.msg.Msg.TheVariants.{Sub, Unsub, Token, Untoken, Able, Unable, Interest, EndInterest, ToldSub, ToldAble, ToldUnsub, ToldToken, ToldUntoken, ToldUnable, ToldEnd, Push, Request, Response, Final, State, Step, Snap}
use Rattle.zr_msg.specs.declared.error.NodeError.{NodeError}
use Rattle.zr_msg.specs.declared.error.NodeError.TheVariants as e
use Rattle.zr_msg.specs.declared.event.Event.{Event}
use Rattle.zr_msg.specs.declared.event.Event.TheVariants.{Up, Down, From}
use Rattle.zr_msg.specs.Peer.{PeerState}
use Rattle.zr_log_set.specs.Decls.{has, decl_weight, weight}
use Rattle.zr_lists.proofs.Order.{is_itself}
use Rattle.zr_lists.proofs.Puts.{All-put}
use Rattle.zr_log_set.proofs.Decls.{decl_order}
use Rattle.zr_local.specs.Clients.{clients_weight, clients_left, noted, weight_but}
use Rattle.zr_local.specs.Interests.{interest_weight}
use Rattle.zr_local.specs.Rows.{Key, row_key, key_cmp, declared, undeclared, left, weight_of, over_limit, refuses_undeclare}
use Rattle.zr_local.specs.State.{held_weight, refuses_declare, refuses_interest}
use Rattle.zr_local.specs.declared.interest.Interest.{Interest as LiveInterest}
use Rattle.zr_local.specs.declared.row.Row.{Row}
use Rattle.zr_local.specs.declared.error.LocalError.{LocalError}
use Rattle.zr_local.specs.declared.error.LocalError.TheVariants as local
use Rattle.zr_local.proofs.Rows.{key_order}
use Rattle.zr_log.specs.Log.{Change}
use Rattle.zr_log.specs.Known.{KnownState, position, after_step, after_snap, is_next, is_newer as is_beyond}
use Rattle.zr_node_spec.specs.Tables.{link_at, leads_to_router, leads_to_client, is_to_child}
use Rattle.zr_node_spec.specs.Changes.{changes, have_no_room}
use Rattle.zr_node_spec.specs.Samples.{tree_of}
use Rattle.zr_node_spec.specs.Queries.{link_no, sends_ends}
use Rattle.zr_node_spec.specs.State.{NodeState, tables, local_state}
use Rattle.zr_node_spec.specs.Table.{able_kind, row, key_of, rows_declared, rows_undeclared, rows_left, live, clients_noted, with_rows, sends_down, sends_rows, is_other_router, sends_first, sends, after, local_error, known_error, refuses_rows, refuses_declared, refuses_undeclared, refuses_noted, refuses}
use Rattle.zr_node_spec.proofs.Changes.{me_changes}
use Rattle.zr_lists.proofs.Each.{All-append, All-each, All-filter}
use Rattle.zr_world_spec.specs.World.{most_weight}
use Rattle.zr_world_spec.proofs.Nodes.{me_after}
use Rattle.zr_law_settled.proofs.Answering.{request_all, reply_all, final_all, ends_all}
use Rattle.zr_law_settled.proofs.Spreading.{Name}
use Rattle.zr_law_settled.proofs.Positions.{position_changes}
use Rattle.zr_law_settled.proofs.WeightsRows.{IsAdded, less_costs, less_weigh, more_costs, more_weigh, added_of}
use Rattle.zr_law_settled.proofs.WeightsClients.{leave_weighs, but_weighs, note_weighs}
use Rattle.zr_law_settled.proofs.Weights.{Ever, ever_more, live_weight, weighs, gained, IsTold, IsSent, IsKnown, IsWithin, IsInTurn}
use Rattle.zr_law_settled.proofs.WeightsKnown.{GoesOn, known_later, more_here, known_changes, step_known, snap_known, step_taken, snap_taken, IsApart, step_apart, snap_apart}
use Rattle.zr_law_settled.proofs.WeightsSent.{AreSent, sent_if, push_sent, up_sent, down_sent, rows_sent, all_sent}

-- its own log's number, with a change more for each row
abbrev pub count : NodeState → ℕ
count n = position n.known n.known.me + length n.rows

pub record Weighs (ever : Ever) (x : Name) (n : NodeState) (event : Event) (more : ℕ) : Type 0 where
  pub within : IsWithin ever x (after n event)
  pub held : held_weight (local_state (after n event)) ≤ held_weight (local_state n) + more
  pub number : count (after n event) ≤ count n + more
  pub sent : (to : LinkNo) → AreSent ever (sends n event to)

-- ---- rows

-- rows that stay, go, or come: they gain no more than so much, and so does the log's number with the changes
record Costs (ever : List Decl) (before after : List Row) (more : ℕ) : Type 0 where
  of : AllByRecursion (λ q. has ever q.decl ≡ true) after
  held : weight_of after ≤ weight_of before + more
  number : length (changes before after) + length after ≤ length before + more

costs_less : (ever : List Decl) (rows : List Row) (p : Row → Bool) → AllByRecursion (λ q. has ever q.decl ≡ true) rows → Costs ever rows (filter p rows) 0
costs_less ever rows p h = record {
  of = All-filter p (λ q. has ever q.decl ≡ true) rows h;
  held = omega (arith, less_weigh p rows);
  number = omega (arith, less_costs p rows);
}

-- nothing changes where none goes
all_stay : (rows : List Row) → filter (λ r. true) rows ≡ rows
all_stay [] = refl
all_stay (r ∷ rows) = ap (λ z. r ∷ z) (all_stay rows)

costs_none : (ever : List Decl) (rows : List Row) (more : ℕ) → AllByRecursion (λ q. has ever q.decl ≡ true) rows → Costs ever rows rows more
costs_none ever rows more h =
    let same : Costs ever rows rows 0 = subst (λ z. Costs ever rows z 0) (all_stay rows) (costs_less ever rows (λ r. true) h) in
    record { of = h; held = omega arith; number = omega (arith, same.number) }

costs_more : (ever : List Decl) (rows : List Row) (r : Row) → AllByRecursion (λ q. has ever q.decl ≡ true) rows → has ever r.decl ≡ true → Costs ever rows (declared rows r) (decl_weight r.decl)
costs_more ever rows r h there = record {
  of = All-put key_cmp row_key key_order (λ q. has ever q.decl ≡ true) rows r h there;
  held = more_weigh rows r;
  number = omega (arith, more_costs rows r);
}

costs_if : (ever : List Decl) (before after : List Row) (more : ℕ) (t : Bool) → AllByRecursion (λ q. has ever q.decl ≡ true) before → Costs ever before after more → Costs ever before (cond t after before) more
costs_if ever before after more true h c = c
costs_if ever before after more false h c = costs_none ever before more h

-- ---- events

module _ (ever : Ever) (x : Name) (n : NodeState) (h : IsWithin ever x n) where
  me : n.known.me ≡ n.base.me
  me = h.mine ∙ sym h.own

  -- the rows change
  module _ (event : Event) (rows : List Row) (more : ℕ) (c : Costs (ever x) n.rows rows more) where
    rows_weigh : (after n event).known ≡ (with_rows n rows).known → (after n event).rows ≡ rows → clients_weight (after n event).clients ≤ clients_weight n.clients → ((to : LinkNo) → AreSent ever (sends_rows n rows to.0) → AreSent ever (sends_first n event to)) → Weighs ever x n event more
    rows_weigh known_is rows_is less first = record {
      within = record {
        own = me_after n event ∙ h.own;
        mine = ap (λ (k : KnownState). k.me) known_is ∙ me_changes n.known cs ∙ h.mine;
        rows = subst (λ rs. AllByRecursion (λ q. has (ever x) q.decl ≡ true) rs) (sym rows_is) c.of;
        logs = logs;
      };
      held = let w : weight_of (after n event).rows ≡ weight_of rows = ap weight_of rows_is in omega (arith, w, c.held, less);
      number = let e = ap (λ (k : KnownState). position k k.me) known_is ∙ ap (position (with_rows n rows).known) (me_changes n.known cs) ∙ position_changes n.known cs in
          let l : length (after n event).rows ≡ length rows = ap length rows_is in omega (arith, e, l, c.number);
      sent = λ to. all_sent ever n event to logs (first to (rows_sent ever n rows to.0 (subst (λ z. AllByRecursion (IsAdded (ever z)) cs) (sym h.own) added)));
    }
      where
        cs : List Change
        cs = changes n.rows rows

        added : AllByRecursion (IsAdded (ever x)) cs
        added = added_of (ever x) n.rows rows c.of

        logs : AllByRecursion (IsKnown ever) (after n event).known.logs
        logs = subst (λ (k : KnownState). AllByRecursion (IsKnown ever) k.logs) (sym known_is)
            (known_changes ever cs n.known h.logs (subst (λ z. AllByRecursion (IsAdded (ever z)) cs) (sym h.mine) added))

  -- the rows stay, and another log may be taken over
  stays_weigh : (event : Event) (more : ℕ) → (after n event).rows ≡ n.rows → clients_weight (after n event).clients ≤ clients_weight n.clients + more → IsApart n.known (after n event).known → AllByRecursion (IsKnown ever) (after n event).known.logs →
      ((to : LinkNo) → AreSent ever (sends_first n event to)) → Weighs ever x n event more
  stays_weigh event more rows_is less apart logs first = record {
    within = record {
      own = me_after n event ∙ h.own;
      mine = apart.me ∙ h.mine;
      rows = subst (λ rs. AllByRecursion (λ q. has (ever x) q.decl ≡ true) rs) (sym rows_is) h.rows;
      logs = logs;
    };
    held = let w : weight_of (after n event).rows ≡ weight_of n.rows = ap weight_of rows_is in omega (arith, w, less);
    number = let l : length (after n event).rows ≡ length n.rows = ap length rows_is in omega (arith, apart.number, l);
    sent = λ to. all_sent ever n event to logs (first to);
  }

  -- nothing of rows and logs changes, and the live interests weigh no more than so much more
  heavier_weigh : (event : Event) (more : ℕ) → (after n event).rows ≡ n.rows → clients_weight (after n event).clients ≤ clients_weight n.clients + more → (after n event).known ≡ n.known →
      ((to : LinkNo) → AreSent ever (sends_first n event to)) → Weighs ever x n event more
  heavier_weigh event more rows_is less known_is first =
      stays_weigh event more rows_is less (record { me = ap (λ (k : KnownState). k.me) known_is; number = ap (λ (k : KnownState). position k k.me) known_is })
      (subst (λ (k : KnownState). AllByRecursion (IsKnown ever) k.logs) (sym known_is) h.logs) first

  -- nothing of what clients have changes, nor of logs
  quiet_weigh : (event : Event) → (after n event).rows ≡ n.rows → (after n event).clients ≡ n.clients → (after n event).known ≡ n.known → ((to : LinkNo) → AreSent ever (sends_first n event to)) → Weighs ever x n event 0
  quiet_weigh event rows_is clients_is known_is first = heavier_weigh event 0 rows_is (let e = ap clients_weight clients_is in omega (arith, e)) known_is first

  pub up_weighs : (link : LinkNo) (peer : PeerState) → Weighs ever x n (Up link peer) 0
  up_weighs link peer = quiet_weigh (Up link peer) refl refl refl (λ to. up_sent ever n link.0 peer peer.role to.0)

  pub down_weighs : (link : LinkNo) → Weighs ever x n (Down link) 0
  down_weighs link =
      rows_weigh (Down link) (rows_left n link.0) 0
      (costs_if (ever x) n.rows (left n.rows link.0) 0 (leads_to_client n.links link.0) h.rows (costs_less (ever x) n.rows (λ r. not (r.link.0 == link.0)) h.rows)) refl refl (leave (leads_to_client n.links link.0))
      (λ to sent. All-append (IsSent ever) (sends_ends n.pending n.held link.0 to.0) (sends_down n link.0 (link_at n.links link.0) to.0 ++ sends_rows n (rows_left n link.0) to.0)
      (ends_all (IsSent ever) (λ number extras. (tt, refl)) (λ number content. (tt, refl)) n.pending n.held link.0 to.0)
      (All-append (IsSent ever) (sends_down n link.0 (link_at n.links link.0) to.0) (sends_rows n (rows_left n link.0) to.0) (down_sent ever n link.0 (link_at n.links link.0) to.0) sent))
    where
      leave : (t : Bool) → clients_weight (cond t (clients_left n.clients link.0) n.clients) ≤ clients_weight n.clients
      leave true = leave_weighs n.clients link.0
      leave false = omega arith

  -- a client declares something that was declared once, and takes something back
  declare_weighs : (event : Event) (from : ℕ) (r : Row) → has (ever x) r.decl ≡ true → (after n event).known ≡ (with_rows n (rows_declared n from r)).known → (after n event).rows ≡ rows_declared n from r → clients_weight (after n event).clients ≤ clients_weight n.clients →
      ((to : LinkNo) → AreSent ever (sends_rows n (rows_declared n from r) to.0) → AreSent ever (sends_first n event to)) → Weighs ever x n event (decl_weight r.decl)
  declare_weighs event from r there = rows_weigh event (rows_declared n from r) (decl_weight r.decl)
      (costs_if (ever x) n.rows (declared n.rows r) (decl_weight r.decl) (leads_to_client n.links from) h.rows (costs_more (ever x) n.rows r h.rows there))

  undeclare_weighs : (event : Event) (from : ℕ) (k : Key) → (after n event).known ≡ (with_rows n (rows_undeclared n from k)).known → (after n event).rows ≡ rows_undeclared n from k → clients_weight (after n event).clients ≤ clients_weight n.clients →
      ((to : LinkNo) → AreSent ever (sends_rows n (rows_undeclared n from k) to.0) → AreSent ever (sends_first n event to)) → Weighs ever x n event 0
  undeclare_weighs event from k = rows_weigh event (rows_undeclared n from k) 0
      (costs_if (ever x) n.rows (undeclared n.rows k) 0 (leads_to_client n.links from) h.rows (costs_less (ever x) n.rows (λ q. not (is_eq (key_cmp (row_key q) k))) h.rows))

  -- a client has an interest under an id from now on, or has none there any more
  interest_weighs : (event : Event) (from id : ℕ) (o : Option LiveInterest) → (after n event).rows ≡ n.rows → (after n event).clients ≡ clients_noted n from id o → (after n event).known ≡ n.known →
      ((to : LinkNo) → AreSent ever (sends_first n event to)) → Weighs ever x n event (live_weight o)
  interest_weighs event from id o rows_is clients_is known_is first =
      heavier_weigh event (live_weight o) rows_is (let e = ap clients_weight clients_is in omega (arith, e, by (leads_to_client n.links from))) known_is first
    where
      by : (t : Bool) → clients_weight (cond t (noted n.clients (link_no from) id o) n.clients) ≤ clients_weight n.clients + live_weight o
      by true = note_weighs n.clients (link_no from) id o
      by false = omega arith

  -- another log is taken over, if a router tells of it
  apart_if : (t : Bool) (k : KnownState) → IsApart n.known k → IsApart n.known (cond t k n.known)
  apart_if true k a = a
  apart_if false k a = record { me = refl; number = refl }

  logs_if : (t : Bool) (k : KnownState) → AllByRecursion (IsKnown ever) k.logs → AllByRecursion (IsKnown ever) (cond t k n.known).logs
  logs_if true k l = l
  logs_if false k l = h.logs

  -- a message that brings what was declared
  pub from_weighs : (link : LinkNo) (msg : Msg) → AllByRecursion (λ d. has (ever x) d ≡ true) (gained msg) → IsTold ever msg → Weighs ever x n (From link msg) (weighs msg)
  from_weighs link (Sub id key) g t = declare_weighs (From link (Sub id key)) link.0 (row link.0 id kind.Sub key) g.0 refl refl (omega arith) (λ to s. s)
  from_weighs link (Unsub id) g t = undeclare_weighs (From link (Unsub id)) link.0 (key_of link.0 id kind.Sub) refl refl (omega arith) (λ to s. s)
  from_weighs link (Token id key) g t = declare_weighs (From link (Token id key)) link.0 (row link.0 id kind.Token key) g.0 refl refl (omega arith) (λ to s. s)
  from_weighs link (Untoken id) g t = undeclare_weighs (From link (Untoken id)) link.0 (key_of link.0 id kind.Token) refl refl (omega arith) (λ to s. s)
  from_weighs link (Able id key complete) g t = declare_weighs (From link (Able id key complete)) link.0 (row link.0 id (able_kind complete) key) g.0 refl refl (omega arith) (λ to s. s)
  from_weighs link (Unable id) g t = undeclare_weighs (From link (Unable id)) link.0 (key_of link.0 id kind.Able) refl refl (omega arith) (λ to s. s)
  from_weighs link (Interest id current future kinds key aggregate) g t = interest_weighs (From link (Interest id current future kinds key aggregate)) link.0 id
      (live future (record { id = id; kinds = kinds; key = key; aggregate = aggregate })) refl refl refl (λ to. tt)
  from_weighs link (EndInterest id) g t = interest_weighs (From link (EndInterest id)) link.0 id None refl refl refl (λ to. tt)
  from_weighs link (ToldSub id key interest) g t = quiet_weigh (From link (ToldSub id key interest)) refl refl refl (λ to. tt)
  from_weighs link (ToldToken id key interest) g t = quiet_weigh (From link (ToldToken id key interest)) refl refl refl (λ to. tt)
  from_weighs link (ToldAble id key complete interest) g t = quiet_weigh (From link (ToldAble id key complete interest)) refl refl refl (λ to. tt)
  from_weighs link (ToldUnsub id) g t = quiet_weigh (From link (ToldUnsub id)) refl refl refl (λ to. tt)
  from_weighs link (ToldUntoken id) g t = quiet_weigh (From link (ToldUntoken id)) refl refl refl (λ to. tt)
  from_weighs link (ToldUnable id) g t = quiet_weigh (From link (ToldUnable id)) refl refl refl (λ to. tt)
  from_weighs link (ToldEnd interest) g t = quiet_weigh (From link (ToldEnd interest)) refl refl refl (λ to. tt)
  from_weighs link (Push tree content) g t = quiet_weigh (From link (Push tree content)) refl refl refl (λ to. push_sent ever (tables n) link.0 content (tree_of (tables n) (link_at n.links link.0) tree) to.0)
  from_weighs link (Request tree id target content) g t = quiet_weigh (From link (Request tree id target content)) refl refl refl (λ to.
      request_all (IsSent ever) (λ number extras. (tt, refl)) (λ tree number target content. (tt, refl)) (tables n) n.pending link.0 tree id target content to.0)
  from_weighs link (Response id content) g t = quiet_weigh (From link (Response id content)) refl refl refl (λ to.
      reply_all (IsSent ever) (λ number content. (tt, refl)) n.pending n.held link.0 id content to.0)
  from_weighs link (Final id extras) g t = quiet_weigh (From link (Final id extras)) refl refl refl (λ to.
      final_all (IsSent ever) (λ number extras. (tt, refl)) (λ number content. (tt, refl)) n.pending n.held link.0 id extras to.0)
  from_weighs link (State r) g t =
      quiet_weigh (From link (State r)) refl refl refl (λ to. sent_if ever (leads_to_router n.links link.0 && is_newer n.base r && is_other_router n link.0 to.0) (State r ∷ []) ((tt, refl), tt))
  from_weighs link (Step source number added decl) g t =
      stays_weigh (From link (Step source number added decl)) 0 refl (omega arith)
      (apart_if (leads_to_router n.links link.0) (after_step n.known source number c) (step_apart n.known source number c))
      (logs_if (leads_to_router n.links link.0) (after_step n.known source number c) (step_known ever n.known h.logs source number c t))
      (λ to. sent_if ever (leads_to_router n.links link.0 && (is_next n.known source number && is_to_child (tables n) source to.0)) (Step source number added decl ∷ []) ((t, refl), tt))
    where
      c : Change
      c = record { added = added; decl = decl }
  from_weighs link (Snap source number ds) g t =
      stays_weigh (From link (Snap source number ds)) 0 refl (omega arith)
      (apart_if (leads_to_router n.links link.0) (after_snap n.known source number ds) (snap_apart n.known source number ds))
      (logs_if (leads_to_router n.links link.0) (after_snap n.known source number ds) (snap_known ever n.known h.logs source number ds t))
      (λ to. sent_if ever (leads_to_router n.links link.0 && (is_beyond n.known source number && is_to_child (tables n) source to.0)) (Snap source number ds ∷ []) ((t, refl), tt))

-- what a router has stays within what is declared more
pub within_later : (ever ever' : Ever) (x : Name) (n : NodeState) → GoesOn ever ever' → IsWithin ever x n → IsWithin ever' x n
within_later ever ever' x n on h = record {
  own = h.own;
  mine = h.mine;
  rows = All-each (λ q. has (ever x) q.decl ≡ true) (λ q. has (ever' x) q.decl ≡ true) n.rows (λ q k. on.stays x q.decl k) h.rows;
  logs = known_later ever ever' on n.known.logs h.logs;
}

-- what a message declares weighs no more than the message, and is among what is declared then
pub gained_weigh : (msg : Msg) → weight (gained msg) ≤ weighs msg
gained_weigh (Sub id key) = omega (arith, sum_by-cons decl_weight (record { kind = kind.Sub; key = key }) [])
gained_weigh (Unsub id) = omega arith
gained_weigh (Token id key) = omega (arith, sum_by-cons decl_weight (record { kind = kind.Token; key = key }) [])
gained_weigh (Untoken id) = omega arith
gained_weigh (Able id key complete) = omega (arith, sum_by-cons decl_weight (record { kind = able_kind complete; key = key }) [])
gained_weigh (Unable id) = omega arith
gained_weigh (Interest id current future kinds key aggregate) = omega arith
gained_weigh (EndInterest id) = omega arith
gained_weigh (ToldSub id key interest) = omega arith
gained_weigh (ToldToken id key interest) = omega arith
gained_weigh (ToldAble id key complete interest) = omega arith
gained_weigh (ToldUnsub id) = omega arith
gained_weigh (ToldUntoken id) = omega arith
gained_weigh (ToldUnable id) = omega arith
gained_weigh (ToldEnd interest) = omega arith
gained_weigh (Push tree content) = omega arith
gained_weigh (Request tree id target content) = omega arith
gained_weigh (Response id content) = omega arith
gained_weigh (Final id extras) = omega arith
gained_weigh (State links) = omega arith
gained_weigh (Step source number added decl) = omega arith
gained_weigh (Snap source number decls) = omega arith

these_there : (ds rest : List Decl) → AllByRecursion (λ d. has (ds ++ rest) d ≡ true) ds
these_there [] rest = tt
these_there (d ∷ ds) rest =
    (ap (λ t. t || has (ds ++ rest) d) (is_itself decl_cmp decl_order d), All-each (λ e. has (ds ++ rest) e ≡ true) (λ e. has (d ∷ ds ++ rest) e ≡ true) ds (λ e k. by e k (is_eq (decl_cmp d e))) (these_there ds rest))
  where
    by : (e : Decl) → has (ds ++ rest) e ≡ true → (t : Bool) → (t || has (ds ++ rest) e) ≡ true
    by e k true = refl
    by e k false = k

pub gained_there : (ever : Ever) (x : Name) (more : List Decl) → AllByRecursion (λ d. has (ever_more ever x more x) d ≡ true) more
gained_there ever x more = subst (λ ds. AllByRecursion (λ d. has ds d ≡ true) more) (sym (more_here ever x more)) (these_there more (ever x))

-- ---- what is taken

-- what a router holds of its clients, with what a message brings, and its log's number have room
pub record HasRoom (n : NodeState) (more : ℕ) : Type 0 where
  pub held : held_weight (local_state n) + more ≤ most_weight
  pub number : count n + more ≤ most_weight

module _ (ever : Ever) (x : Name) (n : NodeState) (h : IsWithin ever x n) where
  rows_taken : (rows : List Row) (more : ℕ) → HasRoom n more → length (changes n.rows rows) + length rows ≤ length n.rows + more → refuses_rows n rows ≡ None
  rows_taken rows more room cost = ap (λ t. cond t (Some e.Worn) None) fits
    where
      fits : have_no_room n.known (changes n.rows rows) ≡ false
      fits = le-ltb (2 ^ 64 - 1) (position n.known n.known.me + length (changes n.rows rows)) (omega (arith, room.number, cost))

  pub lets_leave : (link : ℕ) → HasRoom n 0 → refuses_rows n (rows_left n link) ≡ None
  lets_leave link room = rows_taken (rows_left n link) 0 room
      (costs_if (ever x) n.rows (left n.rows link) 0 (leads_to_client n.links link) h.rows (costs_less (ever x) n.rows (λ r. not (r.link.0 == link)) h.rows)).number

  taken_if : (t : Bool) (o : Option NodeError) → (t ≡ true → o ≡ None) → cond t o None ≡ None
  taken_if true o k = k refl
  taken_if false o k = refl

  both_none : (a : Option LocalError) (f : LocalError → NodeError) (b : Option NodeError) → a ≡ None → b ≡ None → option_or (option_map f a) b ≡ None
  both_none a f b ea eb = ap (λ z. option_or (option_map f z) b) ea ∙ eb

  in_limit : (held more : ℕ) → held + more ≤ most_weight → over_limit held more ≡ None
  in_limit held more le = ap (λ t. cond t (Some (local.TextLimit held more)) None) (le-ltb most_weight (held + more) le)

  declare_taken : (from : ℕ) (r : Row) → HasRoom n (decl_weight r.decl) → refuses_declared n from r ≡ None
  declare_taken from r room = taken_if (leads_to_client n.links from) _ (λ client. both_none (refuses_declare (local_state n) r) (λ z. local_error r.id z) (refuses_rows n (rows_declared n from r)) weight_fits rows_fit)
    where
      weight_fits : refuses_declare (local_state n) r ≡ None
      weight_fits = in_limit (weight_of (undeclared n.rows (row_key r)) + clients_weight n.clients) (decl_weight r.decl)
          (omega (arith, room.held, less_weigh (λ q. not (is_eq (key_cmp (row_key q) (row_key r)))) n.rows))

      rows_fit : refuses_rows n (rows_declared n from r) ≡ None
      rows_fit = rows_taken (rows_declared n from r) (decl_weight r.decl) room (by (leads_to_client n.links from))
        where
          by : (t : Bool) → length (changes n.rows (cond t (declared n.rows r) n.rows)) + length (cond t (declared n.rows r) n.rows) ≤ length n.rows + decl_weight r.decl
          by true = omega (arith, more_costs n.rows r)
          by false = omega (arith, (costs_none (ever x) n.rows (decl_weight r.decl) h.rows).number)

  undeclare_taken : (from : ℕ) (k : Key) → HasRoom n 0 → (leads_to_client n.links from ≡ true → refuses_undeclare n.rows k ≡ None) → refuses_undeclared n from k ≡ None
  undeclare_taken from k room asked = taken_if (leads_to_client n.links from) _ (λ client. both_none (refuses_undeclare n.rows k) (λ z. local_error k.id z) (refuses_rows n (rows_undeclared n from k)) (asked client)
      (rows_taken (rows_undeclared n from k) 0 room
      (costs_if (ever x) n.rows (undeclared n.rows k) 0 (leads_to_client n.links from) h.rows (costs_less (ever x) n.rows (λ q. not (is_eq (key_cmp (row_key q) k))) h.rows)).number))

  note_taken : (from id : ℕ) (o : Option LiveInterest) → HasRoom n (live_weight o) → refuses_noted n from id o ≡ None
  note_taken from id o room = taken_if (leads_to_client n.links from) _ (λ client. ap (λ z. option_map (λ q. local_error id q) z) (fits o room))
    where
      fits : (o : Option LiveInterest) → HasRoom n (live_weight o) → refuses_interest (local_state n) (link_no from) id o ≡ None
      fits None room = refl
      fits (Some i) room = in_limit (weight_of n.rows + weight_but n.clients (link_no from) id) (interest_weight i) (omega (arith, room.held, but_weighs n.clients (link_no from) id))

  pub takes : ((z : Name) → weight (ever z) ≤ most_weight) → (link : LinkNo) (msg : Msg) → HasRoom n (weighs msg) → IsTold ever msg → IsInTurn n link.0 msg → refuses n (From link msg) ≡ None
  takes most link (Sub id key) room t g = declare_taken link.0 (row link.0 id kind.Sub key) room
  takes most link (Unsub id) room t g = undeclare_taken link.0 (key_of link.0 id kind.Sub) room g
  takes most link (Token id key) room t g = declare_taken link.0 (row link.0 id kind.Token key) room
  takes most link (Untoken id) room t g = undeclare_taken link.0 (key_of link.0 id kind.Token) room g
  takes most link (Able id key complete) room t g = declare_taken link.0 (row link.0 id (able_kind complete) key) room
  takes most link (Unable id) room t g = undeclare_taken link.0 (key_of link.0 id kind.Able) room g
  takes most link (Interest id current future kinds key aggregate) room t g = note_taken link.0 id (live future (record { id = id; kinds = kinds; key = key; aggregate = aggregate })) room
  takes most link (EndInterest id) room t g = refl
  takes most link (ToldSub id key interest) room t g = refl
  takes most link (ToldToken id key interest) room t g = refl
  takes most link (ToldAble id key complete interest) room t g = refl
  takes most link (ToldUnsub id) room t g = refl
  takes most link (ToldUntoken id) room t g = refl
  takes most link (ToldUnable id) room t g = refl
  takes most link (ToldEnd interest) room t g = refl
  takes most link (Push tree content) room t g = refl
  takes most link (Request tree id target content) room t g = g
  takes most link (Response id content) room t g = refl
  takes most link (Final id extras) room t g = refl
  takes most link (State links) room t g = refl
  takes most link (Step source number added decl) room t g =
      taken_if (leads_to_router n.links link.0) _ (λ router. ap (option_map (λ z. known_error z)) (step_taken ever n.known h.logs source number (record { added = added; decl = decl }) t (most source) (g router)))
  takes most link (Snap source number ds) room t g =
      taken_if (leads_to_router n.links link.0) _ (λ router. ap (option_map (λ z. known_error z)) (snap_taken ever n.known source number ds t (most source)))
