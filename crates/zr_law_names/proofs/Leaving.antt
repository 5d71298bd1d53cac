-- The tables that an event leaves, and what is refused, are the same without the names of clients.
use Rattle.std.proofs.Common.{◌≡◌, ℕ, cond, List, Option, Some, None, refl, ap, ◌∙◌}
use Rattle.std.specs.Prelude.{◌&&◌}
use Rattle.std.specs.Option.{option_map, option_or}
use Rattle.zr_id.specs.declared.link.LinkNo.{LinkNo}
use Rattle.zr_graph.specs.Base.{after_record}
use Rattle.zr_body.specs.Latest.{is_latest}
use Rattle.zr_log.specs.Known.{after_step, after_snap, refuses_step, refuses_snap}
use Rattle.zr_local.specs.Clients.{noted, clients_left}
use Rattle.zr_local.specs.Rows.{Key, refuses_undeclare}
use Rattle.zr_local.specs.State.{refuses_declare, refuses_interest}
use Rattle.zr_local.specs.declared.interest.Interest.{Interest as LiveInterest}
use Rattle.zr_local.specs.declared.row.Row.{Row}
use Rattle.zr_msg.specs.declared.content.Parts.{Parts}
use Rattle.zr_msg.specs.declared.decl.Kind.TheVariants as kind
use Rattle.zr_msg.specs.declared.error.NodeError.TheVariants as e
use Rattle.zr_msg.specs.declared.event.Event.{Event}
use Rattle.zr_msg.specs.declared.event.Event.TheVariants.{Up, Down, From}
use Rattle.zr_msg.specs.declared.msg.Msg.{Msg}
use Rattle.zr_msg.specs.declared.msg.Msg.TheVariants.{Sub, Unsub, Token, Untoken, Able, Unable, Interest, EndInterest, ToldSub, ToldAble, ToldUnsub, ToldToken, ToldUntoken, ToldUnable, ToldEnd, Push, Request, Response, Final, State, Step, Snap}
use Rattle.zr_msg.specs.declared.msg.Target.{Target}
use Rattle.zr_msg.specs.declared.peer.LinkPeer.{LinkPeer}
use Rattle.zr_msg.specs.declared.peer.Role.{Role}
use Rattle.zr_msg.specs.declared.peer.Role.TheVariants.{Client, Router}
use Rattle.zr_msg.specs.Peer.{PeerState}
use Rattle.zr_pend_spec.specs.Pending.{asked}
use Rattle.zr_node_spec.specs.Tables.{link_at, leads_to_client}
use Rattle.zr_node_spec.specs.State.{NodeState, new_link, tables, local_state}
use Rattle.zr_node_spec.specs.Queries.{link_no, asker, asked_links, asked_over, gathering_if, after_request, held_request, most_pending, asks_most, has_no_number}
use Rattle.zr_node_spec.specs.Table.{able_kind, row, key_of, live, base_up, base_parted, base_down, rows_declared, rows_undeclared, rows_left, clients_noted, with_clients, with_rows, with_base, with_known, with_pending, with_held, after_from, after_up, after_down, after, local_error, known_error, refuses_down, refuses_rows, refuses_declared, refuses_undeclared, refuses_request, refuses_from, refuses}
use Rattle.zr_law_names.specs.Names.{name_of, weight_of, nameless, nameless_link, nameless_event, nameless_node}
use Rattle.zr_law_names.proofs.Links.{at_same, leads_router, leads_client, with_same, without_same, plain}
use Rattle.zr_law_names.proofs.Sending.{asked_same, node, declared_rows, undeclared_rows, left_rows}

module _ (n : NodeState) where
  clients_same : (from id : ℕ) (i : Option LiveInterest) → clients_noted (node n) from id i ≡ clients_noted n from id i
  clients_same from id i = ap (λ b. cond b (noted n.clients (link_no from) id i) n.clients) (leads_client n.links from)

  requested : (from : ℕ) (tree : Option (List ℕ)) (id : ℕ) (target : Target) (content : Parts) → after_from (node n) from (Request tree id target content) ≡ nameless_node (after_from n from (Request tree id target content))
  requested from tree id target content =
      ap (λ ls. with_held (with_pending (node n) (asked_over n.pending (asker from id) ls)) (held_request (plain (tables n)) n.held from tree id target content)) (asked_same (tables n) from tree target content.key)
      ∙ ap (λ ls. with_held (with_pending (node n) (after_request (tables n) n.pending from tree id target content.key))
      (gathering_if n.held (leads_to_client (plain (tables n)).links from && is_latest content.body) (asker from id) ls)) (asked_same (tables n) from tree target content.key)
      ∙ ap (λ b. with_held (with_pending (node n) (after_request (tables n) n.pending from tree id target content.key))
      (gathering_if n.held (b && is_latest content.body) (asker from id) (asked_links (tables n) from tree target content.key))) (leads_client n.links from)

  from_left : (from : ℕ) (msg : Msg) → after_from (node n) from msg ≡ nameless_node (after_from n from msg)
  from_left from (Sub id key) = ap (with_rows (node n)) (declared_rows n from (row from id kind.Sub key))
  from_left from (Unsub id) = ap (with_rows (node n)) (undeclared_rows n from (key_of from id kind.Sub))
  from_left from (Token id key) = ap (with_rows (node n)) (declared_rows n from (row from id kind.Token key))
  from_left from (Untoken id) = ap (with_rows (node n)) (undeclared_rows n from (key_of from id kind.Token))
  from_left from (Able id key complete) = ap (with_rows (node n)) (declared_rows n from (row from id (able_kind complete) key))
  from_left from (Unable id) = ap (with_rows (node n)) (undeclared_rows n from (key_of from id kind.Able))
  from_left from (Interest id current future kinds key aggregate) =
      ap (with_clients (node n)) (clients_same from id (live future (record { id = id; kinds = kinds; key = key; aggregate = aggregate })))
  from_left from (EndInterest id) = ap (with_clients (node n)) (clients_same from id None)
  from_left from (ToldSub id key interest) = refl
  from_left from (ToldToken id key interest) = refl
  from_left from (ToldAble id key complete interest) = refl
  from_left from (ToldUnsub id) = refl
  from_left from (ToldUntoken id) = refl
  from_left from (ToldUnable id) = refl
  from_left from (ToldEnd interest) = refl
  from_left from (Push tree content) = refl
  from_left from (Request tree id target content) = requested from tree id target content
  from_left from (Response id content) = refl
  from_left from (Final id extras) = refl
  from_left from (State links) = ap (λ b. with_base (node n) (cond b (after_record n.base links) n.base)) (leads_router n.links from)
  from_left from (Step source number added decl) =
      ap (λ b. with_known (node n) (cond b (after_step n.known source number (record { added = added; decl = decl })) n.known)) (leads_router n.links from)
  from_left from (Snap source number decls) = ap (λ b. with_known (node n) (cond b (after_snap n.known source number decls) n.known)) (leads_router n.links from)

  based : (peer : PeerState) (r : Role) → base_up n.base (record { id = name_of peer.id r; role = peer.role; weight = weight_of peer.weight r }) r ≡ base_up n.base peer r
  based peer Client = refl
  based peer Router = refl

  up_left : (link : LinkNo) (peer : PeerState) → after_up (node n) link (nameless peer) ≡ nameless_node (after_up n link peer)
  up_left link peer = λ i.
      record {
        links = with_same n.links (new_link link peer) i;
        base = based peer peer.role i;
        rows = n.rows;
        clients = n.clients;
        known = n.known;
        pending = n.pending;
        held = n.held;
        spent = n.spent;
      }

  unbased : (peer : PeerState) (r : Role) → base_parted n.base (record { id = name_of peer.id r; role = peer.role; weight = weight_of peer.weight r }) r ≡ base_parted n.base peer r
  unbased peer Client = refl
  unbased peer Router = refl

  down_based : (o : Option LinkPeer) → base_down n.base (option_map nameless_link o) ≡ base_down n.base o
  down_based None = refl
  down_based (Some l) = unbased l.peer l.peer.role

  down_left : (link : ℕ) → after_down (node n) link ≡ nameless_node (after_down n link)
  down_left link = λ i.
      record {
        links = without_same n.links link i;
        base = (ap (base_down n.base) (at_same n.links link) ∙ down_based (link_at n.links link)) i;
        rows = n.rows;
        clients = ap (λ b. cond b (clients_left n.clients link) n.clients) (leads_client n.links link) i;
        known = n.known;
        pending = (after_down n link).pending;
        held = (after_down n link).held;
        spent = n.spent;
      }

pub left_same : (n : NodeState) (event : Event) → after (nameless_node n) (nameless_event event) ≡ nameless_node (after n event)
left_same n (Up link peer) = up_left n link peer
left_same n (Down link) = ap (λ rows. after_down (with_rows (node n) rows) link.0) (left_rows n link.0) ∙ down_left (with_rows n (rows_left n link.0)) link.0
left_same n (From link msg) = from_left n link.0 msg

-- ---- what is refused

module _ (n : NodeState) where
  rows_refused : (rows others : List Row) → rows ≡ others → refuses_rows (node n) rows ≡ refuses_rows n others
  rows_refused rows others same = ap (refuses_rows n) same

  declared_refused : (from : ℕ) (r : Row) → refuses_declared (node n) from r ≡ refuses_declared n from r
  declared_refused from r =
      ap (λ b. cond b (option_or (option_map (λ x. local_error r.id x) (refuses_declare (local_state n) r)) (refuses_rows n (rows_declared (node n) from r))) None) (leads_client n.links from)
      ∙ ap (λ rows. cond (leads_to_client n.links from) (option_or (option_map (λ x. local_error r.id x) (refuses_declare (local_state n) r)) (refuses_rows n rows)) None) (declared_rows n from r)

  undeclared_refused : (from : ℕ) (k : Key) → refuses_undeclared (node n) from k ≡ refuses_undeclared n from k
  undeclared_refused from k =
      ap (λ b. cond b (option_or (option_map (λ x. local_error k.id x) (refuses_undeclare n.rows k)) (refuses_rows n (rows_undeclared (node n) from k))) None) (leads_client n.links from)
      ∙ ap (λ rows. cond (leads_to_client n.links from) (option_or (option_map (λ x. local_error k.id x) (refuses_undeclare n.rows k)) (refuses_rows n rows)) None) (undeclared_rows n from k)

  request_refused : (from id : ℕ) (links others : List LinkNo) → links ≡ others → refuses_request (node n) from id links ≡ refuses_request n from id others
  request_refused from id links others same =
      ap (refuses_request (node n) from id) same
      ∙ ap (λ b. cond (asked (asker from id) n.pending) (Some (e.NumberTaken id))
      (cond (b && asks_most n.pending from) (Some (e.TooMany most_pending)) (cond (has_no_number n.pending others) (Some e.Worn) None))) (leads_client n.links from)

  from_refused : (from : ℕ) (msg : Msg) → refuses_from (node n) from msg ≡ refuses_from n from msg
  from_refused from (Sub id key) = declared_refused from (row from id kind.Sub key)
  from_refused from (Unsub id) = undeclared_refused from (key_of from id kind.Sub)
  from_refused from (Token id key) = declared_refused from (row from id kind.Token key)
  from_refused from (Untoken id) = undeclared_refused from (key_of from id kind.Token)
  from_refused from (Able id key complete) = declared_refused from (row from id (able_kind complete) key)
  from_refused from (Unable id) = undeclared_refused from (key_of from id kind.Able)
  from_refused from (Interest id current future kinds key aggregate) =
      ap (λ b. cond b (option_map (λ x. local_error id x) (refuses_interest (local_state n) (link_no from) id (live future (record { id = id; kinds = kinds; key = key; aggregate = aggregate })))) None)
      (leads_client n.links from)
  from_refused from (EndInterest id) = refl
  from_refused from (ToldSub id key interest) = refl
  from_refused from (ToldToken id key interest) = refl
  from_refused from (ToldAble id key complete interest) = refl
  from_refused from (ToldUnsub id) = refl
  from_refused from (ToldUntoken id) = refl
  from_refused from (ToldUnable id) = refl
  from_refused from (ToldEnd interest) = refl
  from_refused from (Push tree content) = refl
  from_refused from (Request tree id target content) = request_refused from id _ _ (asked_same (tables n) from tree target content.key)
  from_refused from (Response id content) = refl
  from_refused from (Final id extras) = refl
  from_refused from (State links) = refl
  from_refused from (Step source number added decl) =
      ap (λ b. cond b (option_map (λ x. known_error x) (refuses_step n.known source number (record { added = added; decl = decl }))) None) (leads_router n.links from)
  from_refused from (Snap source number decls) = ap (λ b. cond b (option_map (λ x. known_error x) (refuses_snap n.known source number decls)) None) (leads_router n.links from)

  down_refused : (o : Option LinkPeer) → refuses_down n.base (option_map nameless_link o) ≡ refuses_down n.base o
  down_refused None = refl
  down_refused (Some l) = refl

pub refused_same : (n : NodeState) (event : Event) → refuses (nameless_node n) (nameless_event event) ≡ refuses n event
refused_same n (Up link peer) = refl
refused_same n (Down link) =
    ap (λ o. option_or (refuses_down n.base o) (refuses_rows n (rows_left (node n) link.0))) (at_same n.links link.0)
    ∙ ap (λ x. option_or x (refuses_rows n (rows_left (node n) link.0))) (down_refused n (link_at n.links link.0))
    ∙ ap (λ rows. option_or (refuses_down n.base (link_at n.links link.0)) (refuses_rows n rows)) (left_rows n link.0)
refused_same n (From link msg) = from_refused n link.0 msg
