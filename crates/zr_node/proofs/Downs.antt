-- The Down of a link, by who stood at its other end.
use Rattle.std.proofs.Common.{◌≡◌, ℕ, ◌^◌, ◌<◌, ◌++◌, not, false, cond, List, [], Option, Some, None, Result, Err, option_map, refl, sym, ap, subst, ◌∙◌}
use Rattle.std.specs.Option.{option_or, option_map_or}
use Rattle.std.proofs.lemmas.List.{append-nil}
use Rattle.zr_id.specs.declared.link.LinkNo.{LinkNo}
use Rattle.zr_local.specs.Clients.{clients_left}
use Rattle.zr_local.specs.Rows.{left}
use Rattle.zr_local.specs.declared.interest.ClientInterests.{ClientInterests}
use Rattle.zr_local.specs.declared.row.Row.{Row}
use Rattle.zr_log.specs.Known.{position}
use Rattle.zr_msg.specs.declared.error.NodeError.{NodeError}
use Rattle.zr_msg.specs.declared.event.Event.TheVariants.{Down}
use Rattle.zr_msg.specs.declared.msg.Msg.{Msg}
use Rattle.zr_msg.specs.declared.peer.LinkPeer.{LinkPeer}
use Rattle.zr_msg.specs.Peer.{PeerState}
use Rattle.zr_msg.specs.declared.peer.Role.{Role}
use Rattle.zr_msg.specs.declared.peer.Role.TheVariants.{Client, Router}
use Rattle.zr_pend_spec.specs.Pending.{dropped}
use Rattle.zr_node_spec.specs.Changes.{changes, after_changes}
use Rattle.zr_node_spec.specs.Queries.{held_down, link_no, sends_ends}
use Rattle.zr_node_spec.specs.Snapshots.{sends_snapshots}
use Rattle.zr_node_spec.specs.Tables.{link_at, is_router}
use Rattle.zr_node_spec.specs.Event.{Tells, TellsPrefix}
use Rattle.zr_node_spec.specs.State.{NodeState, tables}
use Rattle.zr_node_spec.specs.Table.{base_down, base_parted, without_link, with_rows, sends_rows, sends_down, sends_parted, refuses_rows, refuses_down, refuses_parting}
use Rattle.zr_query.proofs.Told.{nothing_yet}
use Rattle.zr_node.specs.Done.{Part, IsLeft, IsLacking, IsDone}
use Rattle.zr_node.specs.Steps.{with_links, with_table, ended_on, event_part, asked_part, leave_part, down_part, parted_from}
use Rattle.zr_node.specs.declared.asked.Asked.TheVariants.{Leave}
use Rattle.zr_node.specs.declared.failure.NodeFailure.{NodeFailure}
use Rattle.zr_node.specs.declared.failure.NodeFailure.TheVariants.{Refused, NoMemory}
use Rattle.zr_node.proofs.Done.{redone}
use Rattle.zr_node.proofs.Early.{none_late}
use Rattle.zr_node.proofs.Quiet.{nothing_more, rows_stay, rows_silent, rows_allowed}
use Rattle.zr_node.proofs.Retold.{all_told, told_behind, told_both, prefix_first}

first_alone : (x y : Option NodeError) → y ≡ None → x ≡ option_or x y
first_alone None y e = sym e
first_alone (Some why) y e = refl

module _ (n : NodeState) (link : LinkNo) where
  -- the rows and the live interests that are left where a peer of this role has gone, and the state
  abbrev rows_by : Role → List Row
  rows_by role = cond (not (is_router role)) (left n.rows link.0) n.rows

  abbrev clients_by : Role → List ClientInterests
  clients_by role = cond (not (is_router role)) (clients_left n.clients link.0) n.clients

  abbrev left_by : PeerState → Role → NodeState
  left_by peer role =
      record {
        links = without_link n.links link.0;
        base = base_parted n.base peer role;
        rows = rows_by role;
        clients = clients_by role;
        known = after_changes n.known (changes n.rows (rows_by role));
        pending = dropped (link_no link.0) n.pending;
        held = held_down n.pending n.held link.0;
        spent = n.spent;
      }

  abbrev down_by : PeerState → Role → Part
  down_by peer role =
      record {
        before = n;
        left = left_by peer role;
        sends = λ to. (sends_ends n.pending n.held link.0 to ++ (sends_parted n link.0 peer role to ++ sends_rows n (rows_by role) to)) ++ sends_snapshots (tables (left_by peer role)) n.base.records to;
        refused = option_or (refuses_parting n.base role) (refuses_rows n (rows_by role));
      }

  -- and by the link, if it was up
  abbrev rows_of : Option LinkPeer → List Row
  rows_of o = cond (option_map_or (λ l. not (is_router l.peer.role)) o false) (left n.rows link.0) n.rows

  abbrev clients_of : Option LinkPeer → List ClientInterests
  clients_of o = cond (option_map_or (λ l. not (is_router l.peer.role)) o false) (clients_left n.clients link.0) n.clients

  abbrev left_of : Option LinkPeer → NodeState
  left_of o =
      record {
        links = without_link n.links link.0;
        base = base_down n.base o;
        rows = rows_of o;
        clients = clients_of o;
        known = after_changes n.known (changes n.rows (rows_of o));
        pending = dropped (link_no link.0) n.pending;
        held = held_down n.pending n.held link.0;
        spent = n.spent;
      }

  abbrev down_of : Option LinkPeer → Part
  down_of o =
      record {
        before = n;
        left = left_of o;
        sends = λ to. (sends_ends n.pending n.held link.0 to ++ (sends_down n link.0 o to ++ sends_rows n (rows_of o) to)) ++ sends_snapshots (tables (left_of o)) n.base.records to;
        refused = option_or (refuses_down n.base o) (refuses_rows n (rows_of o));
      }

  module _ (r : Result (Unit {0}) NodeFailure) (now : NodeState) (said all : List (LinkNo × Msg)) where
    -- the peer is that of the link
    of_link : (peer : PeerState) (role : Role) → Some peer ≡ option_map (λ l. l.peer) (link_at n.links link.0) → peer.role ≡ role → IsDone (down_by peer role) r now said all
        → IsDone (event_part n (Down link)) r now said all
    of_link peer role at is h = by (link_at n.links link.0) refl at
      where
        by : (o : Option LinkPeer) → link_at n.links link.0 ≡ o → Some peer ≡ option_map (λ l. l.peer) o → IsDone (event_part n (Down link)) r now said all
        by None e f = cc
        by (Some l) e f =
            let same : peer ≡ l.peer = cc in
            subst (λ (o : Option LinkPeer). IsDone (down_of o) r now said all) (sym e)
            (subst (λ (p : PeerState). IsDone (down_by p p.role) r now said all) same (subst (λ (x : Role). IsDone (down_by peer x) r now said all) (sym is) h))

    pub client_gone : (peer : PeerState) → Some peer ≡ option_map (λ l. l.peer) (link_at n.links link.0) → peer.role ≡ Client → IsDone (leave_part n link) r now said all
        → IsDone (event_part n (Down link)) r now said all
    client_gone peer at is h =
        of_link peer Client at is
        (redone (leave_part n link) (down_by peer Client) r now said all refl refl (λ to. nothing_more (tables (left_by peer Client)) n.base.records (sends_ends n.pending n.held link.0 to ++ sends_rows n (left n.rows link.0) to) refl to) refl h)

    pub router_gone : (peer : PeerState) → Some peer ≡ option_map (λ l. l.peer) (link_at n.links link.0) → peer.role ≡ Router → position n.known n.known.me < 2 ^ 64
        → IsDone (down_part n link.0 peer) r now said all → IsDone (event_part n (Down link)) r now said all
    router_gone peer at is fits h =
        let last : NodeState = parted_from n link.0 peer in
        let stays : last ≡ with_rows last last.rows = rows_stay last in
        let sent : ℕ → List Msg = λ to. sends_parted n link.0 peer Router to in
        of_link peer Router at is
        (redone (down_part n link.0 peer) (down_by peer Router) r now said all refl stays
        (λ to.
        ap (λ (m : NodeState). (sends_ends n.pending n.held link.0 to ++ sent to) ++ sends_snapshots (tables m) n.base.records to) stays
        ∙ ap (λ (ms : List Msg). (sends_ends n.pending n.held link.0 to ++ ms) ++ sends_snapshots (tables (with_rows last last.rows)) n.base.records to) (sym (ap (λ (ms : List Msg). sent to ++ ms) (rows_silent n to) ∙ append-nil (sent to))))
        (first_alone (refuses_parting n.base Router) (refuses_rows n n.rows) (rows_allowed n fits)) h)

-- ---- a client leaves

module _ (n : NodeState) (link : LinkNo) where
  abbrev leaves : Part
  leaves = asked_part n (Leave link)

  -- that fails, and what was to be told of it is forgotten
  pub leaving_failed : (e : NodeFailure) (now : NodeState) (said told : List (LinkNo × Msg)) → IsDone leaves (Err e) now [] told → IsDone (leave_part n link) (Err e) now said said
  leaving_failed (Refused why) now said told h = record { refused = h.refused; state = h.state; sends = refl }
  leaving_failed NoMemory now said told h = record { late = h.late; sends = nothing_yet (leave_part n link).sends said }

  module _ (first : NodeState) (told : List (LinkNo × Msg)) (left : IsLeft leaves first [] told) (said mid : List (LinkNo × Msg)) where
    -- memory ran out in the finals
    pub ending_failed : TellsPrefix (sends_ends first.pending first.held link.0) said mid → IsLacking (leave_part n link) said mid
    ending_failed h = record {
      late = none_late leaves.refused left.allowed;
      sends =
          prefix_first (sends_ends n.pending n.held link.0) leaves.sends (leave_part n link).sends said (λ to. refl) mid
          (subst (λ (m : NodeState). TellsPrefix (sends_ends m.pending m.held link.0) said mid) left.state h);
    }

    -- or behind them
    pub finals_told : Tells (sends_ends first.pending first.held link.0) said mid → IsLacking (leave_part n link) said mid
    finals_told h = ending_failed (all_told (sends_ends first.pending first.held link.0) said mid h)

    -- the finals are told, and then what was to be told
    pub client_left : (second last : NodeState) (all : List (LinkNo × Msg)) → Tells (sends_ends first.pending first.held link.0) said mid → second ≡ with_table first (ended_on first link.0)
        → all ≡ mid ++ told → last ≡ with_links second (without_link second.links link.0) → IsLeft (leave_part n link) last said all
    client_left second last all h ended appended e = record {
      allowed = left.allowed;
      state = e ∙ ap (λ (m : NodeState). with_links m (without_link m.links link.0)) (ended ∙ ap (λ (m : NodeState). with_table m (ended_on m link.0)) left.state);
      sends =
          told_both (sends_ends n.pending n.held link.0) leaves.sends (leave_part n link).sends said (λ to. refl) mid all
          (subst (λ (m : NodeState). Tells (sends_ends m.pending m.held link.0) said mid) left.state h)
          (told_behind leaves.sends told mid all left.sends appended);
    }
