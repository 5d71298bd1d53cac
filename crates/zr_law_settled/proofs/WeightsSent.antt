-- What a router sends is of what was declared, and makes no router hold more (`IsSent`): records, samples, changes of rows, and what is known.
use Rattle.std.proofs.Common.{◌+◌, ℕ, Bool, true, false, cond, List, [], ◌∷◌, map, Option, Some, None, refl}
use Rattle.std.specs.Prelude.{◌&&◌, ◌==◌, not, flat_map}
use Rattle.std.specs.List.{AllByRecursion}
use Rattle.std.specs.Option.{option_map_or}
use Rattle.zr_id.specs.Record.{RecordState}
use Rattle.zr_id.specs.declared.link.LinkNo.{LinkNo}
use Rattle.zr_graph.specs.Record.{record_of}
use Rattle.zr_graph.specs.Base.{BaseState}
use Rattle.zr_msg.specs.declared.content.Parts.{Parts}
use Rattle.zr_msg.specs.declared.msg.Msg.{Msg}
use Rattle.zr_msg.specs.declared.msg.Msg.TheVariants.{Push, State}
use Rattle.zr_msg.specs.declared.event.Event.{Event}
use Rattle.zr_msg.specs.Peer.{PeerState}
use Rattle.zr_msg.specs.declared.peer.LinkPeer.{LinkPeer}
use Rattle.zr_msg.specs.declared.peer.Role.{Role}
use Rattle.zr_msg.specs.declared.peer.Role.TheVariants.{Client, Router}
use Rattle.zr_local.specs.declared.row.Row.{Row}
use Rattle.zr_log.specs.declared.log.Log.{Log}
use Rattle.zr_log.specs.Log.{Change}
use Rattle.zr_log.specs.Known.{position}
use Rattle.zr_node_spec.specs.Tables.{TableState, link_at, is_router, is_to_child}
use Rattle.zr_node_spec.specs.Changes.{changes, steps}
use Rattle.zr_node_spec.specs.Samples.{subscribes, leads_to_subscriber, push_to, push_on, push_along}
use Rattle.zr_node_spec.specs.Snapshots.{is_new_child, snapshot, snapshots_on, snapshots_for, sends_snapshots}
use Rattle.zr_node_spec.specs.State.{NodeState, tables}
use Rattle.zr_node_spec.specs.Table.{own_link, joined, parted, own_record, all_records, is_other_router, sends_own, sends_up, sends_parted, sends_down, sends_rows, sends_first, sends, after}
use Rattle.zr_lists.proofs.Each.{All-append}
use Rattle.zr_law_settled.proofs.Spreading.{Name}
use Rattle.zr_law_settled.proofs.WeightsRows.{IsAdded}
use Rattle.zr_law_settled.proofs.Weights.{Ever, IsKnown, IsSent}

module _ (ever : Ever) where
  abbrev pub AreSent : List Msg → Type 0
  AreSent msgs = AllByRecursion (IsSent ever) msgs

  pub sent_if : (t : Bool) (msgs : List Msg) → AreSent msgs → AreSent (cond t msgs [])
  sent_if true msgs h = h
  sent_if false msgs h = tt

  -- ---- samples

  module _ (t : TableState) (from : ℕ) (content : Parts) where
    push_sent_to : (tree : Name) (l : LinkPeer) (role : Role) → AreSent (push_to t from tree content l role)
    push_sent_to tree l Client = sent_if (not (l.link.0 == from) && subscribes t.rows l.link.0 content.key) (Push None content ∷ []) ((tt, refl), tt)
    push_sent_to tree l Router = sent_if (leads_to_subscriber t tree content.key l.peer.id) (Push (Some tree) content ∷ []) ((tt, refl), tt)

    push_sent_on : (tree : Name) (o : Option LinkPeer) → AreSent (push_on t from tree content o)
    push_sent_on tree None = tt
    push_sent_on tree (Some l) = push_sent_to tree l l.peer.role

    pub push_sent : (tree : Option Name) (to : ℕ) → AreSent (push_along t from tree content to)
    push_sent None to = tt
    push_sent (Some tree) to = push_sent_on tree (link_at t.links to)

  -- ---- records

  records_sent : (rs : List RecordState) → AreSent (map (λ r. State r) rs)
  records_sent [] = tt
  records_sent (r ∷ rs) = ((tt, refl), records_sent rs)

  own_sent : (b : BaseState) → AreSent (own_record b)
  own_sent b = by (record_of b.records b.me)
    where
      by : (o : Option RecordState) → AreSent (option_map_or (λ r. State r ∷ []) o [])
      by None = tt
      by (Some r) = ((tt, refl), tt)

  module _ (n : NodeState) where
    others_sent : (from : ℕ) (b : BaseState) (to : ℕ) → AreSent (sends_own n from b to)
    others_sent from b to = sent_if (is_other_router n from to) (own_record b) (own_sent b)

    pub up_sent : (link : ℕ) (peer : PeerState) (role : Role) (to : ℕ) → AreSent (sends_up n link peer role to)
    up_sent link peer Client to = tt
    up_sent link peer Router to = by (to == link)
      where
        by : (t : Bool) → AreSent (cond t (all_records (joined n.base (own_link peer))) (sends_own n link (joined n.base (own_link peer)) to))
        by true = records_sent (joined n.base (own_link peer)).records
        by false = others_sent link (joined n.base (own_link peer)) to

    parted_sent : (link : ℕ) (peer : PeerState) (role : Role) (to : ℕ) → AreSent (sends_parted n link peer role to)
    parted_sent link peer Client to = tt
    parted_sent link peer Router to = others_sent link (parted n.base peer.id) to

    pub down_sent : (link : ℕ) (o : Option LinkPeer) (to : ℕ) → AreSent (sends_down n link o to)
    down_sent link None to = tt
    down_sent link (Some l) to = parted_sent link l.peer l.peer.role to

  -- ---- changes

  steps_sent : (source : Name) (number : ℕ) (cs : List Change) → AllByRecursion (IsAdded (ever source)) cs → AreSent (steps source number cs)
  steps_sent source number [] h = tt
  steps_sent source number (c ∷ cs) h = ((h.0, refl), steps_sent source (number + 1) cs h.1)

  pub rows_sent : (n : NodeState) (rows : List Row) (to : ℕ) → AllByRecursion (IsAdded (ever n.base.me)) (changes n.rows rows) → AreSent (sends_rows n rows to)
  rows_sent n rows to h =
      sent_if (is_to_child (tables n) n.base.me to) (steps n.base.me (position n.known n.base.me) (changes n.rows rows))
      (steps_sent n.base.me (position n.known n.base.me) (changes n.rows rows) h)

  -- ---- what is known

  module _ (t : TableState) (before : List RecordState) where
    each_sent : (name : Name) (logs : List Log) → AllByRecursion (IsKnown ever) logs →
        AreSent (flat_map (λ log. cond (is_new_child before t.base.records t.base.me log.source name) (snapshot log ∷ []) []) logs)
    each_sent name [] h = tt
    each_sent name (log ∷ logs) h =
        All-append (IsSent ever) (cond (is_new_child before t.base.records t.base.me log.source name) (snapshot log ∷ []) []) _
        (sent_if (is_new_child before t.base.records t.base.me log.source name) (snapshot log ∷ []) ((h.0.1, refl), tt)) (each_sent name logs h.1)

    snapshots_sent : AllByRecursion (IsKnown ever) t.known.logs → (to : ℕ) → AreSent (sends_snapshots t before to)
    snapshots_sent h to = by (link_at t.links to)
      where
        by : (o : Option LinkPeer) → AreSent (option_map_or (λ l. snapshots_on t before l) o [])
        by None = tt
        by (Some l) = sent_if (is_router l.peer.role) (snapshots_for t before l.peer.id) (each_sent l.peer.id t.known.logs h)

  -- all that an event sends, where what is known then is of what was declared
  pub all_sent : (n : NodeState) (event : Event) (to : LinkNo) → AllByRecursion (IsKnown ever) (after n event).known.logs → AreSent (sends_first n event to) → AreSent (sends n event to)
  all_sent n event to h first =
      All-append (IsSent ever) (sends_first n event to) (sends_snapshots (tables (after n event)) n.base.records to.0) first
      (snapshots_sent (tables (after n event)) n.base.records h to.0)
