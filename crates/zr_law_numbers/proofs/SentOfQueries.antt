-- What of all that an event sends is of queries: nothing but what a request, what answers it, and the end of a link send.
use Rattle.std.proofs.Common.{◌≡◌, ℕ, ◌+◌, ◌==◌, ◌&&◌, Bool, true, false, cond, List, [], ◌∷◌, ◌++◌, append-nil, map, Option, Some, None, refl, ap, ◌∙◌}
use Rattle.std.specs.List.{flat_map}
use Rattle.std.specs.Option.{option_map_or}
use Rattle.std.proofs.lemmas.Grind.{flat_map-append}
use Rattle.zr_id.specs.Record.{RecordState}
use Rattle.zr_id.specs.declared.link.LinkNo.{LinkNo}
use Rattle.zr_graph.specs.Base.{BaseState}
use Rattle.zr_graph.specs.Record.{record_of}
use Rattle.zr_msg.specs.declared.content.Parts.{Parts}
use Rattle.zr_msg.specs.declared.decl.Decl.{Decl}
use Rattle.zr_msg.specs.declared.msg.Msg.{Msg}
use Rattle.zr_msg.specs.declared.msg.Msg.TheVariants.{Sub, Unsub, Token, Untoken, Able, Unable, Interest, EndInterest, ToldSub, ToldAble, ToldUnsub, ToldToken, ToldUntoken, ToldUnable, ToldEnd, Push, Request, Response, Final, State, Step, Snap}
use Rattle.zr_msg.specs.declared.event.Event.{Event}
use Rattle.zr_msg.specs.declared.event.Event.TheVariants.{Down}
use Rattle.zr_msg.specs.declared.peer.LinkPeer.{LinkPeer}
use Rattle.zr_msg.specs.Peer.{PeerState}
use Rattle.zr_msg.specs.declared.peer.Role.{Role}
use Rattle.zr_msg.specs.declared.peer.Role.TheVariants.{Client, Router}
use Rattle.zr_local.specs.declared.row.Row.{Row}
use Rattle.zr_log.specs.declared.log.Log.{Log}
use Rattle.zr_log.specs.Log.{Change}
use Rattle.zr_log.specs.Known.{position, is_next, is_newer}
use Rattle.zr_node_spec.specs.Tables.{TableState, link_at, is_router, is_to_child, leads_to_router}
use Rattle.zr_node_spec.specs.Changes.{steps, changes}
use Rattle.zr_node_spec.specs.Samples.{tree_of}
use Rattle.zr_node_spec.specs.Snapshots.{is_new_child, snapshot, snapshots_on, sends_snapshots}
use Rattle.zr_node_spec.specs.Queries.{sends_ends}
use Rattle.zr_node_spec.specs.State.{NodeState, tables}
use Rattle.zr_node_spec.specs.Table.{own_link, is_other_router, own_record, joined, parted, all_records, rows_left, sends_rows, sends_own, sends_up, sends_parted, sends_down, sends_from, sends_first, sends, after}
use Rattle.zr_law_numbers.specs.Deeds.{handles_msg}
use Rattle.zr_law_settled.proofs.Silent.{silent_if, push_silent}

-- a reading of messages that finds nothing in records, samples, changes and snapshots
pub record IsOfQueries {X : Type 0} (tells : Msg → List X) : Type 0 where
  pub state : (r : RecordState) → tells (State r) ≡ []
  pub push : (tree : Option (List ℕ)) (content : Parts) → tells (Push tree content) ≡ []
  pub step : (source : List ℕ) (number : ℕ) (added : Bool) (decl : Decl) → tells (Step source number added decl) ≡ []
  pub snap : (source : List ℕ) (number : ℕ) (decls : List Decl) → tells (Snap source number decls) ≡ []

module _ {X : Type 0} (tells : Msg → List X) (none : IsOfQueries tells) where
  one : (m : Msg) → tells m ≡ [] → flat_map tells (m ∷ []) ≡ []
  one m e = ap (λ z. z ++ []) e

  -- ---- changes and snapshots

  steps_silent : (source : List ℕ) (number : ℕ) (cs : List Change) → flat_map tells (steps source number cs) ≡ []
  steps_silent source number [] = refl
  steps_silent source number (c ∷ cs) = ap (λ z. z ++ flat_map tells (steps source (number + 1) cs)) (none.step source (number + 1) c.added c.decl) ∙ steps_silent source (number + 1) cs

  snapshots_silent : (t : TableState) (before : List RecordState) (to : ℕ) → flat_map tells (sends_snapshots t before to) ≡ []
  snapshots_silent t before to = by (link_at t.links to)
    where
      each : (name : List ℕ) (logs : List Log) → flat_map tells (flat_map (λ log. cond (is_new_child before t.base.records t.base.me log.source name) (snapshot log ∷ []) []) logs) ≡ []
      each name [] = refl
      each name (log ∷ logs) = at (is_new_child before t.base.records t.base.me log.source name) (each name logs)
        where
          more : List Msg
          more = flat_map (λ log. cond (is_new_child before t.base.records t.base.me log.source name) (snapshot log ∷ []) []) logs

          at : (b : Bool) → flat_map tells more ≡ [] → flat_map tells (cond b (snapshot log ∷ []) [] ++ more) ≡ []
          at true ih = ap (λ z. z ++ flat_map tells more) (none.snap log.source log.position log.decls) ∙ ih
          at false ih = ih

      by : (o : Option LinkPeer) → flat_map tells (option_map_or (λ l. snapshots_on t before l) o []) ≡ []
      by None = refl
      by (Some l) = silent_if tells (is_router l.peer.role) _ (each l.peer.id t.known.logs)

  module _ (n : NodeState) where
    rows_silent : (rows : List Row) (to : ℕ) → flat_map tells (sends_rows n rows to) ≡ []
    rows_silent rows to = silent_if tells (is_to_child (tables n) n.base.me to) _ (steps_silent n.base.me (position n.known n.base.me) (changes n.rows rows))

    -- ---- records

    own_silent : (link : ℕ) (b : BaseState) (to : ℕ) → flat_map tells (sends_own n link b to) ≡ []
    own_silent link b to = silent_if tells (is_other_router n link to) (own_record b) (by (record_of b.records b.me))
      where
        by : (o : Option RecordState) → flat_map tells (option_map_or (λ r. State r ∷ []) o []) ≡ []
        by None = refl
        by (Some r) = one (State r) (none.state r)

    records_silent : (rs : List RecordState) → flat_map tells (map (λ r. State r) rs) ≡ []
    records_silent [] = refl
    records_silent (r ∷ rs) = ap (λ z. z ++ flat_map tells (map (λ x. State x) rs)) (none.state r) ∙ records_silent rs

    pub up_silent : (link : ℕ) (peer : PeerState) (role : Role) (to : ℕ) → flat_map tells (sends_up n link peer role to) ≡ []
    up_silent link peer Client to = refl
    up_silent link peer Router to = by (to == link)
      where
        by : (t : Bool) → flat_map tells (cond t (all_records (joined n.base (own_link peer))) (sends_own n link (joined n.base (own_link peer)) to)) ≡ []
        by true = records_silent (joined n.base (own_link peer)).records
        by false = own_silent link (joined n.base (own_link peer)) to

    parted_silent : (link : ℕ) (peer : PeerState) (role : Role) (to : ℕ) → flat_map tells (sends_parted n link peer role to) ≡ []
    parted_silent link peer Client to = refl
    parted_silent link peer Router to = own_silent link (parted n.base peer.id) to

    down_silent : (link : ℕ) (o : Option LinkPeer) (to : ℕ) → flat_map tells (sends_down n link o to) ≡ []
    down_silent link None to = refl
    down_silent link (Some l) to = parted_silent link l.peer l.peer.role to

    -- ---- events

    -- a message by which nothing is taken, heard or closed
    pub from_silent : (from : ℕ) (msg : Msg) (to : ℕ) → handles_msg msg ≡ [] → flat_map tells (sends_from n from msg to) ≡ []
    from_silent from (Sub id key) to e = rows_silent _ to
    from_silent from (Unsub id) to e = rows_silent _ to
    from_silent from (Token id key) to e = rows_silent _ to
    from_silent from (Untoken id) to e = rows_silent _ to
    from_silent from (Able id key complete) to e = rows_silent _ to
    from_silent from (Unable id) to e = rows_silent _ to
    from_silent from (Interest id current future kinds key aggregate) to e = refl
    from_silent from (EndInterest id) to e = refl
    from_silent from (ToldSub id key interest) to e = refl
    from_silent from (ToldToken id key interest) to e = refl
    from_silent from (ToldAble id key complete interest) to e = refl
    from_silent from (ToldUnsub id) to e = refl
    from_silent from (ToldUntoken id) to e = refl
    from_silent from (ToldUnable id) to e = refl
    from_silent from (ToldEnd interest) to e = refl
    from_silent from (Push tree content) to e = push_silent tells (tables n) from content (λ z. none.push z content) (tree_of (tables n) (link_at n.links from) tree) to
    from_silent from (Request tree id target content) to e = absurd (cc)
    from_silent from (Response id content) to e = absurd (cc)
    from_silent from (Final id extras) to e = absurd (cc)
    from_silent from (State links) to e = silent_if tells _ (State links ∷ []) (one (State links) (none.state links))
    from_silent from (Step source number added decl) to e =
        silent_if tells (leads_to_router n.links from && (is_next n.known source number && is_to_child (tables n) source to)) (Step source number added decl ∷ []) (one (Step source number added decl) (none.step source number added decl))
    from_silent from (Snap source number decls) to e =
        silent_if tells (leads_to_router n.links from && (is_newer n.known source number && is_to_child (tables n) source to)) (Snap source number decls ∷ []) (one (Snap source number decls) (none.snap source number decls))

    -- the snapshots of new children are nothing of queries
    pub first_tells : (event : Event) (to : LinkNo) → flat_map tells (sends n event to) ≡ flat_map tells (sends_first n event to)
    first_tells event to =
        flat_map-append tells (sends_first n event to) (sends_snapshots (tables (after n event)) n.base.records to.0)
        ∙ ap (λ z. flat_map tells (sends_first n event to) ++ z) (snapshots_silent (tables (after n event)) n.base.records to.0)
        ∙ append-nil (flat_map tells (sends_first n event to))

    -- nor is what stands behind the finals of a link that goes down
    pub down_tells : (link to : LinkNo) → flat_map tells (sends_first n (Down link) to) ≡ flat_map tells (sends_ends n.pending n.held link.0 to.0)
    down_tells link to =
        flat_map-append tells (sends_ends n.pending n.held link.0 to.0) (sends_down n link.0 (link_at n.links link.0) to.0 ++ sends_rows n (rows_left n link.0) to.0)
        ∙ ap (λ z. flat_map tells (sends_ends n.pending n.held link.0 to.0) ++ z)
        (flat_map-append tells (sends_down n link.0 (link_at n.links link.0) to.0) (sends_rows n (rows_left n link.0) to.0)
        ∙ ap (λ z. z ++ flat_map tells (sends_rows n (rows_left n link.0) to.0)) (down_silent link.0 (link_at n.links link.0) to.0)
        ∙ rows_silent (rows_left n link.0) to.0)
        ∙ append-nil (flat_map tells (sends_ends n.pending n.held link.0 to.0))
