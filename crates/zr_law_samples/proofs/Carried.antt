-- What messages carry: samples and requests, in their order. Of a message that carries nothing a router sends nothing that does (`none_goes_on`).
use Rattle.std.proofs.Common.{◌≡◌, ◌+◌, ℕ, Bool, true, false, cond, List, [], ◌∷◌, Option, Some, None, is_some, refl, ap, ◌∙◌}
use Rattle.std.specs.Prelude.{◌&&◌, flat_map}
use Rattle.std.specs.List.{AllByRecursion, cons_option, filter_map, list_all}
use Rattle.std.specs.Option.{option_map_or}
use Rattle.std.proofs.lemmas.Bool.{true≢false, and_from}
use Rattle.zr_id.specs.Record.{RecordState}
use Rattle.zr_id.specs.declared.link.LinkNo.{LinkNo}
use Rattle.zr_msg.specs.declared.msg.Msg.{Msg}
use Rattle.zr_msg.specs.declared.msg.Msg.TheVariants.{Sub, Unsub, Token, Untoken, Able, Unable, Interest, EndInterest, ToldSub, ToldAble, ToldUnsub, ToldToken, ToldUntoken, ToldUnable, ToldEnd, Push, Request, Response, Final, State, Step, Snap}
use Rattle.zr_msg.specs.declared.event.Event.TheVariants.{From}
use Rattle.zr_msg.specs.declared.peer.LinkPeer.{LinkPeer}
use Rattle.zr_local.specs.declared.row.Row.{Row}
use Rattle.zr_log.specs.declared.log.Log.{Log}
use Rattle.zr_log.specs.Log.{Change}
use Rattle.zr_log.specs.Known.{position, is_next, is_newer}
use Rattle.zr_graph.specs.Base as records
use Rattle.zr_node_spec.specs.Tables.{TableState, link_at, is_router, is_to_child, leads_to_router}
use Rattle.zr_node_spec.specs.Changes.{changes, steps}
use Rattle.zr_node_spec.specs.Snapshots.{is_new_child, snapshot, snapshots_on, snapshots_for, sends_snapshots}
use Rattle.zr_node_spec.specs.State.{NodeState, tables}
use Rattle.zr_node_spec.specs.Table.{is_other_router, sends_rows, sends_from, sends, after}
use Rattle.zr_lists.proofs.Each.{All-append}
use Rattle.zr_guarantee.specs.Item.{Carried}
use Rattle.zr_guarantee.specs.Sent.{carried_by}
use Rattle.zr_law_settled.proofs.Answering.{reply_all, final_all}

abbrev pub carried_in : List Msg → List Carried
carried_in ms = filter_map carried_by ms

-- messages that carry nothing
pub none_carried : (ms : List Msg) → AllByRecursion (λ z. carried_by z ≡ None) ms → carried_in ms ≡ []
none_carried [] h = refl
none_carried (z ∷ ms) h = ap (λ o. cons_option o (carried_in ms)) h.0 ∙ none_carried ms h.1

-- a test that each message passes
pub all_pass : (t : Msg → Bool) (ms : List Msg) → AllByRecursion (λ z. t z ≡ true) ms → list_all t ms ≡ true
all_pass t [] h = refl
all_pass t (z ∷ ms) h = and_from (t z) (list_all t ms) h.0 (all_pass t ms h.1)

abbrev CarriesNone : Msg → Type 0
CarriesNone z = carried_by z ≡ None

none_if : (t : Bool) (ms : List Msg) → AllByRecursion CarriesNone ms → AllByRecursion CarriesNone (cond t ms [])
none_if true ms h = h
none_if false ms h = tt

steps_none : (source : List ℕ) (number : ℕ) (cs : List Change) → AllByRecursion CarriesNone (steps source number cs)
steps_none source number [] = tt
steps_none source number (c ∷ cs) = (refl, steps_none source (number + 1) cs)

module _ (t : TableState) (before : List RecordState) where
  each_none : (name : List ℕ) (logs : List Log) → AllByRecursion CarriesNone (flat_map (λ log. cond (is_new_child before t.base.records t.base.me log.source name) (snapshot log ∷ []) []) logs)
  each_none name [] = tt
  each_none name (log ∷ logs) = All-append CarriesNone (cond (is_new_child before t.base.records t.base.me log.source name) (snapshot log ∷ []) []) _
      (none_if (is_new_child before t.base.records t.base.me log.source name) (snapshot log ∷ []) (refl, tt)) (each_none name logs)

  snapshots_none : (to : ℕ) → AllByRecursion CarriesNone (sends_snapshots t before to)
  snapshots_none to = by (link_at t.links to)
    where
      by : (o : Option LinkPeer) → AllByRecursion CarriesNone (option_map_or (λ l. snapshots_on t before l) o [])
      by None = tt
      by (Some l) = none_if (is_router l.peer.role) (snapshots_for t before l.peer.id) (each_none l.peer.id t.known.logs)

module _ (n : NodeState) where
  rows_none : (rows : List Row) (to : ℕ) → AllByRecursion CarriesNone (sends_rows n rows to)
  rows_none rows to = none_if (is_to_child (tables n) n.base.me to) (steps n.base.me (position n.known n.base.me) (changes n.rows rows)) (steps_none n.base.me (position n.known n.base.me) (changes n.rows rows))

  from_none : (from : ℕ) (msg : Msg) (to : ℕ) → carried_by msg ≡ None → AllByRecursion CarriesNone (sends_from n from msg to)
  from_none from (Sub id key) to e = rows_none _ to
  from_none from (Unsub id) to e = rows_none _ to
  from_none from (Token id key) to e = rows_none _ to
  from_none from (Untoken id) to e = rows_none _ to
  from_none from (Able id key complete) to e = rows_none _ to
  from_none from (Unable id) to e = rows_none _ to
  from_none from (Interest id current future kinds key aggregate) to e = tt
  from_none from (EndInterest id) to e = tt
  from_none from (ToldSub id key interest) to e = tt
  from_none from (ToldToken id key interest) to e = tt
  from_none from (ToldAble id key complete interest) to e = tt
  from_none from (ToldUnsub id) to e = tt
  from_none from (ToldUntoken id) to e = tt
  from_none from (ToldUnable id) to e = tt
  from_none from (ToldEnd interest) to e = tt
  from_none from (Push tree content) to e = absurd (true≢false (ap is_some e))
  from_none from (Request tree id target content) to e = absurd (true≢false (ap is_some e))
  from_none from (Response id content) to e = reply_all CarriesNone (λ number content. refl) n.pending n.held from id content to
  from_none from (Final id extras) to e = final_all CarriesNone (λ number extras. refl) (λ number content. refl) n.pending n.held from id extras to
  from_none from (State r) to e = none_if (leads_to_router n.links from && records.is_newer n.base r && is_other_router n from to) (State r ∷ []) (refl, tt)
  from_none from (Step source number added decl) to e =
      none_if (leads_to_router n.links from && (is_next n.known source number && is_to_child (tables n) source to)) (Step source number added decl ∷ []) (refl, tt)
  from_none from (Snap source number decls) to e =
      none_if (leads_to_router n.links from && (is_newer n.known source number && is_to_child (tables n) source to)) (Snap source number decls ∷ []) (refl, tt)

  pub none_goes_on : (link : LinkNo) (msg : Msg) (to : LinkNo) → carried_by msg ≡ None → AllByRecursion (λ z. carried_by z ≡ None) (sends n (From link msg) to)
  none_goes_on link msg to e = All-append CarriesNone (sends_from n link.0 msg to.0) (sends_snapshots (tables (after n (From link msg))) n.base.records to.0)
      (from_none link.0 msg to.0 e) (snapshots_none (tables (after n (From link msg))) n.base.records to.0)
