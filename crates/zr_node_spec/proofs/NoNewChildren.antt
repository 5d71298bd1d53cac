-- Where each child was one before, no snapshot is sent.
use Rattle.std.proofs.Common.{◌≡◌, ◌&&◌, ◌++◌, not, Bool, true, false, cond, List, [], ◌∷◌, Option, Some, None, refl, sym, ap, ℕ}
use Rattle.std.specs.List.{flat_map}
use Rattle.std.specs.Option.{option_map_or}
use Rattle.std.proofs.lemmas.Bool.{true≢false}
use Rattle.zr_id.specs.Record.{RecordState}
use Rattle.zr_log.specs.declared.log.Log.{Log}
use Rattle.zr_msg.specs.declared.msg.Msg.{Msg}
use Rattle.zr_msg.specs.declared.peer.LinkPeer.{LinkPeer}
use Rattle.zr_node_spec.specs.Snapshots.{is_new_child, snapshot, snapshots_on, sends_snapshots}
use Rattle.zr_node_spec.specs.Tables.{TableState, is_router, link_at}
use Rattle.zr_tree.specs.Tree.{is_child}
use Rattle.zr_tree.specs.Walk.{graph_of}

module _ (t : TableState) (before : List RecordState)
    (same : (root name : List ℕ) → is_child (graph_of before) root t.base.me name ≡ is_child (graph_of t.base.records) root t.base.me name) where
  none_new : (name : List ℕ) (logs : List Log) → flat_map (λ log. cond (is_new_child before t.base.records t.base.me log.source name) (snapshot log ∷ []) []) logs ≡ []
  none_new name [] = refl
  none_new name (log ∷ logs) = by (is_child (graph_of before) log.source t.base.me name) (is_child (graph_of t.base.records) log.source t.base.me name) (same log.source name) (none_new name logs)
    where
      more : List Msg
      more = flat_map (λ l. cond (is_new_child before t.base.records t.base.me l.source name) (snapshot l ∷ []) []) logs

      by : (a b : Bool) → a ≡ b → more ≡ [] → cond (b && not a) (snapshot log ∷ []) [] ++ more ≡ []
      by true true e ih = ih
      by true false e ih = ih
      by false true e ih = absurd (true≢false (sym e))
      by false false e ih = ih

  -- where each child was one before
  pub no_child_is_new : (to : ℕ) → sends_snapshots t before to ≡ []
  no_child_is_new to = by (link_at t.links to)
    where
      role : (l : LinkPeer) (b : Bool) → cond b (flat_map (λ log. cond (is_new_child before t.base.records t.base.me log.source l.peer.id) (snapshot log ∷ []) []) t.known.logs) [] ≡ []
      role l true = none_new l.peer.id t.known.logs
      role l false = refl

      by : (o : Option LinkPeer) → option_map_or (λ l. snapshots_on t before l) o [] ≡ []
      by None = refl
      by (Some l) = role l (is_router l.peer.role)

-- and so where the records are the same
pub no_new_children : (t : TableState) (before : List RecordState) → t.base.records ≡ before → (to : ℕ) → sends_snapshots t before to ≡ []
no_new_children t before e to = no_child_is_new t before (λ root name. ap (λ rs. is_child (graph_of rs) root t.base.me name) (sym e)) to
