-- Where the edges stay there are no new children. Rows that stay change nothing.
use Rattle.std.proofs.Common.{◌≡◌, ℕ, ◌+◌, ◌-◌, ◌^◌, ◌<◌, nat_lt, ◌++◌, Bool, true, false, cond, List, [], Some, None, Result, Ok, Err, OnOk, OnErr, refl, sym, ap, subst, ◌∙◌, arith}
use Rattle.std.proofs.lemmas.Bool.{false_from_ne_true, ltb-true}
use Rattle.std.proofs.lemmas.List.{append-nil}
use Rattle.zr_graph.specs.Base.{BaseState}
use Rattle.zr_id.specs.Record.{RecordState}
use Rattle.zr_id.specs.declared.link.LinkNo.{LinkNo}
use Rattle.zr_log.specs.Known.{position}
use Rattle.zr_msg.specs.declared.error.NodeError.TheVariants.{Worn}
use Rattle.zr_node_spec.specs.Changes.{after_changes, sends_changes, have_no_room}
use Rattle.zr_node_spec.specs.Event.{Tells, TellsPrefix}
use Rattle.zr_node_spec.specs.State.{NodeState, tables}
use Rattle.zr_node_spec.specs.Table.{with_rows, sends_rows, refuses_rows}
use Rattle.zr_msg.specs.declared.msg.Msg.{Msg}
use Rattle.zr_node_spec.specs.Snapshots.{sends_snapshots}
use Rattle.zr_node_spec.specs.Tables.{TableState, is_to_child}
use Rattle.zr_node_spec.proofs.NoNewChildren.{no_child_is_new, no_new_children}
use Rattle.zr_node_spec.proofs.Changes.{no_changes}
use Rattle.zr_tree.specs.Same.{HaveSameEdges}
use Rattle.zr_tree.proofs.Stays.{child_stays}
use Rattle.zr_query.proofs.Told.{nothing_yet, tells_nothing}

-- records of the same edges
pub no_child_by_edges : (t : TableState) (before records : List RecordState) → before ≡ records → HaveSameEdges before t.base.records → (to : ℕ) → sends_snapshots t records to ≡ []
no_child_by_edges t before records e same to =
    subst (λ (rs : List RecordState). sends_snapshots t rs to ≡ []) e (no_child_is_new t before (λ root name. child_stays before t.base.records same root t.base.me name) to)

-- so there is nothing to say of them
pub quiet_ok : {X Y : Type 0} (n : NodeState) (before base : BaseState) (r : Result X Y) (said : List (LinkNo × Msg)) → HaveSameEdges before.records n.base.records → before ≡ base →
    OnOk r (Tells (sends_snapshots (tables n) base.records) said said)
quiet_ok n before base (Ok x) said same e = tells_nothing (sends_snapshots (tables n) base.records) said (λ to. no_child_by_edges (tables n) before.records base.records (ap (λ (b : BaseState). b.records) e) same to)
quiet_ok n before base (Err x) said same e = tt

pub quiet_err : {X Y : Type 0} (n : NodeState) (records : List RecordState) (r : Result X Y) (said : List (LinkNo × Msg)) → OnErr r (TellsPrefix (sends_snapshots (tables n) records) said said)
quiet_err n records (Ok x) said = tt
quiet_err n records (Err x) said = nothing_yet (sends_snapshots (tables n) records) said

-- what is said stays all that is said
pub nothing_more : (t : TableState) (before : List RecordState) (said : List Msg) → t.base.records ≡ before → (to : ℕ) → said ≡ said ++ sends_snapshots t before to
nothing_more t before said e to = sym (append-nil said) ∙ ap (λ ms. said ++ ms) (sym (no_new_children t before e to))

-- ---- rows that stay

-- the router stays, and tells nothing of them
pub rows_stay : (n : NodeState) → n ≡ with_rows n n.rows
rows_stay n = ap (λ cs. record { links = n.links; base = n.base; rows = n.rows; clients = n.clients; known = after_changes n.known cs; pending = n.pending; held = n.held; spent = n.spent }) (sym (no_changes n.rows))

pub rows_silent : (n : NodeState) (to : ℕ) → sends_rows n n.rows to ≡ []
rows_silent n to = ap (λ cs. sends_changes (tables n) cs to) (no_changes n.rows) ∙ by (is_to_child (tables n) n.base.me to)
  where
    nothing : List Msg
    nothing = []

    by : (b : Bool) → cond b nothing [] ≡ []
    by true = refl
    by false = refl

pub rows_allowed : (n : NodeState) → position n.known n.known.me < 2 ^ 64 → refuses_rows n n.rows ≡ None
rows_allowed n less =
    ap (λ cs. cond (have_no_room n.known cs) (Some Worn) None) (no_changes n.rows)
    ∙ ap (λ b. cond b (Some Worn) None) (false_from_ne_true (nat_lt (2 ^ 64 - 1) (position n.known n.known.me + 0)) (λ t. let u = ltb-true (2 ^ 64 - 1) (position n.known n.known.me + 0) t in absurd (omega (arith, u))))
