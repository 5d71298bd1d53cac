-- What holds of a router where each event was taken that it doesn't refuse: its clients' declarations and live interests together, and what it knows of logs,
-- weigh no more than they may.
use Rattle.std.proofs.Common.{◌≡◌, ℕ, ◌+◌, ◌≤◌, Bool, true, false, cond, List, Option, Some, None, option_map, refl, arith}
use Rattle.std.specs.Option.{option_or}
use Rattle.zr_msg.specs.declared.decl.Decl.{Decl}
use Rattle.zr_msg.specs.declared.decl.Kind.TheVariants as kind
use Rattle.zr_msg.specs.declared.error.NodeError.{NodeError}
use Rattle.zr_msg.specs.declared.event.Event.{Event}
use Rattle.zr_msg.specs.declared.event.Event.TheVariants.{Up, Down, From}
use Rattle.zr_msg.specs.declared.msg.Msg.{Msg}
use Rattle.zr_msg.specs.declared.msg.Msg.TheVariants.{Sub, Unsub, Token, Untoken, Able, Unable, Interest, EndInterest, ToldSub, ToldAble, ToldUnsub, ToldToken, ToldUntoken, ToldUnable, ToldEnd, Push, Request, Response, Final, State, Step, Snap}
use Rattle.zr_log_set.specs.Decls.{decl_weight, most_weight}
use Rattle.zr_local.specs.Clients.{clients_left, clients_weight, noted, weight_but}
use Rattle.zr_local.specs.Interests.{interest_weight}
use Rattle.zr_local.specs.Rows.{Key, row_key, undeclared, weight_of}
use Rattle.zr_local.specs.State.{held_weight, refuses_declare, refuses_interest}
use Rattle.zr_local.specs.declared.error.LocalError.TheVariants.{TextLimit}
use Rattle.zr_local.specs.declared.interest.ClientInterests.{ClientInterests}
use Rattle.zr_local.specs.declared.interest.Interest.{Interest as LiveInterest}
use Rattle.zr_local.specs.declared.row.Row.{Row}
use Rattle.zr_local.proofs.Live.{kept_weighs}
use Rattle.zr_log.specs.Known.{KnownState, after_snap, after_step, refuses_snap, refuses_step}
use Rattle.zr_log.specs.Log.{Change}
use Rattle.zr_node_spec.specs.Queries.{link_no}
use Rattle.zr_node_spec.specs.Tables.{leads_to_client, leads_to_router}
use Rattle.zr_node_spec.specs.State.{NodeState, local_state, new_node}
use Rattle.zr_node_spec.specs.Table.{able_kind, after, after_down, after_from, clients_noted, key_of, known_error, live, local_error, refuses, refuses_declared, refuses_from, refuses_noted, refuses_rows, row, rows_declared, rows_left, rows_undeclared, with_clients, with_known, with_rows}
use Rattle.zr_local.specs.Rows as local
use Rattle.zr_law_sent.proofs.Logs.{AreKept, kept_none, kept_rows, kept_snap, kept_step}
use Rattle.zr_law_sent.proofs.Weights.{clients_left_light, declared_light, forgotten_light, left_light, undeclared_light, within_limit}

pub record IsKept (node : NodeState) : Type 0 where
  pub logs : AreKept node.known node.rows
  pub light : held_weight (local_state node) ≤ most_weight

pub kept_new : (me : List ℕ) → IsKept (new_node me)
kept_new me = record { logs = kept_none me; light = omega arith }

-- ---- refusals

pub neither : {E : Type 0} (a b : Option E) → option_or a b ≡ None → a ≡ None
neither None b is = refl
neither (Some e) b is = cc

unmapped : {E F : Type 0} (f : E → F) (o : Option E) → option_map f o ≡ None → o ≡ None
unmapped f None is = refl
unmapped f (Some e) is = cc

-- ---- rows

rows_kept : (node : NodeState) (rows : List Row) → IsKept node → weight_of rows + clients_weight node.clients ≤ most_weight → IsKept (with_rows node rows)
rows_kept node rows h light = record { logs = kept_rows node.known node.rows rows h.logs; light = light }

declared_kept : (node : NodeState) (from : ℕ) (r : Row) → IsKept node → refuses_declared node from r ≡ None → IsKept (with_rows node (rows_declared node from r))
declared_kept node from r h may =
    rows_kept node (rows_declared node from r) h (by (leads_to_client node.links from) (refuses_rows node (rows_declared node from r)) may)
  where
    by : (t : Bool) (o : Option NodeError) → cond t (option_or (option_map (λ x. local_error r.id x) (refuses_declare (local_state node) r)) o) None ≡ None →
        weight_of (cond t (local.declared node.rows r) node.rows) + clients_weight node.clients ≤ most_weight
    by false o may = h.light
    by true o may =
        let held : ℕ = weight_of (undeclared node.rows (row_key r)) + clients_weight node.clients in
        let none : refuses_declare (local_state node) r ≡ None =
        unmapped (λ x. local_error r.id x) (refuses_declare (local_state node) r) (neither (option_map (λ x. local_error r.id x) (refuses_declare (local_state node) r)) o may) in
        let light = within_limit (held + decl_weight r.decl) (TextLimit held (decl_weight r.decl)) none in
        omega (arith, light, declared_light node.rows r)

undeclared_kept : (node : NodeState) (from : ℕ) (k : Key) → IsKept node → IsKept (with_rows node (rows_undeclared node from k))
undeclared_kept node from k h = rows_kept node (rows_undeclared node from k) h (by (leads_to_client node.links from))
  where
    by : (t : Bool) → weight_of (cond t (undeclared node.rows k) node.rows) + clients_weight node.clients ≤ most_weight
    by false = h.light
    by true = omega (arith, h.light, undeclared_light node.rows k)

left_kept : (node : NodeState) (from : ℕ) → IsKept node → IsKept (with_rows node (rows_left node from))
left_kept node from h = rows_kept node (rows_left node from) h (by (leads_to_client node.links from))
  where
    by : (t : Bool) → weight_of (cond t (local.left node.rows from) node.rows) + clients_weight node.clients ≤ most_weight
    by false = h.light
    by true = omega (arith, h.light, left_light node.rows from)

-- ---- live interests

clients_kept : (node : NodeState) (clients : List ClientInterests) → IsKept node → weight_of node.rows + clients_weight clients ≤ most_weight → IsKept (with_clients node clients)
clients_kept node clients h light = record { logs = h.logs; light = light }

ended_kept : (node : NodeState) (from id : ℕ) → IsKept node → IsKept (with_clients node (clients_noted node from id None))
ended_kept node from id h = clients_kept node (clients_noted node from id None) h (by (leads_to_client node.links from))
  where
    by : (t : Bool) → weight_of node.rows + clients_weight (cond t (noted node.clients (link_no from) id None) node.clients) ≤ most_weight
    by false = h.light
    by true = omega (arith, h.light, forgotten_light node.clients (link_no from) id)

live_kept : (node : NodeState) (from : ℕ) (i : LiveInterest) → IsKept node → refuses_noted node from i.id (Some i) ≡ None → IsKept (with_clients node (clients_noted node from i.id (Some i)))
live_kept node from i h may = clients_kept node (clients_noted node from i.id (Some i)) h (by (leads_to_client node.links from) may)
  where
    by : (t : Bool) → cond t (option_map (λ x. local_error i.id x) (refuses_interest (local_state node) (link_no from) i.id (Some i))) None ≡ None →
        weight_of node.rows + clients_weight (cond t (noted node.clients (link_no from) i.id (Some i)) node.clients) ≤ most_weight
    by false may = h.light
    by true may =
        let held : ℕ = weight_of node.rows + weight_but node.clients (link_no from) i.id in
        let none : refuses_interest (local_state node) (link_no from) i.id (Some i) ≡ None =
        unmapped (λ x. local_error i.id x) (refuses_interest (local_state node) (link_no from) i.id (Some i)) may in
        let light = within_limit (held + interest_weight i) (TextLimit held (interest_weight i)) none in
        omega (arith, light, kept_weighs node.clients (link_no from) i)

interest_kept : (node : NodeState) (from : ℕ) (i : LiveInterest) (future : Bool) → IsKept node → refuses_noted node from i.id (live future i) ≡ None →
    IsKept (with_clients node (clients_noted node from i.id (live future i)))
interest_kept node from i true h may = live_kept node from i h may
interest_kept node from i false h may = ended_kept node from i.id h

-- ---- links

down_kept : (node : NodeState) (link : ℕ) → IsKept node → IsKept (after_down node link)
down_kept node link h = record { logs = h.logs; light = by (leads_to_client node.links link) }
  where
    by : (t : Bool) → weight_of node.rows + clients_weight (cond t (clients_left node.clients link) node.clients) ≤ most_weight
    by false = h.light
    by true = omega (arith, h.light, clients_left_light node.clients link)

-- ---- logs of other routers

known_kept : (node : NodeState) (known : KnownState) → IsKept node → AreKept known node.rows → IsKept (with_known node known)
known_kept node known h logs = record { logs = logs; light = h.light }

step_kept : (node : NodeState) (source : List ℕ) (number : ℕ) (c : Change) (t : Bool) → IsKept node →
    cond t (option_map (λ x. known_error x) (refuses_step node.known source number c)) None ≡ None → IsKept (with_known node (cond t (after_step node.known source number c) node.known))
step_kept node source number c false h may = known_kept node node.known h h.logs
step_kept node source number c true h may =
    known_kept node (after_step node.known source number c) h
    (kept_step node.known node.rows source number c h.logs (unmapped (λ x. known_error x) (refuses_step node.known source number c) may))

snap_kept : (node : NodeState) (source : List ℕ) (number : ℕ) (ds : List Decl) (t : Bool) → IsKept node →
    cond t (option_map (λ x. known_error x) (refuses_snap node.known source number ds)) None ≡ None → IsKept (with_known node (cond t (after_snap node.known source number ds) node.known))
snap_kept node source number ds false h may = known_kept node node.known h h.logs
snap_kept node source number ds true h may =
    known_kept node (after_snap node.known source number ds) h
    (kept_snap node.known node.rows source number ds h.logs (unmapped (λ x. known_error x) (refuses_snap node.known source number ds) may))

-- ---- events

from_kept : (node : NodeState) (from : ℕ) (msg : Msg) → IsKept node → refuses_from node from msg ≡ None → IsKept (after_from node from msg)
from_kept node from (Sub id key) h may = declared_kept node from (row from id kind.Sub key) h may
from_kept node from (Unsub id) h may = undeclared_kept node from (key_of from id kind.Sub) h
from_kept node from (Token id key) h may = declared_kept node from (row from id kind.Token key) h may
from_kept node from (Untoken id) h may = undeclared_kept node from (key_of from id kind.Token) h
from_kept node from (Able id key complete) h may = declared_kept node from (row from id (able_kind complete) key) h may
from_kept node from (Unable id) h may = undeclared_kept node from (key_of from id kind.Able) h
from_kept node from (Interest id current future kinds key aggregate) h may =
    interest_kept node from (record { id = id; kinds = kinds; key = key; aggregate = aggregate }) future h may
from_kept node from (EndInterest id) h may = ended_kept node from id h
from_kept node from (ToldSub id key interest) h may = h
from_kept node from (ToldToken id key interest) h may = h
from_kept node from (ToldAble id key complete interest) h may = h
from_kept node from (ToldUnsub id) h may = h
from_kept node from (ToldUntoken id) h may = h
from_kept node from (ToldUnable id) h may = h
from_kept node from (ToldEnd interest) h may = h
from_kept node from (Push tree content) h may = h
from_kept node from (Request tree id target content) h may = record { logs = h.logs; light = h.light }
from_kept node from (Response id content) h may = record { logs = h.logs; light = h.light }
from_kept node from (Final id extras) h may = record { logs = h.logs; light = h.light }
from_kept node from (State links) h may = record { logs = h.logs; light = h.light }
from_kept node from (Step source number added decl) h may = step_kept node source number (record { added = added; decl = decl }) (leads_to_router node.links from) h may
from_kept node from (Snap source number decls) h may = snap_kept node source number decls (leads_to_router node.links from) h may

pub kept_after : (node : NodeState) (event : Event) → IsKept node → refuses node event ≡ None → IsKept (after node event)
kept_after node (Up link peer) h may = record { logs = h.logs; light = h.light }
kept_after node (Down link) h may = down_kept (with_rows node (rows_left node link.0)) link.0 (left_kept node link.0 h)
kept_after node (From link msg) h may = from_kept node link.0 msg h may
