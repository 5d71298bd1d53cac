-- What the table refuses is neither that the router is spent nor that memory ran out.
use Rattle.std.proofs.Common.{◌≡◌, ℕ, Bool, true, false, cond, nat_lt, ◌+◌, List, Option, Some, None, option_map, is_some, subst, ◌||◌, ◌&&◌}
use Rattle.std.specs.Option.{option_or}
use Rattle.zr_graph.specs.Base.{BaseState}
use Rattle.zr_id.specs.declared.link.LinkNo.{LinkNo}
use Rattle.zr_local.specs.Clients.{clients_weight, weight_but}
use Rattle.zr_local.specs.Interests.{interest_weight}
use Rattle.zr_local.specs.Rows as rows
use Rattle.zr_local.specs.State.{refuses_declare, refuses_interest}
use Rattle.zr_local.specs.declared.error.LocalError.TheVariants as local
use Rattle.zr_local.specs.declared.interest.Interest.{Interest}
use Rattle.zr_local.specs.declared.row.Row.{Row}
use Rattle.zr_log.specs.Known as known
use Rattle.zr_log.specs.Log.{Change, change_held, change_more}
use Rattle.zr_log.specs.declared.error.KnownError.TheVariants as log
use Rattle.zr_msg.specs.declared.decl.Decl.{Decl}
use Rattle.zr_msg.specs.declared.decl.Kind.TheVariants as kind
use Rattle.zr_msg.specs.declared.error.NodeError.{NodeError}
use Rattle.zr_msg.specs.declared.error.NodeError.TheVariants as e
use Rattle.zr_msg.specs.declared.event.Event.{Event}
use Rattle.zr_msg.specs.declared.event.Event.TheVariants.{Up, Down, From}
use Rattle.zr_msg.specs.declared.msg.Msg.{Msg}
use Rattle.zr_msg.specs.declared.msg.Msg.TheVariants as msg
use Rattle.zr_msg.specs.declared.peer.LinkPeer.{LinkPeer}
use Rattle.zr_msg.specs.declared.peer.Role.{Role}
use Rattle.zr_msg.specs.declared.peer.Role.TheVariants.{Client, Router}
use Rattle.zr_pend_spec.specs.Pending.{asked}
use Rattle.zr_node_spec.specs.Changes.{changes, have_no_room}
use Rattle.zr_node_spec.specs.Queries.{link_no, asked_links, asker, asks_most, has_no_number, most_pending}
use Rattle.zr_node_spec.specs.Tables.{link_at, leads_to_client, leads_to_router}
use Rattle.zr_log_set.specs.Decls.{decl_weight, most_weight, set_of, weight}
use Rattle.zr_node_spec.specs.State.{NodeState, tables, local_state}
use Rattle.zr_node_spec.specs.Table.{refuses, refuses_up, refuses_parting, refuses_down, refuses_rows, refuses_declared, refuses_undeclared, refuses_noted, refuses_step_from, refuses_snap_from, refuses_from, refuses_request, local_error, known_error, is_worn, is_full, able_kind, live, row, key_of, rows_declared, rows_undeclared, rows_left}

abbrev pub IsOfTable : NodeError → Type 0
IsOfTable (e.Gap router has came) = Unit {0}
IsOfTable (e.NotDeclared id) = Unit {0}
IsOfTable (e.TextLimit held more) = Unit {0}
IsOfTable (e.NumberTaken id) = Unit {0}
IsOfTable (e.TooMany pending) = Unit {0}
IsOfTable e.Worn = Unit {0}
IsOfTable e.Spent = ⊥
IsOfTable e.NoMemory = ⊥

abbrev pub AreOfTable : Option NodeError → Type 0
AreOfTable None = Unit {0}
AreOfTable (Some x) = IsOfTable x

either : (b : Bool) (x y : Option NodeError) → AreOfTable x → AreOfTable y → AreOfTable (cond b x y)
either true x y h k = h
either false x y h k = k

first : (x y : Option NodeError) → AreOfTable x → AreOfTable y → AreOfTable (option_or x y)
first None y h k = k
first (Some x) y h k = h

worn : (b : Bool) → AreOfTable (cond b (Some e.Worn) None)
worn true = tt
worn false = tt

up : (b : BaseState) (role : Role) → AreOfTable (refuses_up b role)
up b Client = tt
up b Router = by (is_worn b) (is_full b)
  where
    by : (x y : Bool) → AreOfTable (cond (x || y) (Some e.Worn) None)
    by true y = tt
    by false y = worn y

parting : (b : BaseState) (role : Role) → AreOfTable (refuses_parting b role)
parting b Client = tt
parting b Router = worn (is_worn b)

down : (b : BaseState) (o : Option LinkPeer) → AreOfTable (refuses_down b o)
down b None = tt
down b (Some l) = parting b l.peer.role

limit : (id : ℕ) (held more : ℕ) → AreOfTable (option_map (λ x. local_error id x) (rows.over_limit held more))
limit id held more = by (nat_lt most_weight (held + more))
  where
    by : (b : Bool) → AreOfTable (option_map (λ x. local_error id x) (cond b (Some (local.TextLimit held more)) None))
    by true = tt
    by false = tt

log_limit : (held more : ℕ) → AreOfTable (option_map (λ x. known_error x) (known.over_limit held more))
log_limit held more = by (nat_lt most_weight (held + more))
  where
    by : (b : Bool) → AreOfTable (option_map (λ x. known_error x) (cond b (Some (log.TextLimit held more)) None))
    by true = tt
    by false = tt

absent : (id : ℕ) (b : Bool) → AreOfTable (option_map (λ x. local_error id x) (cond b None (Some local.UnknownId)))
absent id true = tt
absent id false = tt

pub of_rows : (n : NodeState) (rs : List Row) → AreOfTable (refuses_rows n rs)
of_rows n rs = worn (have_no_room n.known (changes n.rows rs))

module _ (n : NodeState) (from : ℕ) where
  of_declared : (r : Row) → AreOfTable (refuses_declared n from r)
  of_declared r =
      either (leads_to_client n.links from) (option_or (option_map (λ x. local_error r.id x) (refuses_declare (local_state n) r)) (refuses_rows n (rows_declared n from r))) None
      (first (option_map (λ x. local_error r.id x) (refuses_declare (local_state n) r)) (refuses_rows n (rows_declared n from r))
      (limit r.id (rows.weight_of (rows.undeclared n.rows (rows.row_key r)) + clients_weight n.clients) (decl_weight r.decl)) (of_rows n (rows_declared n from r)))
      tt

  of_undeclared : (k : rows.Key) → AreOfTable (refuses_undeclared n from k)
  of_undeclared k =
      either (leads_to_client n.links from) (option_or (option_map (λ x. local_error k.id x) (rows.refuses_undeclare n.rows k)) (refuses_rows n (rows_undeclared n from k))) None
      (first (option_map (λ x. local_error k.id x) (rows.refuses_undeclare n.rows k)) (refuses_rows n (rows_undeclared n from k))
      (absent k.id (is_some (rows.row_at n.rows k))) (of_rows n (rows_undeclared n from k)))
      tt

  of_noted : (id : ℕ) (i : Option Interest) → AreOfTable (refuses_noted n from id i)
  of_noted id i = either (leads_to_client n.links from) (option_map (λ x. local_error id x) (refuses_interest (local_state n) (link_no from) id i)) None (by i) tt
    where
      by : (o : Option Interest) → AreOfTable (option_map (λ x. local_error id x) (refuses_interest (local_state n) (link_no from) id o))
      by None = tt
      by (Some x) = limit id (rows.weight_of n.rows + weight_but n.clients (link_no from) id) (interest_weight x)

  of_step : (source : List ℕ) (number : ℕ) (c : Change) → AreOfTable (refuses_step_from n from source number c)
  of_step source number c =
      either (leads_to_router n.links from) (option_map (λ x. known_error x) (known.refuses_step n.known source number c)) None
      (by (known.is_gap n.known source number) (known.is_next n.known source number))
      tt
    where
      by : (a b : Bool) → AreOfTable (option_map (λ x. known_error x)
          (cond a (Some (log.Gap source (known.position n.known source) number)) (cond b (known.over_limit (change_held (known.decls n.known source) c) (change_more c)) None)))
      by true b = tt
      by false true = log_limit (change_held (known.decls n.known source) c) (change_more c)
      by false false = tt

  of_snap : (source : List ℕ) (number : ℕ) (ds : List Decl) → AreOfTable (refuses_snap_from n from source number ds)
  of_snap source number ds =
      either (leads_to_router n.links from) (option_map (λ x. known_error x) (known.refuses_snap n.known source number ds)) None
      (by (known.is_newer n.known source number))
      tt
    where
      by : (a : Bool) → AreOfTable (option_map (λ x. known_error x) (cond a (known.over_limit 0 (weight (set_of ds))) None))
      by true = log_limit 0 (weight (set_of ds))
      by false = tt

  of_request : (id : ℕ) (links : List LinkNo) → AreOfTable (refuses_request n from id links)
  of_request id links =
      either (asked (asker from id) n.pending) (Some (e.NumberTaken id)) (cond (leads_to_client n.links from && asks_most n.pending from) (Some (e.TooMany most_pending)) (cond (has_no_number n.pending links) (Some e.Worn) None))
      tt
      (either (leads_to_client n.links from && asks_most n.pending from) (Some (e.TooMany most_pending)) (cond (has_no_number n.pending links) (Some e.Worn) None) tt (worn (has_no_number n.pending links)))

  of_message : (m : Msg) → AreOfTable (refuses_from n from m)
  of_message (msg.Sub id key) = of_declared (row from id kind.Sub key)
  of_message (msg.Unsub id) = of_undeclared (key_of from id kind.Sub)
  of_message (msg.Token id key) = of_declared (row from id kind.Token key)
  of_message (msg.Untoken id) = of_undeclared (key_of from id kind.Token)
  of_message (msg.Able id key complete) = of_declared (row from id (able_kind complete) key)
  of_message (msg.Unable id) = of_undeclared (key_of from id kind.Able)
  of_message (msg.Interest id current future kinds key aggregate) = of_noted id (live future (record { id = id; kinds = kinds; key = key; aggregate = aggregate }))
  of_message (msg.EndInterest id) = tt
  of_message (msg.ToldSub id key interest) = tt
  of_message (msg.ToldToken id key interest) = tt
  of_message (msg.ToldAble id key complete interest) = tt
  of_message (msg.ToldUnsub id) = tt
  of_message (msg.ToldUntoken id) = tt
  of_message (msg.ToldUnable id) = tt
  of_message (msg.ToldEnd interest) = tt
  of_message (msg.Push tree content) = tt
  of_message (msg.Request tree id target content) = of_request id (asked_links (tables n) from tree target content.key)
  of_message (msg.Response id content) = tt
  of_message (msg.Final id extras) = tt
  of_message (msg.State links) = tt
  of_message (msg.Step source number added decl) = of_step source number (record { added = added; decl = decl })
  of_message (msg.Snap source number decls) = of_snap source number decls

of_event : (n : NodeState) (event : Event) → AreOfTable (refuses n event)
of_event n (Up link peer) = up n.base peer.role
of_event n (Down link) =
    first (refuses_down n.base (link_at n.links link.0)) (refuses_rows n (rows_left n link.0)) (down n.base (link_at n.links link.0)) (of_rows n (rows_left n link.0))
of_event n (From link m) = of_message n link.0 m

-- so an answer that is refused is neither
pub not_memory : (n : NodeState) (event : Event) → refuses n event ≡ Some e.NoMemory → ⊥
not_memory n event h = subst AreOfTable h (of_event n event)

pub not_spent : (n : NodeState) (event : Event) → refuses n event ≡ Some e.Spent → ⊥
not_spent n event h = subst AreOfTable h (of_event n event)
