-- The parts of an event, by who stands at a link.
use Rattle.std.proofs.Common.{◌≡◌, ℕ, ◌==◌, Bool, true, false, cond, List, [], Option, None, Result, Ok, Err, OnOk, OnErr, option_map, refl, sym, ap, subst, ◌∙◌}
use Rattle.std.specs.Option.{option_map_or, option_or}
use Rattle.std.proofs.lemmas.Bool.{eq-eqb}
use Rattle.zr_flood.specs.Tell.{GoesBy}
use Rattle.zr_graph.specs.Base.{BaseState}
use Rattle.zr_id.specs.declared.link.LinkNo.{LinkNo}
use Rattle.zr_local.specs.Clients.{noted}
use Rattle.zr_local.specs.Rows.{Key, id_kind, declared, undeclared, left, refuses_undeclare}
use Rattle.zr_local.specs.State.{LocalState, refuses_declare, refuses_interest}
use Rattle.zr_local.specs.declared.interest.ClientInterests.{ClientInterests}
use Rattle.zr_local.specs.declared.interest.Interest.{Interest}
use Rattle.zr_local.specs.declared.row.Row.{Row}
use Rattle.zr_msg.specs.declared.decl.Kind.{Kind}
use Rattle.zr_msg.specs.declared.error.NodeError.{NodeError}
use Rattle.zr_msg.specs.declared.event.Event.{Event}
use Rattle.zr_msg.specs.declared.msg.Msg.{Msg}
use Rattle.zr_msg.specs.declared.peer.LinkPeer.{LinkPeer}
use Rattle.zr_node_spec.specs.Tables.{TableState, HaveSameTrees, leads_to_client}
use Rattle.zr_node_spec.specs.State.{NodeState, tables, local_state}
use Rattle.zr_node_spec.specs.Table.{after_from, with_clients, with_rows, sends, sends_from, sends_rows, refuses_from, refuses_rows, refuses_noted, live, local_error}
use Rattle.zr_query.proofs.Told.{nothing_yet, tells_nothing}
use Rattle.zr_node.specs.Answer.{IsJudged}
use Rattle.zr_node.specs.Done.{Part, IsLeft, IsDone}
use Rattle.zr_node.specs.Steps.{event_part, message_part, asked_part, declare_part, undeclare_part, interest_part}
use Rattle.zr_node.specs.declared.asked.Asked.TheVariants.{Declare, Undeclare}
use Rattle.zr_node.specs.declared.failure.NodeFailure.{NodeFailure}
use Rattle.zr_node.specs.declared.failure.NodeFailure.TheVariants.{Refused, NoMemory}
use Rattle.zr_node.proofs.Done.{redone}
use Rattle.zr_node.proofs.Quiet.{nothing_more, rows_stay, rows_silent}

-- tables with the same links and records go by the same
pub goes_by : (t u : TableState) (links : List LinkPeer) (b : BaseState) → HaveSameTrees t u → u.links ≡ links → u.base ≡ b → GoesBy t links b
goes_by t u links b same e f = record { links_are = same.links ∙ e; base_is = same.base ∙ f }

-- ---- a message

-- one that leaves the records as they are makes no new child
pub message_done : (n : NodeState) (from : ℕ) (msg same : Msg) → same ≡ msg → (r : Result (Unit {0}) NodeFailure) (now : NodeState) (said all : List (LinkNo × Msg)) (p : Part) → IsDone p r now said all
    → p.before ≡ n → p.left ≡ after_from n from msg → ((to : ℕ) → p.sends to ≡ sends_from n from msg to) → p.refused ≡ refuses_from n from msg → (after_from n from msg).base ≡ n.base
    → IsDone (message_part n from same) r now said all
message_done n from msg same is r now said all p h before left sends refused base =
    subst (λ (m : Msg). IsDone (message_part n from m) r now said all) (sym is)
    (redone p (message_part n from msg) r now said all before left
    (λ to. sends to ∙ nothing_more (tables (after_from n from msg)) n.base.records (sends_from n from msg to) (ap (λ (b : BaseState). b.records) base) to)
    refused h)

pub at_message : (n : NodeState) (from : ℕ) (msg same : Msg) → same ≡ msg → (r : Result (Unit {0}) NodeFailure) (now : NodeState) (said all : List (LinkNo × Msg)) → IsDone (message_part n from msg) r now said all
    → IsDone (message_part n from same) r now said all
at_message n from msg same is r now said all h = subst (λ (m : Msg). IsDone (message_part n from m) r now said all) (sym is) h

-- a message that a router takes no notice of
pub ignored : (n : NodeState) (from : ℕ) (msg same : Msg) (said : List (LinkNo × Msg)) → same ≡ msg → n ≡ after_from n from msg → ((to : ℕ) → [] ≡ sends_from n from msg to) → None ≡ refuses_from n from msg
    → (after_from n from msg).base ≡ n.base → IsLeft (message_part n from same) n said said
ignored n from msg same said is left sends refused base =
    let nothing : Part = record { before = n; left = n; sends = λ to. []; refused = None } in
    message_done n from msg same is (Ok tt) n said said nothing (record { allowed = refl; state = refl; sends = tells_nothing (λ to. []) said (λ to. refl) }) refl left sends refused base

-- ---- what a link declares

module _ (n : NodeState) (from : ℕ) (r : Row) where
  abbrev declare_by : Bool → Part
  declare_by b =
      record {
        before = n;
        left = with_rows n (cond b (declared n.rows r) n.rows);
        sends = λ to. sends_rows n (cond b (declared n.rows r) n.rows) to;
        refused = cond b (option_or (option_map (λ x. local_error r.id x) (refuses_declare (local_state n) r)) (refuses_rows n (cond b (declared n.rows r) n.rows))) None;
      }

  -- where a client stands there, it is asked
  pub declare_asked : (x : Result (Unit {0}) NodeFailure) (now : NodeState) (said all : List (LinkNo × Msg)) → leads_to_client n.links from ≡ true
      → IsDone (asked_part n (Declare r.link r.id r.decl)) x now said all → IsDone (declare_part n from r) x now said all
  declare_asked x now said all lead h = subst (λ b. IsDone (declare_by b) x now said all) (sym lead) h

  -- and else nothing comes of it
  pub declare_nothing : (said : List (LinkNo × Msg)) → leads_to_client n.links from ≡ false → IsLeft (declare_part n from r) n said said
  declare_nothing said lead =
      subst (λ b. IsLeft (declare_by b) n said said) (sym lead)
      (record { allowed = refl; state = rows_stay n; sends = tells_nothing (λ to. sends_rows n n.rows to) said (rows_silent n) })

module _ (n : NodeState) (link : LinkNo) (id : ℕ) (kind : Kind) where
  abbrev key : Key
  key = record { link = link.0; kind = id_kind kind; id = id }

  abbrev undeclare_by : Bool → Part
  undeclare_by b =
      record {
        before = n;
        left = with_rows n (cond b (undeclared n.rows key) n.rows);
        sends = λ to. sends_rows n (cond b (undeclared n.rows key) n.rows) to;
        refused = cond b (option_or (option_map (λ x. local_error id x) (refuses_undeclare n.rows key)) (refuses_rows n (cond b (undeclared n.rows key) n.rows))) None;
      }

  pub undeclare_asked : (x : Result (Unit {0}) NodeFailure) (now : NodeState) (said all : List (LinkNo × Msg)) → leads_to_client n.links link.0 ≡ true
      → IsDone (asked_part n (Undeclare link id kind)) x now said all → IsDone (undeclare_part n link.0 (record { link = link.0; kind = id_kind kind; id = id })) x now said all
  undeclare_asked x now said all lead h = subst (λ b. IsDone (undeclare_by b) x now said all) (sym lead) h

  pub undeclare_nothing : (said : List (LinkNo × Msg)) → leads_to_client n.links link.0 ≡ false
      → IsLeft (undeclare_part n link.0 (record { link = link.0; kind = id_kind kind; id = id })) n said said
  undeclare_nothing said lead =
      subst (λ b. IsLeft (undeclare_by b) n said said) (sym lead)
      (record { allowed = refl; state = rows_stay n; sends = tells_nothing (λ to. sends_rows n n.rows to) said (rows_silent n) })

-- ---- an interest that is live from now on, or none

pub live_id : (future : Bool) (i : Interest) (o : Option Interest) → o ≡ live future i → option_map_or (λ j. j.id == i.id) o true ≡ true
live_id future i o e = ap (λ (x : Option Interest). option_map_or (λ j. j.id == i.id) x true) e ∙ by future
  where
    by : (b : Bool) → option_map_or (λ j. j.id == i.id) (live b i) true ≡ true
    by true = eq-eqb i.id i.id refl
    by false = refl

-- one that ends isn't refused
pub end_allowed : (n : NodeState) (from id : ℕ) → refuses_noted n from id None ≡ None
end_allowed n from id = by (leads_to_client n.links from)
  where
    nothing : Option NodeError
    nothing = None

    by : (b : Bool) → cond b nothing None ≡ None
    by true = refl
    by false = refl

-- no row is another one then
pub rows_kept : {X E : Type 0} (r : Result X E) (before now : LocalState) (clients : List ClientInterests) → OnOk r (now ≡ record { rows = before.rows; clients = clients }) → OnErr r (now ≡ before) → now.rows ≡ before.rows
rows_kept (Ok x) before now clients h k = ap (λ (l : LocalState). l.rows) h
rows_kept (Err e) before now clients h k = ap (λ (l : LocalState). l.rows) k

module _ (n : NodeState) (link : LinkNo) (id : ℕ) (i : Option Interest) where
  abbrev interest_by : Bool → Part
  interest_by b =
      record {
        before = n;
        left = with_clients n (cond b (noted n.clients link id i) n.clients);
        sends = λ to. [];
        refused = cond b (option_map (λ x. local_error id x) (refuses_interest (local_state n) link id i)) None;
      }

  pub interest_nothing : (said : List (LinkNo × Msg)) → leads_to_client n.links link.0 ≡ false → IsLeft (interest_part n link.0 id i) n said said
  interest_nothing said lead =
      subst (λ b. IsLeft (interest_by b) n said said) (sym lead) (record { allowed = refl; state = refl; sends = tells_nothing (λ to. []) said (λ to. refl) })

  pub interest_noted : (r : Result (Unit {0}) NodeFailure) (now : NodeState) (said : List (LinkNo × Msg)) → leads_to_client n.links link.0 ≡ true
      → OnOk r (now ≡ with_clients n (noted n.clients link id i)) → IsJudged (option_map (λ x. local_error id x) (refuses_interest (local_state n) link id i)) r → OnErr r (now ≡ n)
      → IsDone (interest_part n link.0 id i) r now said said
  interest_noted r now said lead state judged same = subst (λ b. IsDone (interest_by b) r now said said) (sym lead) (by r state judged same)
    where
      by : (r : Result (Unit {0}) NodeFailure) → OnOk r (now ≡ with_clients n (noted n.clients link id i)) → IsJudged (option_map (λ x. local_error id x) (refuses_interest (local_state n) link id i)) r
          → OnErr r (now ≡ n) → IsDone (interest_by true) r now said said
      by (Ok x) s j u = record { allowed = j; state = s; sends = tells_nothing (λ to. []) said (λ to. refl) }
      by (Err (Refused why)) s j u = record { refused = j; state = u; sends = refl }
      by (Err NoMemory) s j u = record { late = j; sends = nothing_yet (λ to. []) said }

-- ---- the same event

pub at_event : (n : NodeState) (event same : Event) → event ≡ same → (r : Result (Unit {0}) NodeFailure) (now : NodeState) (said all : List (LinkNo × Msg)) → IsDone (event_part n same) r now said all → IsDone (event_part n event) r now said all
at_event n event same e r now said all h = subst (λ (x : Event). IsDone (event_part n x) r now said all) (sym e) h
