-- What of a refusal is found without memory, where it is one thing or else another.
use Rattle.std.proofs.Common.{◌≡◌, ℕ, ◌+◌, ◌&&◌, ◌||◌, nat_lt, Bool, true, false, cond, List, Option, Some, None, Result, Ok, Err, ◌⊎◌, inl, inr, option_map, refl, sym, ap, subst, ◌∙◌}
use Rattle.std.specs.Option.{option_or}
use Rattle.std.specs.Result.{IsErrAnd}
use Rattle.zr_graph.specs.Base.{BaseState}
use Rattle.zr_id.specs.declared.link.LinkNo.{LinkNo}
use Rattle.zr_local.specs.Rows.{Key, refuses_undeclare}
use Rattle.zr_local.specs.State.{refuses_declare, refuses_interest}
use Rattle.zr_local.specs.declared.interest.Interest.{Interest}
use Rattle.zr_local.specs.declared.row.Row.{Row}
use Rattle.zr_log.specs.Known.{is_newer, refuses_step}
use Rattle.zr_log.specs.Log.{Change}
use Rattle.zr_log.specs.declared.error.KnownError.{KnownError}
use Rattle.zr_log.specs.declared.error.KnownError.TheVariants as known
use Rattle.zr_log_set.specs.Decls.{most_weight, set_of, weight}
use Rattle.zr_msg.specs.declared.decl.Decl.{Decl}
use Rattle.zr_msg.specs.declared.error.NodeError.{NodeError}
use Rattle.zr_msg.specs.declared.error.NodeError.TheVariants.{NumberTaken, TooMany, Worn}
use Rattle.zr_msg.specs.declared.event.Event.{Event}
use Rattle.zr_msg.specs.declared.event.Event.TheVariants.{Up, Down, From}
use Rattle.zr_msg.specs.declared.msg.Msg.{Msg}
use Rattle.zr_msg.specs.declared.msg.Msg.TheVariants.{Snap}
use Rattle.zr_msg.specs.declared.peer.LinkPeer.{LinkPeer}
use Rattle.zr_msg.specs.Peer.{PeerState}
use Rattle.zr_msg.specs.declared.peer.Role.{Role}
use Rattle.zr_msg.specs.declared.peer.Role.TheVariants.{Client, Router}
use Rattle.zr_node_spec.specs.Changes.{changes, have_no_room}
use Rattle.zr_node_spec.specs.Early.{is_early}
use Rattle.zr_node_spec.specs.Queries.{asker, asks_most, has_no_number, link_no, most_pending}
use Rattle.zr_node_spec.specs.State.{NodeState, local_state}
use Rattle.zr_node_spec.specs.Table.{is_full, is_worn, known_error, local_error, refuses, refuses_declared, refuses_down, refuses_from, refuses_noted, refuses_parting, refuses_request, refuses_rows, refuses_snap_from, refuses_step_from, refuses_undeclared, refuses_up, rows_declared, rows_left, rows_undeclared}
use Rattle.zr_node_spec.specs.Tables.{leads_to_client, leads_to_router, link_at}
use Rattle.zr_node.specs.Answer.{IsFound, IsJudged, lacking}
use Rattle.zr_node.specs.Asked.{refuses_asked, refuses_change, rows_after}
use Rattle.zr_node.specs.Requests.{refuses_asker}
use Rattle.zr_node.specs.declared.asked.Asked.{Asked}
use Rattle.zr_node.specs.declared.failure.NodeFailure.{NodeFailure}
use Rattle.zr_node.specs.declared.failure.NodeFailure.TheVariants.{Refused, NoMemory}
use Rattle.zr_pend_spec.specs.Pending.{asked}

-- ---- what isn't found so

-- nothing is
pub none_late : (r : Option NodeError) → r ≡ None → is_early r ≡ false
none_late r e = ap is_early e

-- a number that has no room
pub worn_late : (b : Bool) → is_early (cond b (Some Worn) None) ≡ false
worn_late true = refl
worn_late false = refl

pub rows_late : (n : NodeState) (rows : List Row) → is_early (refuses_rows n rows) ≡ false
rows_late n rows = worn_late (have_no_room n.known (changes n.rows rows))

pub up_late : (b : BaseState) (role : Role) → is_early (refuses_up b role) ≡ false
up_late b Client = refl
up_late b Router = worn_late (is_worn b || is_full b)

pub parting_late : (b : BaseState) (role : Role) → is_early (refuses_parting b role) ≡ false
parting_late b Client = refl
parting_late b Router = worn_late (is_worn b)

down_late : (b : BaseState) (o : Option LinkPeer) → is_early (refuses_down b o) ≡ false
down_late b None = refl
down_late b (Some l) = parting_late b l.peer.role

-- the weight of a snapshot
pub snap_late : (n : NodeState) (from : ℕ) (source : List ℕ) (number : ℕ) (decls : List Decl) → is_early (refuses_snap_from n from source number decls) ≡ false
snap_late n from source number decls = by (leads_to_router n.links from) (is_newer n.known source number) (nat_lt most_weight (0 + weight (set_of decls)))
  where
    by : (a b c : Bool) → is_early (cond a (option_map (λ x. known_error x) (cond b (cond c (Some (known.TextLimit 0 (weight (set_of decls)))) None) None)) None) ≡ false
    by true true true = refl
    by true true false = refl
    by true false c = refl
    by false b c = refl

-- a change that isn't refused
pub step_late : (n : NodeState) (from : ℕ) (source : List ℕ) (number : ℕ) (c : Change) → refuses_step n.known source number c ≡ None → is_early (refuses_step_from n from source number c) ≡ false
step_late n from source number c allowed = by (leads_to_router n.links from) (refuses_step n.known source number c) allowed
  where
    by : (b : Bool) (r : Option KnownError) → r ≡ None → is_early (cond b (option_map (λ x. known_error x) r) None) ≡ false
    by true None h = refl
    by true (Some e) h = cc
    by false r h = refl

-- ---- what is found first

pub behind_late : (x y : Option NodeError) → is_early y ≡ false → is_early (option_or x y) ≡ is_early x
behind_late None y h = h
behind_late (Some e) y h = refl

found_first : (x y : Option NodeError) → is_early y ≡ false → IsFound (option_or x y) x
found_first None y h = h
found_first (Some e) y h = refl

found_itself : (x : Option NodeError) → IsFound x x
found_itself None = refl
found_itself (Some e) = refl

-- nothing, where nobody who may say it stands at the link
pub found_nothing : (b : Bool) (x : Option NodeError) → b ≡ false → IsFound (cond b x None) None
found_nothing b x e = subst (λ (t : Bool). IsFound (cond t x None) None) (sym e) refl

found_before : (b : Bool) (x y o : Option NodeError) → b ≡ true → o ≡ x → is_early y ≡ false → IsFound (cond b (option_or x y) None) o
found_before b x y o e is h =
    subst (λ (t : Bool). IsFound (cond t (option_or x y) None) o) (sym e) (subst (λ (z : Option NodeError). IsFound (option_or x y) z) (sym is) (found_first x y h))

found_there : (b : Bool) (x o : Option NodeError) → b ≡ true → o ≡ x → IsFound (cond b x None) o
found_there b x o e is = subst (λ (t : Bool). IsFound (cond t x None) o) (sym e) (subst (λ (z : Option NodeError). IsFound x z) (sym is) (found_itself x))

module _ (n : NodeState) (from : ℕ) (o : Option NodeError) where
  pub found_declared : (r : Row) → leads_to_client n.links from ≡ true → o ≡ option_map (λ e. local_error r.id e) (refuses_declare (local_state n) r) → IsFound (refuses_declared n from r) o
  found_declared r lead is =
      found_before (leads_to_client n.links from) (option_map (λ e. local_error r.id e) (refuses_declare (local_state n) r)) (refuses_rows n (rows_declared n from r)) o lead is (rows_late n (rows_declared n from r))

  pub found_undeclared : (k : Key) → leads_to_client n.links from ≡ true → o ≡ option_map (λ e. local_error k.id e) (refuses_undeclare n.rows k) → IsFound (refuses_undeclared n from k) o
  found_undeclared k lead is =
      found_before (leads_to_client n.links from) (option_map (λ e. local_error k.id e) (refuses_undeclare n.rows k)) (refuses_rows n (rows_undeclared n from k)) o lead is (rows_late n (rows_undeclared n from k))

  pub found_noted : (id : ℕ) (i : Option Interest) → leads_to_client n.links from ≡ true → o ≡ option_map (λ e. local_error id e) (refuses_interest (local_state n) (link_no from) id i) → IsFound (refuses_noted n from id i) o
  found_noted id i lead is = found_there (leads_to_client n.links from) (option_map (λ e. local_error id e) (refuses_interest (local_state n) (link_no from) id i)) o lead is

  pub found_step : (source : List ℕ) (number : ℕ) (c : Change) → leads_to_router n.links from ≡ true → o ≡ option_map (λ e. known_error e) (refuses_step n.known source number c) → IsFound (refuses_step_from n from source number c) o
  found_step source number c lead is = found_there (leads_to_router n.links from) (option_map (λ e. known_error e) (refuses_step n.known source number c)) o lead is

  pub found_asker : (number : ℕ) (links : List LinkNo) → o ≡ refuses_asker n.pending (asker from number) (leads_to_client n.links from) → IsFound (refuses_request n from number links) o
  found_asker number links is =
      subst (λ (z : Option NodeError). IsFound (refuses_request n from number links) z) (sym is)
      (by (asked (asker from number) n.pending) (leads_to_client n.links from && asks_most n.pending from) (has_no_number n.pending links))
    where
      by : (a b c : Bool) → IsFound (cond a (Some (NumberTaken number)) (cond b (Some (TooMany most_pending)) (cond c (Some Worn) None))) (cond a (Some (NumberTaken number)) (cond b (Some (TooMany most_pending)) None))
      by true b c = refl
      by false true c = refl
      by false false c = worn_late c

  -- the same message
  pub found_message : (msg same : Msg) → same ≡ msg → IsFound (refuses_from n from msg) o → IsFound (refuses_from n from same) o
  found_message msg same is h = subst (λ (m : Msg). IsFound (refuses_from n from m) o) (sym is) h

-- an interest that isn't live is none
pub found_no_interest : (n : NodeState) (from id : ℕ) → IsFound (refuses_noted n from id None) None
found_no_interest n from id = by (leads_to_client n.links from)
  where
    nothing : Option NodeError
    nothing = None

    by : (b : Bool) → IsFound (cond b nothing None) None
    by true = refl
    by false = refl

pub found_snap : (n : NodeState) (from : ℕ) (msg : Msg) (source : List ℕ) (number : ℕ) (decls : List Decl) → msg ≡ Snap source number decls → IsFound (refuses_from n from msg) None
found_snap n from msg source number decls is = subst (λ (m : Msg). IsFound (refuses_from n from m) None) (sym is) (snap_late n from source number decls)

-- where a link comes or goes
found_up : (n : NodeState) (event : Event) (link : LinkNo) (peer : PeerState) → event ≡ Up link peer → IsFound (refuses n event) None
found_up n event link peer is = subst (λ (e : Event). IsFound (refuses n e) None) (sym is) (up_late n.base peer.role)

found_down : (n : NodeState) (event : Event) (link : LinkNo) → event ≡ Down link → IsFound (refuses n event) None
found_down n event link is =
    let first : Option NodeError = refuses_down n.base (link_at n.links link.0) in
    let rest : Option NodeError = refuses_rows n (rows_left n link.0) in
    subst (λ (e : Event). IsFound (refuses n e) None) (sym is) (behind_late first rest (rows_late n (rows_left n link.0)) ∙ down_late n.base (link_at n.links link.0))

pub found_moved : (n : NodeState) (event : Event) → ((link : LinkNo) × (peer : PeerState) × (event ≡ Up link peer)) ⊎ ((link : LinkNo) × (event ≡ Down link)) → IsFound (refuses n event) None
found_moved n event (inl h) = found_up n event h.0 h.1 h.2
found_moved n event (inr h) = found_down n event h.0 h.1

pub found_from : (n : NodeState) (event : Event) (link : LinkNo) (msg : Msg) (o : Option NodeError) → event ≡ From link msg → IsFound (refuses_from n link.0 msg) o → IsFound (refuses n event) o
found_from n event link msg o is h = subst (λ (e : Event). IsFound (refuses n e) o) (sym is) h

-- ---- what a client asks

module _ (n : NodeState) (asked : Asked) where
  -- it is refused for itself
  pub change_refused : (why : NodeError) → refuses_asked (local_state n) asked ≡ Some why → refuses_change n asked ≡ Some why
  change_refused why h = ap (λ (o : Option NodeError). option_or o (refuses_rows n (rows_after n.rows asked))) h

  -- or it isn't
  pub change_late : refuses_asked (local_state n) asked ≡ None → is_early (refuses_change n asked) ≡ false
  change_late h = ap (λ (o : Option NodeError). is_early (option_or o (refuses_rows n (rows_after n.rows asked)))) h ∙ rows_late n (rows_after n.rows asked)

  pub change_judged : (f : NodeFailure) (r : Result (Unit {0}) NodeFailure) → IsErrAnd r (λ g. g ≡ f) → IsJudged {X = Unit {0}} (refuses_asked (local_state n) asked) (Err f) → IsJudged (refuses_change n asked) r
  change_judged f (Ok x) h j = absurd h
  change_judged f (Err g) h j = subst (λ (k : NodeFailure). IsJudged {X = Unit {0}} (refuses_change n asked) (Err k)) (sym h) (by f j)
    where
      by : (f : NodeFailure) → IsJudged {X = Unit {0}} (refuses_asked (local_state n) asked) (Err f) → IsJudged {X = Unit {0}} (refuses_change n asked) (Err f)
      by (Refused why) j = change_refused why j
      by NoMemory j = behind_late (refuses_asked (local_state n) asked) (refuses_rows n (rows_after n.rows asked)) (rows_late n (rows_after n.rows asked)) ∙ j

-- memory ran out
pub judged_lacking : (refusal : Option NodeError) (r : Result (Unit {0}) NodeFailure) → IsErrAnd r (λ f. f ≡ NoMemory) → is_early refusal ≡ false → IsJudged refusal r
judged_lacking refusal (Ok x) h late = absurd h
judged_lacking refusal (Err f) h late = subst (λ (g : NodeFailure). IsJudged {X = Unit {0}} refusal (Err g)) (sym h) late

-- so it is judged
pub found_judged : (r o : Option NodeError) (e : NodeFailure) → e ≡ lacking o → IsFound r o → IsJudged {X = Unit {0}} r (Err e)
found_judged r o e is h = subst (λ (f : NodeFailure). IsJudged {X = Unit {0}} r (Err f)) (sym is) (by o h)
  where
    by : (o : Option NodeError) → IsFound r o → IsJudged {X = Unit {0}} r (Err (lacking o))
    by None h = h
    by (Some x) h = h
