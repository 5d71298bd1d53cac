-- A request that isn't refused for who asks: it goes on, or fails all the same. And the route of a request.
use Rattle.std.proofs.Common.{◌≡◌, ℕ, ◌&&◌, Bool, true, false, cond, List, Option, Some, None, Result, Err, refl, ap, subst, ◌∙◌}
use Rattle.std.specs.Result.{IsErrAnd}
use Rattle.zr_id.specs.declared.link.LinkNo.{LinkNo}
use Rattle.zr_msg.specs.declared.content.Parts.{Parts}
use Rattle.zr_msg.specs.declared.error.NodeError.{NodeError}
use Rattle.zr_msg.specs.declared.error.NodeError.TheVariants.{NumberTaken, TooMany, Worn}
use Rattle.zr_msg.specs.declared.msg.Msg.{Msg}
use Rattle.zr_msg.specs.declared.msg.Target.{Target}
use Rattle.zr_pend_spec.specs.Pending.{asked}
use Rattle.zr_pend_spec.specs.Row.{RowState}
use Rattle.zr_pend_spec.specs.Held.{GatheringState, PendingState}
use Rattle.zr_body.specs.Latest.{is_latest}
use Rattle.zr_push.specs.Route.{route_of}
use Rattle.zr_push_sought.specs.Sought.{sought_by}
use Rattle.zr_push.specs.declared.route.RouteLink.{RouteLink}
use Rattle.zr_push_sought.specs.declared.sought.Sought.{Sought}
use Rattle.zr_query.specs.declared.asking.RequestError.{RequestError}
use Rattle.zr_query.specs.declared.asking.RequestError.TheVariants as request
use Rattle.zr_node_spec.specs.Queries.{after_request, asked_links, asker, asks_most, gathering_if, has_no_number, most_pending, sends_request}
use Rattle.zr_node_spec.specs.Tables.{TableState, leads_to_client}
use Rattle.zr_node_spec.specs.Early.{is_early}
use Rattle.zr_node_spec.specs.Event.{Tells, TellsPrefix}
use Rattle.zr_node_spec.specs.State.{NodeState, tables}
use Rattle.zr_node_spec.specs.Table.{refuses_request, with_held, with_pending}
use Rattle.zr_node.specs.Answer.{request_failure}
use Rattle.zr_node.specs.Done.{Part, IsLeft, IsDone}
use Rattle.zr_node.specs.Requests.{refuses_asker}
use Rattle.zr_node.specs.Steps.{after_asking, pending_of, request_part, with_table}
use Rattle.zr_node.specs.declared.failure.NodeFailure.{NodeFailure}
use Rattle.zr_node.specs.declared.failure.NodeFailure.TheVariants.{Refused}
use Rattle.zr_node.proofs.Done.{failed, lacked}
use Rattle.zr_node.proofs.Early.{worn_late}

-- the route of what a request seeks is its route
pub is_route : (t : TableState) (tree : List ℕ) (target : Target) (sought : Sought) (key own_key : List ℕ) (stops : List RouteLink) → stops ≡ route_of t tree sought key → sought ≡ sought_by target → key ≡ own_key
    → stops ≡ route_of t tree (sought_by target) own_key
is_route t tree target sought key own_key stops e f g = e ∙ ap (λ (s : Sought). route_of t tree s key) f ∙ ap (λ (k : List ℕ). route_of t tree (sought_by target) k) g

-- another table of what is pending, part by part
pub table_is : (n : NodeState) (p q : PendingState) → p.rows ≡ q.rows → p.held ≡ q.held → with_table n p ≡ with_table n q
table_is n p q e f = ap (λ (rs : List RowState). with_held (with_pending n rs) p.held) e ∙ ap (λ (gs : List GatheringState). with_held (with_pending n q.rows) gs) f

-- who may ask is refused only where a link that the request goes over has no number
asker_allowed : (n : NodeState) (from number : ℕ) (links : List LinkNo) → refuses_asker n.pending (asker from number) (leads_to_client n.links from) ≡ None
    → refuses_request n from number links ≡ cond (has_no_number n.pending links) (Some Worn) None
asker_allowed n from number links h =
    by (asked (asker from number) n.pending) (leads_to_client n.links from && asks_most n.pending from) (cond (has_no_number n.pending links) (Some Worn) None) h
  where
    by : (a b : Bool) (z : Option NodeError) → cond a (Some (NumberTaken number)) (cond b (Some (TooMany most_pending)) None) ≡ None → cond a (Some (NumberTaken number)) (cond b (Some (TooMany most_pending)) z) ≡ z
    by true b z h = cc
    by false true z h = cc
    by false false z h = refl

module _ (n : NodeState) (from number : ℕ) (named : Option (List ℕ)) (target : Target) (content : Parts) (allowed : refuses_asker n.pending (asker from number) (leads_to_client n.links from) ≡ None) where
  abbrev part : Part
  part = request_part n from named number target content

  abbrev error : RequestError → Result (Unit {0}) RequestError
  error e = Err e

  abbrev over : TableState → List LinkNo
  over t = asked_links t from named target content.key

  pub request_late : is_early part.refused ≡ false
  request_late = ap is_early (asker_allowed n from number (over (tables n)) allowed) ∙ worn_late (has_no_number n.pending (over (tables n)))

  -- each has one: the request goes on
  pub request_left : (t : TableState) → t ≡ tables n → (p : PendingState) (said all : List (LinkNo × Msg)) → Tells (sends_request t n.pending from named number target content) said all
      → p.rows ≡ after_request t n.pending from named number target content.key
      → p.held ≡ gathering_if n.held (leads_to_client n.links from && is_latest content.body) (asker from number) (over t) → has_no_number n.pending (over t) ≡ false → IsLeft part (with_table n p) said all
  request_left t is p said all told is_after is_held room = record {
    allowed =
        asker_allowed n from number (over (tables n)) allowed ∙ ap (λ b. cond b (Some Worn) None) (subst (λ (u : TableState). has_no_number n.pending (over u) ≡ false) is room);
    state =
        table_is n p (after_asking n from named number target content) (is_after ∙ ap (λ (u : TableState). after_request u n.pending from named number target content.key) is)
        (is_held ∙ ap (λ (u : TableState). gathering_if n.held (leads_to_client n.links from && is_latest content.body) (asker from number) (over u)) is);
    sends = subst (λ (u : TableState). Tells (sends_request u n.pending from named number target content) said all) is told;
  }

  -- there is none, or memory ran out
  pub request_failed : (t : TableState) → t ≡ tables n → (p : PendingState) (said all : List (LinkNo × Msg)) (e : RequestError) (r : Result (Unit {0}) NodeFailure) → IsErrAnd r (λ f. f ≡ request_failure e)
      → (error e ≡ error request.NoNumber → has_no_number n.pending (over t) ≡ true) → (error e ≡ error request.NoNumber → (p ≡ pending_of n) × (all ≡ said))
      → TellsPrefix (sends_request t n.pending from named number target content) said all → IsDone part r (with_table n p) said all
  request_failed t is p said all request.NoNumber r h full same prefix =
      let none : has_no_number n.pending (over (tables n)) ≡ true = subst (λ (u : TableState). has_no_number n.pending (over u) ≡ true) is (full refl) in
      failed part (Refused Worn) r (with_table n p) said all h
      (record { refused = asker_allowed n from number (over (tables n)) allowed ∙ ap (λ b. cond b (Some Worn) None) none; state = ap (λ (q : PendingState). with_table n q) (same refl).0; sends = (same refl).1 })
  request_failed t is p said all request.NoMemory r h full same prefix =
      lacked part r (with_table n p) said all h request_late
      (subst (λ (u : TableState). TellsPrefix (sends_request u n.pending from named number target content) said all) is prefix)
