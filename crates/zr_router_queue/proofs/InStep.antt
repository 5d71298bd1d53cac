-- In every history that is legal the queues of the links that are up are in step with the router's links: a link has such a queue exactly where
-- the router has the link. In every list of entries each queue has a link of its own.
use Rattle.std.proofs.Common.{◌≡◌, ℕ, ◌==◌, ◌||◌, nat_lt, not, Bool, true, false, cond, List, [], ◌∷◌, ◌++◌, Option, Some, None, map, filter, refl, sym, ap, ◌∙◌, arith}
use Rattle.std.specs.Prelude.{◌&&◌, is_some, is_none}
use Rattle.std.specs.List.{find}
use Rattle.std.specs.Option.{option_or}
use Rattle.std.proofs.lemmas.Bool.{eqb-true, not_from_true}
use Rattle.std.proofs.lemmas.Bool.Decides.{nat_tests}
use Rattle.std.proofs.lemmas.List.Folds.{find-append}
use Rattle.std.proofs.lemmas.List.Elements.{filter-append}
use Rattle.std.proofs.Math.Bool.{or-false, or-true}
use Rattle.zr_lists.proofs.Options.{there_changed}
use Rattle.zr_id.specs.declared.link.LinkNo.{LinkNo}
use Rattle.zr_msg.specs.declared.msg.Msg.{Msg}
use Rattle.zr_msg.specs.declared.msg.Msg.TheVariants.{Sub, Unsub, Token, Untoken, Able, Unable, Interest, EndInterest, ToldSub, ToldAble, ToldUnsub, ToldToken, ToldUntoken, ToldUnable, ToldEnd, Push, Request, Response, Final, State, Step, Snap}
use Rattle.zr_msg.specs.declared.event.Event.{Event}
use Rattle.zr_msg.specs.declared.event.Event.TheVariants.{Up, Down, From}
use Rattle.zr_node_spec.specs.Tables.{link_at, is_link}
use Rattle.zr_node_spec.specs.State.{NodeState, new_link}
use Rattle.zr_msg.specs.declared.peer.LinkPeer.{LinkPeer}
use Rattle.zr_node_spec.specs.Table.{after_from, with_link, without_link}
use Rattle.zr_frame.specs.Outbox.{OutboxState}
use Rattle.zr_port.specs.declared.entry.Entry.{Entry}
use Rattle.zr_router_queue.specs.Tables.{LinkQueue, Tables, new_tables, new_queue, with_down, other_queues, queues_at, queued_by, advanced, replay_from, replay, open_queues}
use Rattle.zr_router_queue.specs.History.{may_come, has_parts, may_follow, is_legal_from, is_legal}
use Rattle.zr_told_spec.specs.Hub.{hub_after, hub_refuses}
use Rattle.zr_router_queue.specs.Grows.{down_number, find_changed, find_kept, keeps_link}
use Rattle.zr_router_queue.proofs.Lookups.{AreDistinct, find_gone, filter_filter, distinct_filter, distinct_more, distinct_map}
use Rattle.zr_router_queue.proofs.Replays.{open_after}

abbrev pub number : LinkQueue → ℕ
number q = q.link.0

-- ---- each queue has a link of its own

pub distinct_at : (queues : List LinkQueue) (event : Event) (outbox : Option OutboxState) → AreDistinct number queues → AreDistinct number (queues_at queues event outbox)
distinct_at queues (Up link peer) None h = h
distinct_at queues (Up link peer) (Some outbox) h =
    distinct_more number (other_queues queues link) (new_queue link peer.role outbox)
    (find_gone (λ q. q.link.0 == link.0) (λ q. not (q.link.0 == link.0)) (λ q e. not_from_true (q.link.0 == link.0) e) queues)
    (distinct_filter number (λ q. not (q.link.0 == link.0)) queues h)
distinct_at queues (Down link) outbox h = distinct_map number number (with_down link) (down_number link) queues h
distinct_at queues (From link msg) outbox h = h

distinct_replay : (t : Tables) (h : List Entry) → AreDistinct number t.queues → AreDistinct number (replay_from t h).queues
distinct_replay t [] d = d
distinct_replay t (e ∷ es) d =
    distinct_replay (advanced t e) es (distinct_map number number (queued_by t.hub e) (λ q. ap (λ l. l.0) (keeps_link t.hub e q)) (queues_at t.queues e.event e.outbox) (distinct_at t.queues e.event e.outbox d))

pub distinct_queues : (me : List ℕ) (h : List Entry) → AreDistinct number (replay me h).queues
distinct_queues me h = distinct_replay (new_tables me) h tt

-- ---- the queues of the links that are up, where an event has come

down_up : (link : LinkNo) (q : LinkQueue) (qs : List LinkQueue) →
    filter (λ q. q.is_up) (map (with_down link) qs) ≡ filter (λ q. not (q.link.0 == link.0)) (filter (λ q. q.is_up) qs) →
    filter (λ q. q.is_up) (map (with_down link) (q ∷ qs)) ≡ filter (λ q. not (q.link.0 == link.0)) (filter (λ q. q.is_up) (q ∷ qs))
down_up link q qs ih = by (q.link.0 == link.0) q.is_up refl refl
  where
    left : List LinkQueue
    left = filter (λ q. q.is_up) (map (with_down link) qs)

    kept : List LinkQueue
    kept = filter (λ q. not (q.link.0 == link.0)) (filter (λ q. q.is_up) qs)

    by : (a b : Bool) → (q.link.0 == link.0) ≡ a → q.is_up ≡ b →
        filter (λ q. q.is_up) (cond a (record { link = q.link; role = q.role; is_up = false; outbox = q.outbox; batches = q.batches; closed = q.closed }) q ∷ map (with_down link) qs)
        ≡ filter (λ q. not (q.link.0 == link.0)) (cond b (q ∷ filter (λ q. q.is_up) qs) (filter (λ q. q.is_up) qs))
    by true true e f = ih ∙ sym (ap (λ a. cond (not a) (q ∷ kept) kept) e)
    by true false e f = ih
    by false true e f = ap (λ b. cond b (q ∷ left) left) f ∙ ap (λ qs. q ∷ qs) ih ∙ sym (ap (λ a. cond (not a) (q ∷ kept) kept) e)
    by false false e f = ap (λ b. cond b (q ∷ left) left) f ∙ ih

pub open_down : (link : LinkNo) (queues : List LinkQueue) →
    filter (λ q. q.is_up) (map (with_down link) queues) ≡ filter (λ q. not (q.link.0 == link.0)) (filter (λ q. q.is_up) queues)
open_down link [] = refl
open_down link (q ∷ qs) = down_up link q qs (open_down link qs)

pub open_up : (link : LinkNo) (queues : List LinkQueue) (q : LinkQueue) → q.is_up ≡ true →
    filter (λ q. q.is_up) (other_queues queues link ++ q ∷ []) ≡ filter (λ q. not (q.link.0 == link.0)) (filter (λ q. q.is_up) queues) ++ q ∷ []
open_up link queues q up =
    filter-append (λ q. q.is_up) (other_queues queues link) (q ∷ [])
    ∙ ap (λ b. filter (λ q. q.is_up) (other_queues queues link) ++ cond b (q ∷ []) []) up
    ∙ ap (λ qs. qs ++ q ∷ []) (filter_filter (λ q. q.is_up) (λ q. not (q.link.0 == link.0)) queues)

-- ---- links of a number

above : (a b : ℕ) → nat_lt a b ≡ false → (b == a) ≡ false → nat_lt b a ≡ true
above a b h k = grind (arith, nat_tests, h, k)

not_above : (a b : ℕ) → nat_lt a b ≡ true → nat_lt b a ≡ false
not_above a b h = grind (arith, nat_tests, h)

differs : (a b n : ℕ) → (a == n) ≡ true → (b == n) ≡ false → not (a == b) ≡ true
differs a b n e f = grind (arith, nat_tests, e, f)

some_or : {X : Type 0} (a b : Option X) → is_some (option_or a b) ≡ is_some a || is_some b
some_or None b = refl
some_or (Some x) b = refl

-- a link that has come up, and the links before it
pub linked : (links : List LinkPeer) (l : LinkPeer) (n : ℕ) → is_some (link_at (with_link links l) n) ≡ (l.link.0 == n) || is_some (link_at links n)
linked links l n =
    ap is_some (find-append (λ k. is_link n k) below (l ∷ back)) ∙ some_or (link_at below n) (link_at (l ∷ back) n) ∙ by (l.link.0 == n) (nat_lt n l.link.0) refl refl
  where
    below : List LinkPeer
    below = filter (λ k. nat_lt k.link.0 l.link.0) links

    back : List LinkPeer
    back = filter (λ k. nat_lt l.link.0 k.link.0) links

    by : (a b : Bool) → (l.link.0 == n) ≡ a → nat_lt n l.link.0 ≡ b → is_some (link_at below n) || is_some (cond a (Some l) (link_at back n)) ≡ a || is_some (link_at links n)
    by true b e f = or-true (is_some (link_at below n))
    by false true e f =
        rw (
          find_kept (λ k. is_link n k) (λ k. nat_lt k.link.0 l.link.0) (λ k p. ap (λ m. nat_lt m l.link.0) (eqb-true k.link.0 n p) ∙ f) links,
          find_gone (λ k. is_link n k) (λ k. nat_lt l.link.0 k.link.0) (λ k p. ap (λ m. nat_lt l.link.0 m) (eqb-true k.link.0 n p) ∙ not_above n l.link.0 f) links,
        )
        (or-false (is_some (link_at links n)))
    by false false e f =
        rw (
          find_gone (λ k. is_link n k) (λ k. nat_lt k.link.0 l.link.0) (λ k p. ap (λ m. nat_lt m l.link.0) (eqb-true k.link.0 n p) ∙ f) links,
          find_kept (λ k. is_link n k) (λ k. nat_lt l.link.0 k.link.0) (λ k p. ap (λ m. nat_lt l.link.0 m) (eqb-true k.link.0 n p) ∙ above n l.link.0 f e) links,
        )
        refl

find_mapped : {X : Type 0} (test : X → Bool) (f : X → X) → ((x : X) → test (f x) ≡ test x) → (xs : List X) → is_some (find test (map f xs)) ≡ is_some (find test xs)
find_mapped test f same xs = ap is_some (find_changed test f same xs) ∙ there_changed f (find test xs)

-- a message changes no link
pub from_links : (node : NodeState) (from : ℕ) (msg : Msg) (n : ℕ) → is_some (link_at (after_from node from msg).links n) ≡ is_some (link_at node.links n)
from_links node from (Sub id key) n = refl
from_links node from (Unsub id) n = refl
from_links node from (Token id key) n = refl
from_links node from (Untoken id) n = refl
from_links node from (Able id key complete) n = refl
from_links node from (Unable id) n = refl
from_links node from (Interest id current future kinds key aggregate) n = refl
from_links node from (EndInterest id) n = refl
from_links node from (ToldSub id key interest) n = refl
from_links node from (ToldToken id key interest) n = refl
from_links node from (ToldAble id key complete interest) n = refl
from_links node from (ToldUnsub id) n = refl
from_links node from (ToldUntoken id) n = refl
from_links node from (ToldUnable id) n = refl
from_links node from (ToldEnd interest) n = refl
from_links node from (Push tree content) n = refl
from_links node from (Request tree id target content) n = refl
from_links node from (Response id content) n = refl
from_links node from (Final id extras) n = refl
from_links node from (State links) n = refl
from_links node from (Step source number added decl) n = refl
from_links node from (Snap source number decls) n = refl

-- ---- in step

abbrev pub AreInStep : Tables → Type 0
AreInStep t = (n : ℕ) → is_some (find (λ q. q.link.0 == n) (open_queues t)) ≡ is_some (link_at t.hub.node.links n)

in_step_at : (t : Tables) (event : Event) (outbox : Option OutboxState) (reason : Bool) → has_parts event (is_some outbox) reason ≡ true → AreInStep t → (n : ℕ) →
    is_some (find (λ q. q.link.0 == n) (filter (λ q. q.is_up) (queues_at t.queues event outbox))) ≡ is_some (link_at (hub_after t.hub event).node.links n)
in_step_at t (Up link peer) None reason parts h n = cc
in_step_at t (Up link peer) (Some outbox) reason parts h n =
    ap (λ qs. is_some (find (λ q. q.link.0 == n) qs)) (open_up link t.queues (new_queue link peer.role outbox) refl)
    ∙ ap is_some (find-append (λ q. q.link.0 == n) others (new_queue link peer.role outbox ∷ []))
    ∙ some_or (find (λ q. q.link.0 == n) others) (find (λ q. q.link.0 == n) (new_queue link peer.role outbox ∷ []))
    ∙ by (link.0 == n) refl
    ∙ sym (linked t.hub.node.links (new_link link peer) n)
  where
    others : List LinkQueue
    others = filter (λ q. not (q.link.0 == link.0)) (open_queues t)

    by : (a : Bool) → (link.0 == n) ≡ a → is_some (find (λ q. q.link.0 == n) others) || is_some (cond a (Some (new_queue link peer.role outbox)) None) ≡ a || is_some (link_at t.hub.node.links n)
    by true e = or-true (is_some (find (λ q. q.link.0 == n) others))
    by false e =
        or-false (is_some (find (λ q. q.link.0 == n) others))
        ∙ ap is_some (find_kept (λ q. q.link.0 == n) (λ q. not (q.link.0 == link.0)) (λ q p. differs q.link.0 link.0 n p e) (open_queues t))
        ∙ h n
in_step_at t (Down link) outbox reason parts h n =
    ap (λ qs. is_some (find (λ q. q.link.0 == n) qs)) (open_down link t.queues) ∙ by (link.0 == n) refl
  where
    gone : (a : ℕ) → (link.0 == n) ≡ true → (a == n) ≡ true → not (a == link.0) ≡ false
    gone a e p = grind (arith, nat_tests, e, p)

    by : (a : Bool) → (link.0 == n) ≡ a → is_some (find (λ q. q.link.0 == n) (filter (λ q. not (q.link.0 == link.0)) (open_queues t))) ≡ is_some (link_at (without_link t.hub.node.links link.0) n)
    by true e =
        ap is_some (find_gone (λ q. q.link.0 == n) (λ q. not (q.link.0 == link.0)) (λ q p. gone q.link.0 e p) (open_queues t))
        ∙ ap is_some (sym (find_gone (λ l. is_link n l) (λ l. not (is_link link.0 l)) (λ l p. gone l.link.0 e p) t.hub.node.links))
    by false e =
        ap is_some (find_kept (λ q. q.link.0 == n) (λ q. not (q.link.0 == link.0)) (λ q p. differs q.link.0 link.0 n p e) (open_queues t))
        ∙ h n
        ∙ ap is_some (sym (find_kept (λ l. is_link n l) (λ l. not (is_link link.0 l)) (λ l p. differs l.link.0 link.0 n p e) t.hub.node.links))
in_step_at t (From link msg) outbox reason parts h n = h n ∙ sym (from_links t.hub.node link.0 msg n)

pub and_both : (a b : Bool) → a && b ≡ true → (a ≡ true) × (b ≡ true)
and_both true b e = (refl, e)
and_both false b e = cc

-- an entry that may follow has its parts
pub follows_parts : (t : Tables) (e : Entry) → may_follow t e ≡ true → has_parts e.event (is_some e.outbox) (is_some e.reason) ≡ true
follows_parts t e may =
    let a = and_both (may_come t.hub.node e.event) _ may in
    let b = and_both (is_none (hub_refuses t.hub e.event)) _ a.1 in
    (and_both (has_parts e.event (is_some e.outbox) (is_some e.reason)) _ b.1).0

in_step_after : (t : Tables) (e : Entry) → may_follow t e ≡ true → AreInStep t → AreInStep (advanced t e)
in_step_after t e may h n =
    ap (λ qs. is_some (find (λ q. q.link.0 == n) qs)) (open_after t e)
    ∙ find_mapped (λ q. q.link.0 == n) (queued_by t.hub e) (λ q. ap (λ l. l.0 == n) (keeps_link t.hub e q)) (filter (λ q. q.is_up) (queues_at t.queues e.event e.outbox))
    ∙ in_step_at t e.event e.outbox (is_some e.reason) (follows_parts t e may) h n

in_step_replay : (t : Tables) (h : List Entry) → is_legal_from t h ≡ true → AreInStep t → AreInStep (replay_from t h)
in_step_replay t [] legal s = s
in_step_replay t (e ∷ es) legal s =
    let both = and_both (may_follow t e) (is_legal_from (advanced t e) es) legal in
    in_step_replay (advanced t e) es both.1 (in_step_after t e both.0 s)

pub in_step : (me : List ℕ) (h : List Entry) → is_legal me h ≡ true → AreInStep (replay me h)
in_step me h legal = in_step_replay (new_tables me) h legal (λ n. refl)
