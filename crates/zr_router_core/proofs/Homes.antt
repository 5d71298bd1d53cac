-- Only links to clients have live interests, before and after each event.
use Rattle.std.proofs.Common.{◌≡◌, ℕ, ◌==◌, Bool, true, false, cond, not, ◌&&◌, nat_lt, List, [], filter, Option, Some, None, refl, sym, ap, ◌∙◌, arith}
use Rattle.std.specs.List.{find}
use Rattle.std.specs.Option.{option_map_or}
use Rattle.std.specs.Ordering.{nat_cmp}
use Rattle.std.proofs.lemmas.Bool.{true≢false, false≢true, eqb-true, false_from_ne_true}
use Rattle.std.proofs.Math.Bool.{and-true}
use Rattle.zr_lists.proofs.Numbers.{nat_eq_is}
use Rattle.zr_lists.proofs.Filters.{find_filter_kept, find_filter_gone}
use Rattle.zr_id.specs.declared.link.LinkNo.{LinkNo}
use Rattle.zr_lists.specs.Ascending.{at_key, has_key, put, without}
use Rattle.zr_lists.proofs.Puts.{at-put}
use Rattle.zr_lists.proofs.Order.{nat_order}
use Rattle.zr_local.specs.Clients.{client_link, interests_on, with_interests, noted, clients_left}
use Rattle.zr_local.specs.Interests.{interest_id}
use Rattle.zr_local.specs.declared.interest.ClientInterests.{ClientInterests}
use Rattle.zr_local.specs.declared.interest.Interest.{Interest as LiveInterest}
use Rattle.zr_local.proofs.LeftInterests.{left_is}
use Rattle.zr_msg.specs.declared.event.Event.{Event}
use Rattle.zr_msg.specs.declared.event.Event.TheVariants.{Up, Down, From}
use Rattle.zr_msg.specs.declared.msg.Msg.{Msg}
use Rattle.zr_msg.specs.declared.msg.Msg.TheVariants.{Sub, Unsub, Token, Untoken, Able, Unable, Interest, EndInterest, ToldSub, ToldAble, ToldUnsub, ToldToken, ToldUntoken, ToldUnable, ToldEnd, Push, Request, Response, Final, State, Step, Snap}
use Rattle.zr_msg.specs.declared.peer.LinkPeer.{LinkPeer}
use Rattle.zr_msg.specs.Peer.{PeerState}
use Rattle.zr_node_spec.specs.Queries.{link_no}
use Rattle.zr_node_spec.specs.Tables.{is_link, link_at, leads_to_client}
use Rattle.zr_node_spec.specs.Event.{AreLinks, IsFresh, MayCome}
use Rattle.zr_node_spec.specs.State.{NodeState, new_link}
use Rattle.zr_node_spec.specs.Table.{live, with_link, without_link, clients_noted, after}
use Rattle.zr_node_spec.proofs.Links.{find_beside, parted_links, is_client}
use Rattle.zr_node_spec.proofs.LinksStay.{links_from}
use Rattle.zr_router_core.specs.Ready.{is_own_msg, is_own_on, is_gone}

-- ---- the live interests of other links stay

on_of : Option ClientInterests → List LiveInterest
on_of o = option_map_or (λ c. c.interests) o []

pub other_with : (cs : List ClientInterests) (link : LinkNo) (is : List LiveInterest) (k : ℕ) → (link.0 == k) ≡ false → interests_on (with_interests cs link is) k ≡ interests_on cs k
other_with cs link is k h =
    ap (λ o. option_map_or (λ c. c.interests) o []) (at-put nat_cmp client_link nat_order cs (record { link = link; interests = is }) k)
    ∙ ap (λ b. option_map_or (λ c. c.interests) (cond b (Some (record { link = link; interests = is })) (at_key nat_cmp client_link cs k)) []) (nat_eq_is link.0 k ∙ h)

pub other_noted : (cs : List ClientInterests) (link : LinkNo) (id : ℕ) (o : Option LiveInterest) (k : ℕ) → (link.0 == k) ≡ false → interests_on (noted cs link id o) k ≡ interests_on cs k
other_noted cs link id None k h = by (has_key nat_cmp client_link cs link.0)
  where
    rest : List LiveInterest
    rest = without nat_cmp interest_id (interests_on cs link.0) id

    by : (b : Bool) → interests_on (cond b (with_interests cs link rest) cs) k ≡ interests_on cs k
    by true = other_with cs link rest k h
    by false = refl
other_noted cs link id (Some i) k h = other_with cs link (put nat_cmp interest_id (interests_on cs link.0) i) k h

-- ---- links

without_other : (links : List LinkPeer) (link k : ℕ) → (link == k) ≡ false → leads_to_client (without_link links link) k ≡ leads_to_client links k
without_other links link k h =
    ap is_client
    (find_filter_kept (is_link k) (λ l. not (is_link link l)) links
    (λ l e. ap not (ap (λ z. z == link) (eqb-true l.link.0 k e) ∙ turned k link h)))
  where
    turned : (a b : ℕ) → (b == a) ≡ false → (a == b) ≡ false
    turned a b h = grind (arith, h)

pub without_itself : (links : List LinkPeer) (link k : ℕ) → (link == k) ≡ true → leads_to_client (without_link links link) k ≡ false
without_itself links link k h =
    ap is_client
    (find_filter_gone (is_link k) (λ l. not (is_link link l)) links
    (λ l e. ap not (ap (λ z. z == link) (eqb-true l.link.0 k e) ∙ turned k link h)))
  where
    turned : (a b : ℕ) → (b == a) ≡ true → (a == b) ≡ true
    turned a b h = grind (arith, h)

with_other : (n : NodeState) (link : LinkNo) (peer : PeerState) (k : ℕ) → AreLinks n.base.me n.links → IsFresh n link peer → (link.0 == k) ≡ false →
    leads_to_client (with_link n.links (new_link link peer)) k ≡ leads_to_client n.links k
with_other n link peer k links fresh h =
    ap is_client
    (find_beside (is_link k) (filter (λ l. nat_lt l.link.0 link.0) n.links) (new_link link peer) (filter (λ l. nat_lt link.0 l.link.0) n.links) h
    ∙ ap (λ ls. find (is_link k) ls) (parted_links n.links link.0 links.ascending fresh.number))

-- ---- each event

abbrev AreHome : NodeState → Type 0
AreHome n = (k : ℕ) → leads_to_client n.links k ≡ false → interests_on n.clients k ≡ []

noted_home : (n : NodeState) (from id : ℕ) (o : Option LiveInterest) → AreHome n → (k : ℕ) → leads_to_client n.links k ≡ false → interests_on (clients_noted n from id o) k ≡ []
noted_home n from id o home k away = by (leads_to_client n.links from) refl
  where
    differ : leads_to_client n.links from ≡ true → (from == k) ≡ false
    differ e = false_from_ne_true (from == k) (λ s. true≢false (sym e ∙ ap (λ z. leads_to_client n.links z) (eqb-true from k s) ∙ away))

    by : (b : Bool) → leads_to_client n.links from ≡ b → interests_on (cond b (noted n.clients (link_no from) id o) n.clients) k ≡ []
    by true e = other_noted n.clients (link_no from) id o k (differ e) ∙ home k away
    by false e = home k away

up_home : (n : NodeState) (link : LinkNo) (peer : PeerState) → AreLinks n.base.me n.links → IsFresh n link peer → AreHome n → (k : ℕ) → leads_to_client (with_link n.links (new_link link peer)) k ≡ false → interests_on n.clients k ≡ []
up_home n link peer links fresh home k away = by (link.0 == k) refl
  where
    by : (b : Bool) → (link.0 == k) ≡ b → interests_on n.clients k ≡ []
    by true e = home k (ap is_client (ap (λ z. link_at n.links z) (sym (eqb-true link.0 k e)) ∙ fresh.number))
    by false e = home k (sym (with_other n link peer k links fresh e) ∙ away)

down_home : (n : NodeState) (link : ℕ) → AreHome n → (k : ℕ) → leads_to_client (without_link n.links link) k ≡ false → interests_on (cond (leads_to_client n.links link) (clients_left n.clients link) n.clients) k ≡ []
down_home n link home k away = by (leads_to_client n.links link) (link == k) refl refl
  where
    by : (b s : Bool) → leads_to_client n.links link ≡ b → (link == k) ≡ s → interests_on (cond b (clients_left n.clients link) n.clients) k ≡ []
    by true true e f = left_is n.clients link k ∙ ap (λ t. cond t [] (interests_on n.clients k)) f
    by true false e f = left_is n.clients link k ∙ ap (λ t. cond t [] (interests_on n.clients k)) f ∙ home k (sym (without_other n.links link k f) ∙ away)
    by false true e f = home k (ap (λ z. leads_to_client n.links z) (sym (eqb-true link k f)) ∙ e)
    by false false e f = home k (sym (without_other n.links link k f) ∙ away)

from_home : (n : NodeState) (link : LinkNo) (msg : Msg) → AreHome n → AreHome (after n (From link msg))
from_home n link (Sub id key) home = home
from_home n link (Unsub id) home = home
from_home n link (Token id key) home = home
from_home n link (Untoken id) home = home
from_home n link (Able id key complete) home = home
from_home n link (Unable id) home = home
from_home n link (Interest id current future kinds key aggregate) home = noted_home n link.0 id (live future (record { id = id; kinds = kinds; key = key; aggregate = aggregate })) home
from_home n link (EndInterest id) home = noted_home n link.0 id None home
from_home n link (ToldSub id key interest) home = home
from_home n link (ToldToken id key interest) home = home
from_home n link (ToldAble id key complete interest) home = home
from_home n link (ToldUnsub id) home = home
from_home n link (ToldUntoken id) home = home
from_home n link (ToldUnable id) home = home
from_home n link (ToldEnd interest) home = home
from_home n link (Push tree content) home = home
from_home n link (Request tree id target content) home = home
from_home n link (Response id content) home = home
from_home n link (Final id extras) home = home
from_home n link (State links) home = home
from_home n link (Step source number added decl) home = home
from_home n link (Snap source number decls) home = home

pub stay_home : (n : NodeState) (event : Event) → AreLinks n.base.me n.links → MayCome n event → AreHome n → AreHome (after n event)
stay_home n (Up link peer) links may home = up_home n link peer links may home
stay_home n (Down link) links may home = down_home n link.0 home
stay_home n (From link msg) links may home = from_home n link msg home

-- ---- the interests of a link that neither asks for itself nor goes down stay

noted_else : (n : NodeState) (from id : ℕ) (o : Option LiveInterest) (k : ℕ) → (from == k) ≡ false → interests_on (clients_noted n from id o) k ≡ interests_on n.clients k
noted_else n from id o k h = by (leads_to_client n.links from)
  where
    by : (b : Bool) → interests_on (cond b (noted n.clients (link_no from) id o) n.clients) k ≡ interests_on n.clients k
    by true = other_noted n.clients (link_no from) id o k h
    by false = refl

from_else : (n : NodeState) (link : LinkNo) (msg : Msg) (k : ℕ) → (link.0 == k && is_own_msg msg) ≡ false → interests_on (after n (From link msg)).clients k ≡ interests_on n.clients k
from_else n link (Sub id key) k h = refl
from_else n link (Unsub id) k h = refl
from_else n link (Token id key) k h = refl
from_else n link (Untoken id) k h = refl
from_else n link (Able id key complete) k h = refl
from_else n link (Unable id) k h = refl
from_else n link (Interest id current future kinds key aggregate) k h = noted_else n link.0 id (live future (record { id = id; kinds = kinds; key = key; aggregate = aggregate })) k (sym (and-true (link.0 == k)) ∙ h)
from_else n link (EndInterest id) k h = noted_else n link.0 id None k (sym (and-true (link.0 == k)) ∙ h)
from_else n link (ToldSub id key interest) k h = refl
from_else n link (ToldToken id key interest) k h = refl
from_else n link (ToldAble id key complete interest) k h = refl
from_else n link (ToldUnsub id) k h = refl
from_else n link (ToldUntoken id) k h = refl
from_else n link (ToldUnable id) k h = refl
from_else n link (ToldEnd interest) k h = refl
from_else n link (Push tree content) k h = refl
from_else n link (Request tree id target content) k h = refl
from_else n link (Response id content) k h = refl
from_else n link (Final id extras) k h = refl
from_else n link (State links) k h = refl
from_else n link (Step source number added decl) k h = refl
from_else n link (Snap source number decls) k h = refl

down_else : (n : NodeState) (link k : ℕ) → (link == k) ≡ false → interests_on (cond (leads_to_client n.links link) (clients_left n.clients link) n.clients) k ≡ interests_on n.clients k
down_else n link k h = by (leads_to_client n.links link)
  where
    by : (b : Bool) → interests_on (cond b (clients_left n.clients link) n.clients) k ≡ interests_on n.clients k
    by true = left_is n.clients link k ∙ ap (λ t. cond t [] (interests_on n.clients k)) h
    by false = refl

pub interests_else : (n : NodeState) (event : Event) (k : ℕ) → is_own_on event k ≡ false → is_gone event k ≡ false → interests_on (after n event).clients k ≡ interests_on n.clients k
interests_else n (Up link peer) k own gone = refl
interests_else n (Down link) k own gone = down_else n link.0 k gone
interests_else n (From link msg) k own gone = from_else n link msg k own

-- a link that goes down leads to no client then
pub gone_away : (n : NodeState) (event : Event) (k : ℕ) → is_gone event k ≡ true → leads_to_client (after n event).links k ≡ false
gone_away n (Up link peer) k h = absurd (false≢true h)
gone_away n (Down link) k h = without_itself n.links link.0 k h
gone_away n (From link msg) k h = absurd (false≢true h)

pub away_before : (n : NodeState) (event : Event) (k : ℕ) → AreLinks n.base.me n.links → MayCome n event → leads_to_client (after n event).links k ≡ false → is_gone event k ≡ false → leads_to_client n.links k ≡ false
away_before n (Up link peer) k links may away gone = by (link.0 == k) refl
  where
    by : (b : Bool) → (link.0 == k) ≡ b → leads_to_client n.links k ≡ false
    by true e = ap is_client (ap (λ z. link_at n.links z) (sym (eqb-true link.0 k e)) ∙ may.number)
    by false e = sym (with_other n link peer k links may e) ∙ away
away_before n (Down link) k links may away gone = sym (without_other n.links link.0 k gone) ∙ away
away_before n (From link msg) k links may away gone = ap (λ ls. leads_to_client ls k) (sym (links_from n link msg)) ∙ away
