-- No router of a world comes near its record's limits. Its own record's number goes up once an act at most, since steps of runs change no
-- own record (`BoundedActs`); and its own links are names of routers that are there, none of them twice, which are 64 at most.
use Rattle.std.proofs.Common.{◌≡◌, ◌≤◌, ◌+◌, ℕ, Bool, true, false, cond, [], ◌∷◌, Option, Some, None, refl, sym, ap, ◌∙◌, subst, arith}
use Rattle.std.specs.List.Sorted.{IsStrictlySortedBy}
use Rattle.std.specs.Option.{option_map_or}
use Rattle.zr_id.specs.Record.{RecordState, linked_ids}
use Rattle.zr_id.specs.declared.link.LinkNo.{LinkNo}
use Rattle.zr_graph.specs.Record.{record_of, IsAscending}
use Rattle.zr_graph.specs.Base.{BaseState, own_seq, is_newer, kept, relinked, fresh}
use Rattle.zr_graph.proofs.Names.{same_refl}
use Rattle.zr_graph.proofs.Places.{record_of-put}
use Rattle.zr_msg.specs.declared.msg.Msg.{Msg}
use Rattle.zr_msg.specs.declared.msg.Msg.TheVariants.{Sub, Unsub, Token, Untoken, Able, Unable, Interest, EndInterest, ToldSub, ToldAble, ToldUnsub, ToldToken, ToldUntoken, ToldUnable, ToldEnd, Push, Request, Response, Final, State, Step, Snap}
use Rattle.zr_msg.specs.declared.event.Event.{Event}
use Rattle.zr_msg.specs.declared.event.Event.TheVariants.{Up, Down, From}
use Rattle.zr_msg.specs.Peer.{PeerState}
use Rattle.zr_msg.specs.declared.peer.Role.{Role}
use Rattle.zr_msg.specs.declared.peer.Role.TheVariants.{Client, Router}
use Rattle.zr_node_spec.proofs.OwnLinks.{ascending_with, ascending_without}
use Rattle.zr_node_spec.specs.Tables.{link_at, leads_to_router}
use Rattle.zr_node_spec.specs.State.{NodeState}
use Rattle.zr_msg.specs.declared.peer.LinkPeer.{LinkPeer}
use Rattle.zr_node_spec.specs.Table.{with_linked, without_linked, own_link, own_links, base_up, base_down, base_parted, base_told, after}
use Rattle.zr_law_settled.proofs.Spreading.{Name}
use Rattle.zr_law_settled.proofs.Records.{Links, newer_is}

-- ---- one router

-- a base's own number is at most so high, and its own links ascend
pub record IsBounded (n : ℕ) (b : BaseState) : Type 0 where
  pub number : own_seq b ≤ n
  pub ascend : IsAscending (linked_ids (own_links b))

pub bounded_later : (n m : ℕ) (b : BaseState) → n ≤ m → IsBounded n b → IsBounded m b
bounded_later n m b le h = record { number = omega (arith, h.number, le); ascend = h.ascend }

bounded_relinked : (n : ℕ) (b : BaseState) (links : Links) → IsBounded n b → IsAscending (linked_ids links) → IsBounded (n + 1) (relinked b links)
bounded_relinked n b links h up = record {
  number = let e : own_seq (relinked b links) ≡ own_seq b + 1 = ap (λ (o : Option RecordState). option_map_or (λ r. r.seq) o 0) now in omega (arith, e, h.number);
  ascend = subst IsAscending (sym (ap (λ (o : Option RecordState). linked_ids (option_map_or (λ r. r.links) o [])) now)) up;
}
  where
    new : RecordState
    new = record { id = b.me; seq = own_seq b + 1; links = links }

    now : record_of (relinked b links).records b.me ≡ Some new
    now = record_of-put b.records new b.me ∙ ap (λ t. cond t (Some new) (record_of b.records b.me)) (same_refl b.me)

bounded_kept : (n : ℕ) (b : BaseState) (r : RecordState) → is_newer b r ≡ true → IsBounded n b → IsBounded n (kept b r)
bounded_kept n b r newer h = record {
  number = let e : own_seq (kept b r) ≡ own_seq b = ap (λ (o : Option RecordState). option_map_or (λ q. q.seq) o 0) same in omega (arith, e, h.number);
  ascend = subst IsAscending (sym (ap (λ (o : Option RecordState). linked_ids (option_map_or (λ q. q.links) o [])) same)) h.ascend;
}
  where
    same : record_of (kept b r).records b.me ≡ record_of b.records b.me
    same = record_of-put b.records r b.me ∙ ap (λ t. cond t (Some r) (record_of b.records b.me)) (newer_is b r newer).0

-- an event of links may raise the own number by one, and a message doesn't
abbrev pub cost : Event → ℕ
cost (Up link peer) = 1
cost (Down link) = 1
cost (From link msg) = 0

module _ (n : ℕ) (node : NodeState) (h : IsBounded n node.base) where
  bounded_up : (peer : PeerState) (role : Role) → IsBounded (n + 1) (base_up node.base peer role)
  bounded_up peer Client = bounded_later n (n + 1) node.base (omega arith) h
  bounded_up peer Router = bounded_relinked n node.base (with_linked (own_links node.base) (own_link peer)) h (ascending_with (own_links node.base) (own_link peer) h.ascend)

  bounded_parted : (peer : PeerState) (role : Role) → IsBounded (n + 1) (base_parted node.base peer role)
  bounded_parted peer Client = bounded_later n (n + 1) node.base (omega arith) h
  bounded_parted peer Router = bounded_relinked n node.base (without_linked (own_links node.base) peer.id) h (ascending_without (own_links node.base) peer.id h.ascend)

  bounded_down : (o : Option LinkPeer) → IsBounded (n + 1) (base_down node.base o)
  bounded_down None = bounded_later n (n + 1) node.base (omega arith) h
  bounded_down (Some l) = bounded_parted l.peer l.peer.role

  bounded_told : (from : ℕ) (r : RecordState) → IsBounded n (base_told node from r)
  bounded_told from r = by (leads_to_router node.links from) (is_newer node.base r) refl
    where
      by : (t u : Bool) → is_newer node.base r ≡ u → IsBounded n (cond t (cond u (kept node.base r) node.base) node.base)
      by true true e = bounded_kept n node.base r e h
      by true false e = h
      by false u e = h

  bounded_from : (from : LinkNo) (msg : Msg) → IsBounded n (after node (From from msg)).base
  bounded_from from (Sub id key) = h
  bounded_from from (Unsub id) = h
  bounded_from from (Token id key) = h
  bounded_from from (Untoken id) = h
  bounded_from from (Able id key complete) = h
  bounded_from from (Unable id) = h
  bounded_from from (Interest id current future kinds key aggregate) = h
  bounded_from from (EndInterest id) = h
  bounded_from from (ToldSub id key interest) = h
  bounded_from from (ToldToken id key interest) = h
  bounded_from from (ToldAble id key complete interest) = h
  bounded_from from (ToldUnsub id) = h
  bounded_from from (ToldUntoken id) = h
  bounded_from from (ToldUnable id) = h
  bounded_from from (ToldEnd interest) = h
  bounded_from from (Push tree content) = h
  bounded_from from (Request tree id target content) = h
  bounded_from from (Response id content) = h
  bounded_from from (Final id extras) = h
  bounded_from from (State links) = bounded_told from.0 links
  bounded_from from (Step source number added decl) = h
  bounded_from from (Snap source number decls) = h

  pub bounded_after : (event : Event) → IsBounded (n + cost event) (after node event).base
  bounded_after (Up link peer) = bounded_up peer peer.role
  bounded_after (Down link) = bounded_down (link_at node.links link.0)
  bounded_after (From link msg) = bounded_later n (n + 0) (after node (From link msg)).base (omega arith) (bounded_from link msg)

-- a new router
pub bounded_fresh : (n : ℕ) (id : Name) → IsBounded n (fresh id)
unfolding IsStrictlySortedBy
bounded_fresh n id = record {
  number = let none : own_seq (fresh id) ≡ 0 = ap (λ (o : Option RecordState). option_map_or (λ r. r.seq) o 0) found in omega (arith, none);
  ascend = subst IsAscending (sym (ap (λ (o : Option RecordState). linked_ids (option_map_or (λ r. r.links) o [])) found)) tt;
}
  where
    own : RecordState
    own = record { id = id; seq = 0; links = [] }

    found : record_of (own ∷ []) id ≡ Some own
    found = ap (λ t. cond t (Some own) None) (same_refl id)
