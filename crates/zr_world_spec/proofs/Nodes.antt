-- What an event makes of a router's links and of its own name: to whom it has links before and after (`peer_to`), where the event may come.
use Rattle.std.proofs.Common.{◌≡◌, ℕ, cond, List, Option, Some, None, refl, ap, ◌∙◌}
use Rattle.std.specs.Option.{option_map}
use Rattle.zr_lists.proofs.Options.{read_cond}
use Rattle.zr_id.specs.Zid.{is_named}
use Rattle.zr_id.specs.declared.link.LinkNo.{LinkNo}
use Rattle.zr_msg.specs.declared.msg.Msg.{Msg}
use Rattle.zr_msg.specs.declared.msg.Msg.TheVariants.{Sub, Unsub, Token, Untoken, Able, Unable, Interest, EndInterest, ToldSub, ToldAble, ToldUnsub, ToldToken, ToldUntoken, ToldUnable, ToldEnd, Push, Request, Response, Final, State, Step, Snap}
use Rattle.zr_msg.specs.declared.event.Event.{Event}
use Rattle.zr_msg.specs.declared.event.Event.TheVariants.{Up, Down, From}
use Rattle.zr_msg.specs.Peer.{PeerState}
use Rattle.zr_node_spec.specs.Tables.{link_at, link_to}
use Rattle.zr_node_spec.specs.State.{NodeState, new_link}
use Rattle.zr_msg.specs.declared.peer.LinkPeer.{LinkPeer}
use Rattle.zr_node_spec.specs.Table.{with_link, without_link, after, after_from}
use Rattle.zr_node_spec.proofs.OwnName.{me_up, me_down, me_told}
use Rattle.zr_world_spec.specs.Sound.{AreUnique}
use Rattle.zr_world_spec.proofs.Links.{link_to_with, link_to_apart}

-- ---- the own name

me_from : (node : NodeState) (from : ℕ) (msg : Msg) → (after_from node from msg).base.me ≡ node.base.me
me_from node from (Sub id key) = refl
me_from node from (Unsub id) = refl
me_from node from (Token id key) = refl
me_from node from (Untoken id) = refl
me_from node from (Able id key complete) = refl
me_from node from (Unable id) = refl
me_from node from (Interest id current future kinds key aggregate) = refl
me_from node from (EndInterest id) = refl
me_from node from (ToldSub id key interest) = refl
me_from node from (ToldToken id key interest) = refl
me_from node from (ToldAble id key complete interest) = refl
me_from node from (ToldUnsub id) = refl
me_from node from (ToldUntoken id) = refl
me_from node from (ToldUnable id) = refl
me_from node from (ToldEnd interest) = refl
me_from node from (Push tree content) = refl
me_from node from (Request tree id target content) = refl
me_from node from (Response id content) = refl
me_from node from (Final id extras) = refl
me_from node from (State links) = me_told node from links
me_from node from (Step source number added decl) = refl
me_from node from (Snap source number decls) = refl

-- a router keeps its name
pub me_after : (node : NodeState) (event : Event) → (after node event).base.me ≡ node.base.me
me_after node (Up link peer) = me_up node.base peer peer.role
me_after node (Down link) = me_down node.base (link_at node.links link.0)
me_after node (From link msg) = me_from node link.0 msg

-- ---- to whom there are links

abbrev pub peer : Option LinkPeer → Option PeerState
peer o = option_map (λ l. l.peer) o

abbrev pub peer_to : List LinkPeer → List ℕ → Option PeerState
peer_to links q = peer (link_to links q)

-- links, whose peers are the same ones
abbrev SamePeers : List LinkPeer → List LinkPeer → Type 0
SamePeers links more = AreUnique more × ((q : List ℕ) → peer_to more q ≡ peer_to links q)

same_links : (links : List LinkPeer) → AreUnique links → SamePeers links links
same_links links h = (h, λ q. refl)

-- a message changes no link's number and peer
pub peers_from : (node : NodeState) (from : ℕ) (msg : Msg) → AreUnique node.links → SamePeers node.links (after_from node from msg).links
peers_from node from (Sub id key) h = same_links node.links h
peers_from node from (Unsub id) h = same_links node.links h
peers_from node from (Token id key) h = same_links node.links h
peers_from node from (Untoken id) h = same_links node.links h
peers_from node from (Able id key complete) h = same_links node.links h
peers_from node from (Unable id) h = same_links node.links h
peers_from node from (Interest id current future kinds key aggregate) h = same_links node.links h
peers_from node from (EndInterest id) h = same_links node.links h
peers_from node from (ToldSub id key interest) h = same_links node.links h
peers_from node from (ToldToken id key interest) h = same_links node.links h
peers_from node from (ToldAble id key complete interest) h = same_links node.links h
peers_from node from (ToldUnsub id) h = same_links node.links h
peers_from node from (ToldUntoken id) h = same_links node.links h
peers_from node from (ToldUnable id) h = same_links node.links h
peers_from node from (ToldEnd interest) h = same_links node.links h
peers_from node from (Push tree content) h = same_links node.links h
peers_from node from (Request tree id target content) h = same_links node.links h
peers_from node from (Response id content) h = same_links node.links h
peers_from node from (Final id extras) h = same_links node.links h
peers_from node from (State links) h = same_links node.links h
peers_from node from (Step source number added decl) h = same_links node.links h
peers_from node from (Snap source number decls) h = same_links node.links h

-- a link more
pub peers_up : (links : List LinkPeer) (link : LinkNo) (p : PeerState) → AreUnique links → link_at links link.0 ≡ None → link_to links p.id ≡ None → (q : List ℕ) →
    peer_to (with_link links (new_link link p)) q ≡ cond (is_named p.id q) (Some p) (peer_to links q)
peers_up links link p h number name q =
    ap peer (link_to_with links (new_link link p) h number name q) ∙ read_cond peer (is_named p.id q) (Some (new_link link p)) (link_to links q)

-- a link less
pub peers_down : (links : List LinkPeer) (name : List ℕ) (l : LinkPeer) → AreUnique links → link_to links name ≡ Some l → (q : List ℕ) →
    peer_to (without_link links l.link.0) q ≡ cond (is_named name q) None (peer_to links q)
peers_down links name l h found q = ap peer (link_to_apart links h l.link.0 name l found refl q) ∙ read_cond peer (is_named name q) None (link_to links q)
