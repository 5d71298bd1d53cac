-- What the links of a router are, which events may come to it in a state, and how what it appends is told link by link.
use Rattle.std.specs.Prelude.{◌≡◌, ℕ, ◌==◌, true, false, List, ◌++◌, map, filter, Some, None, is_some}
use Rattle.std.specs.List.{AllByRecursion}
use Rattle.std.specs.List.Sorted.{IsStrictlySortedBy}
use Rattle.std.specs.Ordering.{nat_cmp}
use Rattle.zr_id.specs.Zid.{is_named}
use Rattle.zr_id.specs.declared.link.LinkNo.{LinkNo}
use Rattle.zr_msg.specs.declared.msg.Msg.{Msg}
use Rattle.zr_msg.specs.declared.event.Event.{Event}
use Rattle.zr_msg.specs.declared.event.Event.TheVariants.{Up, Down, From}
use Rattle.zr_msg.specs.Peer.{PeerState}
use Rattle.zr_lists.specs.Prefix.{IsPrefixOf}
use Rattle.zr_msg.specs.declared.peer.LinkPeer.{LinkPeer}
use Rattle.zr_node_spec.specs.Tables.{link_at, link_to}
use Rattle.zr_node_spec.specs.State.{NodeState}
use Rattle.zr_node_spec.specs.Table.{sends}

-- what the links of a router are
pub record AreLinks (me : List ℕ) (links : List LinkPeer) : Type 0 where
  -- their numbers ascend
  pub ascending : IsStrictlySortedBy nat_cmp (map (λ l. l.link.0) links)
  -- each is the one of its number
  pub numbers : AllByRecursion (λ l. link_at links l.link.0 ≡ Some l) links
  -- each is the one of its peer
  pub names : AllByRecursion (λ l. link_to links l.peer.id ≡ Some l) links
  -- none leads to the router itself
  pub others : AllByRecursion (λ l. is_named l.peer.id me ≡ false) links

-- a link may come up where none has its number, none leads to its peer, and the peer is another than the router
pub record IsFresh (node : NodeState) (link : LinkNo) (peer : PeerState) : Type 0 where
  pub number : link_at node.links link.0 ≡ None
  pub name : link_to node.links peer.id ≡ None
  pub other : is_named peer.id node.base.me ≡ false

-- an event may come: an Up of a fresh link, or a Down of a link or a message from one that is up
abbrev pub MayCome : NodeState → Event → Type 0
MayCome node (Up link peer) = IsFresh node link peer
MayCome node (Down link) = is_some (link_at node.links link.0) ≡ true
MayCome node (From link msg) = is_some (link_at node.links link.0) ≡ true

-- the messages for a link among those that were sent, in order
abbrev pub on_link : LinkNo → List (LinkNo × Msg) → List Msg
on_link to sent = map (λ x. x.1) (filter (λ x. x.0.0 == to.0) sent)

-- behind what stood there before stands, for the link of each number, what is said of it
pub record Tells (rows : ℕ → List Msg) (before now : List (LinkNo × Msg)) : Type 0 where
  pub sent : List (LinkNo × Msg)
  pub appended : now ≡ before ++ sent
  pub each : (to : LinkNo) → on_link to sent ≡ rows to.0

-- behind what stood there before stands a prefix of it, for the link of each number
pub record TellsPrefix (rows : ℕ → List Msg) (before now : List (LinkNo × Msg)) : Type 0 where
  pub sent : List (LinkNo × Msg)
  pub appended : now ≡ before ++ sent
  pub each : (to : LinkNo) → IsPrefixOf (on_link to sent) (rows to.0)

-- behind what stood there before stands what the event sends, link by link
abbrev pub Sends : NodeState → Event → List (LinkNo × Msg) → List (LinkNo × Msg) → Type 0
Sends node event before now = Tells (λ k. sends node event (record { 0 = k })) before now

-- behind what stood there before stands a prefix of it, link by link
abbrev pub SendsPrefix : NodeState → Event → List (LinkNo × Msg) → List (LinkNo × Msg) → Type 0
SendsPrefix node event before now = TellsPrefix (λ k. sends node event (record { 0 = k })) before now
