-- Which runs of several routers are spoken of: what the premises of the law are, each by itself.
use Rattle.std.specs.Prelude.{◌≡◌, ℕ, ◌+◌, ◌&&◌, ◌||◌, nat_le, Bool, true, false, List, [], ◌∷◌, length, map, filter, Some, None, is_some}
use Rattle.std.specs.List.{list_any, flat_map}
use Rattle.zr_id.specs.Record.{is_before}
use Rattle.zr_id.specs.Zid.{is_named}
use Rattle.zr_id.specs.declared.link.LinkNo.{LinkNo}
use Rattle.zr_msg.specs.declared.event.Event.{Event}
use Rattle.zr_msg.specs.declared.event.Event.TheVariants.{Up, Down, From}
use Rattle.zr_msg.specs.declared.msg.Msg.{Msg}
use Rattle.zr_msg.specs.declared.peer.LinkPeer.{LinkPeer}
use Rattle.zr_msg.specs.declared.peer.Role.{Role}
use Rattle.zr_msg.specs.declared.peer.Role.TheVariants as role
use Rattle.zr_msg.specs.Peer.{PeerState}
use Rattle.zr_node_spec.specs.Tables.{link_at, link_to, free_link}
use Rattle.zr_told_spec.specs.Hub.{hub_refuses}
use Rattle.zr_world_spec.specs.World.{ClientState, End, most_routers, most_clients, most_links, most_weight}
use Rattle.zr_law_running.specs.Runs.{Heard, Several, at_first, has_link, happened, weighs, MaySay}

-- ---- the routers

-- an identifier is that of one of the routers
abbrev pub is_among : List (List ℕ) → List ℕ → Bool
is_among ids x = list_any (λ id. is_named id x) ids

-- no two routers share an identifier
abbrev pub AreApart : List (List ℕ) → Type 0
AreApart [] = Unit {0}
AreApart (id ∷ ids) = (is_among ids id ≡ false) × AreApart ids

-- and there are no more than in a script's world
pub record AreRouters (ids : List (List ℕ)) : Type 0 where
  pub apart : AreApart ids
  pub few : nat_le (length ids) most_routers ≡ true

-- ---- links come up and go down

-- A client comes: no other one, and no router, has its identifier or had it, its link weighs 1, and there is room for it.
pub record MayCome (ids : List (List ℕ)) (s : Several) (peer : PeerState) : Type 0 where
  pub new : s.clients peer.id ≡ None
  pub apart : is_among ids peer.id ≡ false
  pub weight : peer.weight ≡ 1
  pub room : nat_le most_clients s.came ≡ false

-- A link between two routers is in place until it has gone down at an end and neither of them has it any more.
abbrev pub is_placed : Several → List ℕ → List ℕ → Bool
is_placed s x y = (s.links (x, y)).whole || has_link s x y || has_link s y x

-- the links between routers that are in place, each by its first end
abbrev pub placed_from : List (List ℕ) → Several → List ℕ → List End
placed_from ids s x = map (λ y. (x, y)) (filter (λ y. is_before x y && is_placed s x y) ids)

abbrev pub placed_links : List (List ℕ) → Several → List End
placed_links ids s = flat_map (λ x. placed_from ids s x) ids

-- A link to another router of the run comes up: the second end brings the weight that the first one brought; and it is the first end only where the
-- other router has no such link any more, and where there is room for one more in place.
pub record MayLink (ids : List (List ℕ)) (s : Several) (x : List ℕ) (peer : PeerState) : Type 0 where
  pub router : is_among ids peer.id ≡ true
  pub other : is_named x peer.id ≡ false
  pub weight : (s.links (x, peer.id)).whole ≡ true → (s.links (x, peer.id)).weight ≡ peer.weight
  pub anew : (s.links (x, peer.id)).whole ≡ false → link_to (s.hub peer.id).node.links x ≡ None
  pub room : (s.links (x, peer.id)).whole ≡ false → nat_le most_links (length (placed_links ids s)) ≡ false

abbrev pub MayBringUp : List (List ℕ) → Several → List ℕ → PeerState → Role → Type 0
MayBringUp ids s x peer role.Client = MayCome ids s peer
MayBringUp ids s x peer role.Router = MayLink ids s x peer

-- ---- messages come

-- A client that is linked says what it may say, and there is room for what that weighs.
pub record MaySpeak (s : Several) (x c : List ℕ) (msg : Msg) : Type 0 where
  pub client : ClientState
  pub is : s.clients c ≡ Some client
  pub may : MaySay client msg
  pub room : nat_le (s.weight x + weighs msg) most_weight ≡ true

-- Over a link to a router comes the next message that this router has queued, while the link is up at both ends and has gone down at none.
pub record IsNext (s : Several) (x y : List ℕ) (msg : Msg) : Type 0 where
  pub rest : List Msg
  pub is : (s.links (y, x)).waits ≡ msg ∷ rest
  pub whole : (s.links (y, x)).whole ≡ true
  pub up : is_some (link_to (s.hub y).node.links x) ≡ true

abbrev pub MayBring : Several → List ℕ → List ℕ → Msg → Role → Type 0
MayBring s x y msg role.Client = MaySpeak s x y msg
MayBring s x y msg role.Router = IsNext s x y msg

-- ---- a run

-- a message comes over a link that is up
pub record MayDeliver (s : Several) (x : List ℕ) (link : LinkNo) (msg : Msg) : Type 0 where
  pub at : LinkPeer
  pub is : link_at (s.hub x).node.links link.0 ≡ Some at
  pub brings : MayBring s x at.peer.id msg at.peer.role

-- A link comes up under the least number that is free, and to a peer to which there is no link yet.
pub record MayOpen (ids : List (List ℕ)) (s : Several) (x : List ℕ) (link : LinkNo) (peer : PeerState) : Type 0 where
  pub number : link.0 ≡ free_link (s.hub x).node.links
  pub once : link_to (s.hub x).node.links peer.id ≡ None
  pub brings : MayBringUp ids s x peer peer.role

abbrev pub MayHappen : List (List ℕ) → Several → List ℕ → Event → Type 0
MayHappen ids s x (Up link peer) = MayOpen ids s x link peer
MayHappen ids s x (Down link) = is_some (link_at (s.hub x).node.links link.0) ≡ true
MayHappen ids s x (From link msg) = MayDeliver s x link msg

-- one of the routers hears of an event, which it doesn't refuse
pub record MayHear (ids : List (List ℕ)) (s : Several) (h : Heard) : Type 0 where
  pub known : is_among ids h.router ≡ true
  pub taken : hub_refuses (s.hub h.router) h.event ≡ None
  pub fits : MayHappen ids s h.router h.event

abbrev pub IsRunFrom : List (List ℕ) → Several → List Heard → Type 0
IsRunFrom ids s [] = Unit {0}
IsRunFrom ids s (h ∷ run) = MayHear ids s h × IsRunFrom ids (happened s h) run

-- a run of these routers
abbrev pub IsRun : List (List ℕ) → List Heard → Type 0
IsRun ids run = IsRunFrom ids at_first run
