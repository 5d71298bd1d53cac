-- Where a sample goes: along the tree of its publisher's router to every router whose clients subscribe, and at each router to its own clients.
use Rattle.std.specs.Prelude.{ℕ, ◌==◌, ◌&&◌, not, Bool, true, false, if◌then◌else◌, List, [], ◌∷◌, Option, Some, None}
use Rattle.std.specs.List.{list_any}
use Rattle.std.specs.Option.{option_map_or}
use Rattle.zr_id.specs.Zid.{is_named}
use Rattle.zr_tree.specs.Tree.{parent, reached, toward}
use Rattle.zr_match.specs.Table.{texts_meet}
use Rattle.zr_msg.specs.declared.content.Parts.{Parts}
use Rattle.zr_msg.specs.declared.decl.Decl.{Decl}
use Rattle.zr_msg.specs.declared.decl.Kind.{Kind}
use Rattle.zr_msg.specs.declared.decl.Kind.TheVariants.{Sub, Able, Full, Token}
use Rattle.zr_msg.specs.declared.msg.Msg.{Msg}
use Rattle.zr_msg.specs.declared.msg.Msg.TheVariants.{Push}
use Rattle.zr_msg.specs.declared.peer.LinkPeer.{LinkPeer}
use Rattle.zr_msg.specs.declared.peer.Role.{Role}
use Rattle.zr_msg.specs.declared.peer.Role.TheVariants.{Client, Router}
use Rattle.zr_local.specs.declared.row.Row.{Row}
use Rattle.zr_log.specs.declared.log.Log.{Log}
use Rattle.zr_node_spec.specs.Tables.{TableState, graph, link_at}

-- ---- who subscribes

-- a declaration of a subscriber
abbrev pub is_subscriber : Kind → Bool
is_subscriber Sub = true
is_subscriber Able = false
is_subscriber Full = false
is_subscriber Token = false

-- a declaration subscribes to an expression that meets the key: some key is matched by both
abbrev pub is_for : List ℕ → Decl → Bool
is_for key d = is_subscriber d.kind && texts_meet d.key key

-- the client of a link subscribes to an expression that meets the key
abbrev pub subscribes : List Row → ℕ → List ℕ → Bool
subscribes rows link key = list_any (λ r. r.link.0 == link && is_for key r.decl) rows

-- the clients of a log's router subscribe to one
abbrev pub has_subscriber : List ℕ → Log → Bool
has_subscriber key log = list_any (λ d. is_for key d) log.decls

-- ---- along a tree

-- the way from this router to another one in the tree leads over the neighbour
abbrev pub is_toward : TableState → List ℕ → List ℕ → List ℕ → Bool
is_toward t tree dest name = option_map_or (λ y. is_named y name) (toward (graph t) tree t.base.me dest) false

-- the neighbour is on the way in the tree to a router that is reached and whose log passes a test
abbrev pub leads_to_source : TableState → List ℕ → (Log → Bool) → List ℕ → Bool
leads_to_source t tree test name = list_any (λ log. test log && (reached (graph t) t.base.me log.source && is_toward t tree log.source name)) t.known.logs

-- the neighbour is on the way in the tree to a router that is reached and whose clients subscribe
abbrev pub leads_to_subscriber : TableState → List ℕ → List ℕ → List ℕ → Bool
leads_to_subscriber t tree key name = leads_to_source t tree (λ log. has_subscriber key log) name

-- ---- in which tree

-- a router's sample or request stays in the tree that it names, where it comes from this router's parent there; otherwise it goes nowhere
abbrev pub named_tree : TableState → List ℕ → Option (List ℕ) → Option (List ℕ)
named_tree t name None = None
named_tree t name (Some tree) = if option_map_or (λ p. is_named p name) (parent (graph t) tree t.base.me) false then Some tree else None

-- a client's goes along this router's own tree
abbrev pub tree_by : TableState → LinkPeer → Role → Option (List ℕ) → Option (List ℕ)
tree_by t l Client named = Some t.base.me
tree_by t l Router named = named_tree t l.peer.id named

-- the tree along which a sample or a request from a link goes on, if it goes on
abbrev pub tree_of : TableState → Option LinkPeer → Option (List ℕ) → Option (List ℕ)
tree_of t None named = None
tree_of t (Some l) named = tree_by t l l.peer.role named

-- ---- what is sent

-- once to each router on the way, with the tree; once to each client that subscribes, but not to the publisher, and without the tree
abbrev pub push_to : TableState → ℕ → List ℕ → Parts → LinkPeer → Role → List Msg
push_to t from tree content l Client = if not (l.link.0 == from) && subscribes t.rows l.link.0 content.key then Push None content ∷ [] else []
push_to t from tree content l Router = if leads_to_subscriber t tree content.key l.peer.id then Push (Some tree) content ∷ [] else []

abbrev pub push_on : TableState → ℕ → List ℕ → Parts → Option LinkPeer → List Msg
push_on t from tree content None = []
push_on t from tree content (Some l) = push_to t from tree content l l.peer.role

abbrev pub push_along : TableState → ℕ → Option (List ℕ) → Parts → ℕ → List Msg
push_along t from None content to = []
push_along t from (Some tree) content to = push_on t from tree content (link_at t.links to)

-- what a sample that comes over a link, naming a tree or none, sends on the link of a number
abbrev pub sends_push : TableState → ℕ → Option (List ℕ) → Parts → ℕ → List Msg
sends_push t from named content to = push_along t from (tree_of t (link_at t.links from) named) content to
