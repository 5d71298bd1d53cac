-- What a router shows of itself, by its links, its link records and what it knows of the logs of all routers.
use Rattle.std.specs.Prelude.{ℕ, not, List, [], ◌∷◌, map, length}
use Rattle.std.specs.Cmp.Lexicographic.{slice_cmp}
use Rattle.std.specs.List.{filter}
use Rattle.std.specs.Ordering.{nat_cmp}
use Rattle.zr_id.specs.Record.{RecordState}
use Rattle.zr_id.specs.Zid.{is_named}
use Rattle.zr_graph.specs.Base.{BaseState}
use Rattle.zr_graph.specs.Record.{ids}
use Rattle.zr_tree.specs.Tree.{parent}
use Rattle.zr_tree.specs.Walk.{graph_of}
use Rattle.zr_lists.specs.Ascending.{put}
use Rattle.zr_log.specs.declared.log.Log.{Log}
use Rattle.zr_log.specs.Known.{KnownState}
use Rattle.zr_msg.specs.Peer.{PeerState}
use Rattle.zr_msg.specs.declared.peer.LinkPeer.{LinkPeer}
use Rattle.zr_glance.specs.declared.glance.Count.{Count}
use Rattle.zr_glance.specs.declared.glance.Parent.{Parent}
use Rattle.zr_glance.specs.Glance.{GlanceState}

-- with one peer more, in ascending order of identifiers
abbrev pub with_peer : List PeerState → PeerState → List PeerState
with_peer peers p = put (slice_cmp nat_cmp) (λ q. q.id) peers p

-- the peers of these links in ascending order of identifiers, of which no two links have the same
abbrev pub peers_from : List PeerState → List LinkPeer → List PeerState
peers_from peers [] = peers
peers_from peers (l ∷ links) = peers_from (with_peer peers l.peer) links

abbrev pub peers_of : List LinkPeer → List PeerState
peers_of links = peers_from [] links

-- the routers of these records but one
abbrev pub other_ids : List ℕ → List RecordState → List (List ℕ)
other_ids me records = filter (λ id. not (is_named id me)) (ids records)

-- the other routers of which it keeps a record
abbrev pub others : BaseState → List (List ℕ)
others base = other_ids base.me base.records

-- the parent of a router in the tree of a root, by these records
abbrev pub parent_at : List RecordState → List ℕ → List ℕ → Parent
parent_at records me root = record { root = root; parent = parent (graph_of records) root me }

abbrev pub parent_in : BaseState → List ℕ → Parent
parent_in base root = parent_at base.records base.me root

-- how many changes of a router's log it knows, and how many declarations they lead to
abbrev pub count_of : Log → Count
count_of l = record { id = l.source; number = l.position; decls = length l.decls }

abbrev pub glance_at : List LinkPeer → BaseState → KnownState → GlanceState
glance_at links base known = record {
  links = peers_of links;
  records = base.records;
  parents = map (λ root. parent_in base root) (others base);
  sources = map (λ l. count_of l) known.logs;
}
