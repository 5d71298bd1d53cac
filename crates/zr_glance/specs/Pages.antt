-- The pages of a router's administration space.
use Rattle.std.specs.Prelude.{ℕ, List, ◌++◌, map, codes}
use Rattle.std.specs.Fmt.{decimal}
use Rattle.zr_id.specs.Record.{RecordState}
use Rattle.zr_msg.specs.Peer.{PeerState}
use Rattle.zr_msg.specs.declared.peer.Role.{Role}
use Rattle.zr_msg.specs.declared.peer.Role.TheVariants.{Client, Router}
use Rattle.zr_script_spec.specs.Report.{id_text, links_text, optional_id_text}
use Rattle.zr_glance.specs.Glance.{GlanceState}
use Rattle.zr_glance.specs.declared.glance.Count.{Count}
use Rattle.zr_glance.specs.declared.glance.Parent.{Parent}
use Rattle.zr_glance.specs.declared.space.Page.{Page}

-- all keys of the space of router `id` begin so
abbrev pub space : List ℕ → List ℕ
space id = codes "@/" ++ (id_text id ++ codes "/router/")

-- the key of a page: the space, what the page tells, and of whom
abbrev pub place : List ℕ → List ℕ → List ℕ → List ℕ
place id what name = space id ++ (what ++ (codes "/" ++ id_text name))

abbrev pub role_text : Role → List ℕ
role_text Client = codes "client"
role_text Router = codes "router"

-- who stands at the other end of a link: `client` or `router`
abbrev pub link_page : List ℕ → PeerState → Page
link_page id p = record { key = place id (codes "link") p.id; payload = role_text p.role }

-- the parent of this router in the tree of a root, or `-`
abbrev pub parent_page : List ℕ → Parent → Page
parent_page id q = record { key = place id (codes "parent") q.root; payload = optional_id_text q.parent }

-- a link record: its number, and its links as a report shows them
abbrev pub record_page : List ℕ → RecordState → Page
record_page id r = record { key = place id (codes "record") r.id; payload = decimal r.seq ++ (codes " " ++ links_text r.links) }

-- the number of the last change of a router's declarations that is known, and how many declarations there are then
abbrev pub source_page : List ℕ → Count → Page
source_page id c = record { key = place id (codes "source") c.id; payload = decimal c.number ++ (codes " " ++ decimal c.decls) }

-- The pages of router `id`, by ascending bytes of their keys: `link`, `parent`, `record` and `source` come in this order, and identifiers ascend as their
-- texts do
abbrev pub pages : List ℕ → GlanceState → List Page
pages id g = map (λ p. link_page id p) g.links ++ (map (λ q. parent_page id q) g.parents ++ (map (λ r. record_page id r) g.records ++ map (λ c. source_page id c) g.sources))
