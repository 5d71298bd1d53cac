-- Under which names links are remembered, and where the numbers that are remembered lead.
use Rattle.std.specs.Prelude.{ℕ, List, Bool, false}
use Rattle.std.specs.BTreeMap.{BTreeMap, ContainsKey}
use Rattle.std.specs.Cmp.Lexicographic.{slice_cmp}
use Rattle.std.specs.Option.{IsSome, option_map_or}
use Rattle.std.specs.Ordering.{nat_cmp}
use Rattle.zr_id.specs.Zid.{is_named}
use Rattle.zr_id.specs.declared.link.LinkNo.{LinkNo}
use Rattle.zr_node_spec.specs.Tables.{link_at, link_to}
use Rattle.zr_msg.specs.declared.peer.LinkPeer.{LinkPeer}

-- each name under which a number is remembered is that of a neighbour whose link is up
abbrev pub AreOfLinks : BTreeMap (List ℕ) LinkNo → List LinkPeer → Type 0
AreOfLinks hints links = (name : List ℕ) → ContainsKey (slice_cmp nat_cmp) hints name → IsSome (link_to links name)

-- the link of a number is up and leads to this neighbour
abbrev pub leads_to : List LinkPeer → LinkNo → List ℕ → Bool
leads_to links number name = option_map_or (λ l. is_named l.peer.id name) (link_at links number.0) false
