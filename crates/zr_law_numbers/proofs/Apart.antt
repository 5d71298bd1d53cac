-- The links over which a request goes differ, where a router's links are in order of their numbers.
use Rattle.std.proofs.Common.{◌≡◌, ℕ, true, List, Option, Some, None, refl}
use Rattle.zr_msg.specs.declared.msg.Target.{Target}
use Rattle.zr_pend_spec.specs.Pending.{differ}
use Rattle.zr_node_spec.specs.Tables.{TableState, AreNumbered, link_at}
use Rattle.zr_node_spec.specs.Samples.{tree_of}
use Rattle.zr_node_spec.specs.Queries.{is_asked, links_along, asked_links}
use Rattle.zr_node_spec.proofs.Apart.{kept_differ}

pub asked_differ : (t : TableState) (from : ℕ) (named : Option (List ℕ)) (target : Target) (key : List ℕ) → AreNumbered t.links → differ (asked_links t from named target key) ≡ true
asked_differ t from named target key up = by (tree_of t (link_at t.links from) named)
  where
    by : (o : Option (List ℕ)) → differ (links_along t from o target key) ≡ true
    by None = refl
    by (Some tree) = kept_differ (λ l. is_asked t from tree target key l l.peer.role) t.links up
