-- What is known of settled worlds by `zr_law_settled`, as the laws on samples use it.
use Rattle.std.proofs.Common.{ap, ◌∙◌}
use Rattle.std.specs.Prelude.{is_some}
use Rattle.std.specs.Map.{keys_of}
use Rattle.zr_graph.specs.Record.{IsAscending}
use Rattle.zr_tree.specs.Laws.{IsGraph}
use Rattle.zr_tree.proofs.Paths.{walk_reaches}
use Rattle.zr_world_spec.specs.Joined.{graph}
use Rattle.zr_world_spec.specs.Moments as moments
use Rattle.zr_world_spec.proofs.Lines.{at_some}
use Rattle.zr_law_settled.proofs.Order.{Ascend, routers_ascend}
use Rattle.zr_law_settled.proofs.Keeping.{Stands, moments_hold}
use Rattle.zr_law_settled.proofs.Graphs.{is_graph, walk_to, graphs_are_one}
use Rattle.zr_law_settled.proofs.Agreeing.{logs_agree}
use Rattle.zr_law_samples.proofs.Final.{TablesAreSettled}

-- In each settled world whose routers are joined the tables agree: routers ascend and are joined, so there is one graph, each router is reached, and
-- logs agree along the walk from one router to the other.
pub tables_are_settled : TablesAreSettled
tables_are_settled acts m is settled joined = record {
  is_graph = g;
  reaches = λ x z here other.
      let walk = walk_to m.world stands.sound stands.holds settled joined ascend x z here other in
      ap is_some (walk_reaches (graph m.world) g x z walk.0 walk.1).2;
  graphs = λ x r found. graphs_are_one acts m x r is settled joined found;
  logs = λ x z rx rz ex ez.
      let walk = walk_to m.world stands.sound stands.holds settled joined ascend x z (ap is_some ex) (ap is_some ez) in
      let k = logs_agree acts m is settled x z walk.0 rx rz ex ez walk.1 in
      k.decls_are ∙ k.declared_is;
}
  where
    stands : Stands m
    stands = at_some Stands (moments.reached acts) m is (moments_hold acts)

    ascend : IsAscending (keys_of m.world.routers)
    ascend = at_some Ascend (moments.reached acts) m is (routers_ascend acts)

    g : IsGraph (graph m.world)
    g = is_graph m.world stands.sound stands.holds settled ascend
