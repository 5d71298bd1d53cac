use Rattle.zr_law_settled.proofs.Graphs as law
use Rattle.zr_law_settled.proofs.graphs_are_one.Goals as goal

pub returns : goal.returns
returns c = law.graphs_are_one
