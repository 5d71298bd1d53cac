use Rattle.zr_law_queries.proofs.Hops as law
use Rattle.zr_law_queries.proofs.links.fronts_are_right.Goals as goal

pub returns : goal.returns
returns g c = law.fronts g.row.Q.Denot g.row.P.Denot g.row.R.Denot
