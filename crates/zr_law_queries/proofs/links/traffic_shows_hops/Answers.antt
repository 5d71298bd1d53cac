use Rattle.zr_law_queries.proofs.Hops as law
use Rattle.zr_law_queries.proofs.links.traffic_shows_hops.Goals as goal

pub returns : goal.returns
returns g c = law.traffic g.row.Q.Denot g.row.P.Denot g.row.R.Denot
