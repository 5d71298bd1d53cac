use Rattle.zr_law_queries.proofs.Hops as law
use Rattle.zr_law_queries.proofs.links.events_keep_hops.Goals as goal

pub returns : goal.returns
returns g c = law.events_keep g.row.Q.Denot g.row.P.Denot g.row.R.Denot
