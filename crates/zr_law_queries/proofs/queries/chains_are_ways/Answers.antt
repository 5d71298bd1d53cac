use Rattle.zr_law_queries.proofs.Ways as law
use Rattle.zr_law_queries.proofs.queries.chains_are_ways.Goals as goal

pub returns : goal.returns
returns g c = law.law g.row.N.Denot g.row.R.Denot
