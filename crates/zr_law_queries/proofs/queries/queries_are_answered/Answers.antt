use Rattle.zr_law_queries.proofs.Courses as law
use Rattle.zr_law_queries.proofs.queries.queries_are_answered.Goals as goal

pub returns : goal.returns
returns g c = law.law g.row.N.Denot g.row.R.Denot g.row.C.Denot
