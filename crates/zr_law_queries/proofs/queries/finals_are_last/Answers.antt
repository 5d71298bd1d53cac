use Rattle.zr_law_queries.proofs.Courses as law
use Rattle.zr_law_queries.proofs.queries.finals_are_last.Goals as goal

pub returns : goal.returns
returns g c = law.finals_are_last g.row.N.Denot g.row.R.Denot
