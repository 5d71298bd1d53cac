use Rattle.zr_law_queries.proofs.Working as law
use Rattle.zr_law_queries.proofs.queries.query_is_worked.Goals as goal

pub returns : goal.returns
returns c = law.law
