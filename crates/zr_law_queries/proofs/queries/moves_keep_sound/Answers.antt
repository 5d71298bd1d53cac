use Rattle.zr_law_queries.proofs.Moves as law
use Rattle.zr_law_queries.proofs.queries.moves_keep_sound.Goals as goal

pub returns : goal.returns
returns g c = law.law g.row.N.Denot g.row.R.Denot
