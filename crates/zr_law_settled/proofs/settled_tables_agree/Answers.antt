use Rattle.zr_law_settled.proofs.Tables as law
use Rattle.zr_law_settled.proofs.settled_tables_agree.Goals as goal

pub returns : goal.returns
returns c = law.settled_tables_agree
