use Rattle.zr_law_settled.proofs.Agreeing as law
use Rattle.zr_law_settled.proofs.settled_logs_agree.Goals as goal

pub returns : goal.returns
returns c = law.logs_agree
