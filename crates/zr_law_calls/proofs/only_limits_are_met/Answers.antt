use Rattle.zr_law_calls.proofs.Limits as law
use Rattle.zr_law_calls.proofs.only_limits_are_met.Goals as goal

pub returns : goal.returns
returns c = law.limits_met
