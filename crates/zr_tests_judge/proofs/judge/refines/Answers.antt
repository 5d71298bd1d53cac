use Rattle.zr_tests_judge.proofs.Decides.{if_judged}
use Rattle.zr_tests_judge.proofs.judge.refines.Goals as goal

pub returns : goal.returns
returns c = if_judged c.judgement.result _ c.judgement.ensures
