use Rattle.zr_top.proofs.Cases.{if_ok}
use Rattle.zr_top.proofs.edge.collect_words.Goals as goal

-- a vector that was collected is whole
pub returns : goal.returns
returns g c = if_ok c.collect.result _ _ (λ v h. let w = h tt in (w.0, w.1, w.2, w.3.0)) c.collect.ensures.runs
