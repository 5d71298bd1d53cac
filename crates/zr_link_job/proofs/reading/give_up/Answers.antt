-- The log is told of an end for which no thread could be started.
use Rattle.zr_link.specs.Log.{end_line}
use Rattle.zr_link.specs.declared.end.LinkEnd.TheVariants as end
use Rattle.zr_link_job.proofs.Telling.{told_as}
use Rattle.zr_link_job.proofs.reading.give_up.Goals as goal

pub returns-clause-logged : goal.returns-clause-logged
returns-clause-logged g c =
    told_as (λ s cause. end_line s end.CrewRefused cause) _ _ _ _ _ _ _ _ _ _ _ _ c.new-log.ensures.stage c.new-log.ensures.cause c.new-log.ensures.held.0 c.new-log.ensures.held.1
    c.into_log.ensures.0 c.into_log.ensures.1 c.read.ensures.told
