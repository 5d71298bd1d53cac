-- The link is heard; the log is told of what was heard, and last of the end.
use Rattle.std.proofs.Common.{◌∙◌}
use Rattle.zr_link_job.proofs.reading.heard.Goals as goal

pub returns : goal.returns
returns g c =
    let e = c.hear-end.ensures in (
      e.heard,
      e.reads,
      e.turns,
      (
        c.judge_by.new.self,
        c.hear-end.new.log,
        c.judge_by.ensures.held.0 ∙ c.new-log.ensures.held.0,
        c.judge_by.ensures.held.1 ∙ c.new-log.ensures.held.1,
        c.judge_by.ensures.rules,
        e.logged,
        c.read.ensures.told,
      ),
    )
