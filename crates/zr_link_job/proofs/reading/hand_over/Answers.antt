-- The closure leaves what `heard` does.
use Rattle.std.proofs.Common.{sym}
use Rattle.zr_link_job.proofs.reading.hand_over.Goals as goal

pub start-requires-clause-done : goal.start-requires-clause-done
start-requires-clause-done g c κs within = λ j o h. rw (sym h.said-raw.1.1.1) at h.said-raw.1.1.0.ensures
