-- The closure leaves what `work` does.
use Rattle.std.proofs.Common.{sym}
use Rattle.zr_admin_job.proofs.inner.hand_over_inner.Goals as goal

pub start-requires-clause-done : goal.start-requires-clause-done
start-requires-clause-done g c κs within = λ j o h. rw (sym h.said-raw.1.1.1) at h.said-raw.1.1.0.ensures
