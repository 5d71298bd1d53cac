use Rattle.zr_net.proofs.Kept.{exts_ascend}
use Rattle.zr_net.proofs.writing.kept_exts.Goals as goal

pub returns-clause-ascending : goal.returns-clause-ascending
returns-clause-ascending c = rw c.in_ok-exts.ensures.items (exts_ascend _ _ _)
