use Rattle.zr_index.specs.Meeting.{held}
use Rattle.zr_push_sought.proofs.Kept.{meeting_same}
use Rattle.zr_push_sought.proofs.kind_index.found_in.Goals as goal

pub returns-in-Ok : goal.returns-in-Ok
returns-in-Ok c = λ ps same. meeting_same c.args.key.now (held c.args.index.now) ps c.in-Ok.found.holders.items same c.in-Ok.ensures
