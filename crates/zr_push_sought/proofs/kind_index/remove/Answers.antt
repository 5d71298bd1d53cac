use Rattle.zr_index.specs.Meeting.{held}
use Rattle.zr_push_sought.proofs.Kept.{removed}
use Rattle.zr_push_sought.proofs.kind_index.remove.Goals as goal

pub returns : goal.returns
returns c = λ ps same. removed c.args.key.now c.args.who.now ps (held c.args.index.now) (held c.remove.new.self) c.remove.result same c.remove.ensures
