use Rattle.std.proofs.Common.{◌∙◌, sym}
use Rattle.zr_log.proofs.Logs.{put_there, names_set}
use Rattle.zr_log.proofs.place.put.Goals as goal

pub returns-in-Ok-clause-ok : goal.returns-in-Ok-clause-ok
returns-in-Ok-clause-ok c = put_there c.args.logs.now.items c.args.new c.in-Ok.at (rw c.in-Ok.is at c.requires.place)

pub returns-in-Ok-clause-named : goal.returns-in-Ok-clause-named
returns-in-Ok-clause-named c = c.requires.named ∙ sym (names_set c.args.logs.now.items c.args.new c.in-Ok.at (rw c.in-Ok.is at c.requires.place))
