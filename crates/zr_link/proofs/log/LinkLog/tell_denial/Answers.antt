-- The line of a denial was told, or lost.
use Rattle.zr_link.proofs.Logged.{tells_one}
use Rattle.zr_link.proofs.log.LinkLog.tell_denial.Goals as goal

pub returns-clause-tells : goal.returns-clause-tells
returns-clause-tells g c =
    tells_one (λ x. g.L.Log.held x) (λ x. g.L.Log.lost x) c.args.line.now c.args.self.now c.tell_line.new.self c.requires c.tell_line.ensures.stage c.tell_line.ensures.rules c.tell_line.ensures.told
