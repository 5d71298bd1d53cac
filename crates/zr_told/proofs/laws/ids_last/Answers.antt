use Rattle.zr_told.proofs.Lasting.{ids_last}
use Rattle.zr_told.proofs.laws.ids_last.Goals as goal

pub returns : goal.returns
returns c = ids_last
