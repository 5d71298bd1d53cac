use Rattle.zr_told_spec.specs.Wanted.{wanted}
use Rattle.zr_told.proofs.Planned.{forgotten_gone}
use Rattle.zr_told.proofs.laws.forgotten_is_kept.Goals as goal

pub returns : goal.returns
returns c = λ ds is m s. forgotten_gone (wanted ds is) m s
