use Rattle.zr_script_explain.proofs.Carets.{carets_under_faults}
use Rattle.zr_script_explain.proofs.laws.carets_are_under_faults.Goals as goal

pub returns : goal.returns
returns c = carets_under_faults
