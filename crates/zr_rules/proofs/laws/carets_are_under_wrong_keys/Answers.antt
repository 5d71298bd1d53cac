use Rattle.zr_rules.proofs.Carets.{under_wrong_keys}
use Rattle.zr_rules.proofs.laws.carets_are_under_wrong_keys.Goals as goal

pub returns : goal.returns
returns c = under_wrong_keys
