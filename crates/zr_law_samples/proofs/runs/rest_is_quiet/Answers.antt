use Rattle.zr_law_samples.proofs.AtRest.{rest_is_quiet}
use Rattle.zr_law_samples.proofs.runs.rest_is_quiet.Goals as goal

pub returns : goal.returns
returns c = rest_is_quiet
