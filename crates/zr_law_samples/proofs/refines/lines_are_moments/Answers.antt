use Rattle.zr_world_spec.proofs.Lines as law
use Rattle.zr_law_samples.proofs.refines.lines_are_moments.Goals as goal

pub returns : goal.returns
returns c = law.lines_are_moments
