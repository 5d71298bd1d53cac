use Rattle.zr_match.proofs.Inclusion.{inclusion_covers}
use Rattle.zr_match.proofs.laws.inclusion_is_covering.Goals as goal

pub returns : goal.returns
returns c = inclusion_covers
