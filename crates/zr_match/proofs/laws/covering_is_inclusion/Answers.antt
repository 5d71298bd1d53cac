use Rattle.zr_match.proofs.Inclusion.{covered_matches}
use Rattle.zr_match.proofs.laws.covering_is_inclusion.Goals as goal

pub returns : goal.returns
returns c = covered_matches
