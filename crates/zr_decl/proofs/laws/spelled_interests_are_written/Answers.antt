use Rattle.zr_decl.proofs.Fitting.{interest_can_be_written}
use Rattle.zr_decl.proofs.laws.spelled_interests_are_written.Goals as goal

pub returns : goal.returns
returns c theirs ours = interest_can_be_written theirs ours
