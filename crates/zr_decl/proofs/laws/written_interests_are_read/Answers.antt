use Rattle.zr_format_spec.proofs.Follows.{written_is_read}
use Rattle.zr_decl.specs.Writing.{writes_decl, Asks}
use Rattle.zr_decl.proofs.Messages.{follows_interest}
use Rattle.zr_decl.proofs.Written.{interest_spelled}
use Rattle.zr_decl.proofs.laws.written_interests_are_read.Goals as goal

pub returns : goal.returns
returns c theirs ours = written_is_read _ _ _ (λ m. m) writes_decl Asks (follows_interest theirs ours) (interest_spelled theirs ours)
