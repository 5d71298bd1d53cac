use Rattle.zr_format_spec.proofs.Follows.{written_is_read}
use Rattle.zr_decl.specs.Writing.{writes_decl, tells, Declares}
use Rattle.zr_decl.proofs.Messages.{follows_message}
use Rattle.zr_decl.proofs.Written.{declaration_spelled}
use Rattle.zr_decl.proofs.laws.written_declarations_are_read.Goals as goal

pub returns : goal.returns
returns c theirs ours = written_is_read _ _ _ tells writes_decl Declares (follows_message theirs ours) (declaration_spelled theirs ours)
