use Rattle.zr_decl.proofs.Fitting.{declaration_can_be_written}
use Rattle.zr_decl.proofs.laws.spelled_declarations_are_written.Goals as goal

pub returns : goal.returns
returns c theirs ours = declaration_can_be_written theirs ours
