use Rattle.zr_session.proofs.Pieces.{comes_some}
use Rattle.zr_session.proofs.Calls.{comes_one}
use Rattle.zr_session.proofs.laws.bytes_have_one_course.Goals as goal

pub returns : goal.returns
returns c = record { some = comes_some; one = comes_one }
