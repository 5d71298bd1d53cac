use Rattle.zr_wirekey.proofs.Mirror.{number_heard, next_heard, bytes_heard}
use Rattle.zr_wirekey.proofs.laws.names_are_heard.Goals as goal

pub returns : goal.returns
returns c = record { number = number_heard; next = next_heard; bytes = bytes_heard }
