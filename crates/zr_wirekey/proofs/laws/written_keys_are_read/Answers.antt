use Rattle.zr_wirekey.proofs.Keys.{whole_is_read, number_is_read}
use Rattle.zr_wirekey.proofs.laws.written_keys_are_read.Goals as goal

pub returns : goal.returns
returns c = record { whole = whole_is_read; numbered = number_is_read }
