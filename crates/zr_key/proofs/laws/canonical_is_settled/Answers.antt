use Rattle.zr_key.proofs.Reading.{Sound-from_read, read_again}
use Rattle.zr_key.proofs.laws.canonical_is_settled.Goals as goal

pub returns : goal.returns
returns c text canonical read = read_again canonical (Sound-from_read text canonical read).key
