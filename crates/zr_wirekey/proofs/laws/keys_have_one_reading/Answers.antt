use Rattle.zr_format_spec.proofs.Follows.{one_reading_anywhere}
use Rattle.zr_wirekey.proofs.Keys.{follows_key}
use Rattle.zr_wirekey.proofs.laws.keys_have_one_reading.Goals as goal

pub returns : goal.returns
returns c named texts = one_reading_anywhere _ _ (follows_key named texts)
