use Rattle.zr_format_spec.proofs.Follows.{format_is_read}
use Rattle.zr_wirekey.proofs.Keys.{follows_key}
use Rattle.zr_wirekey.proofs.laws.keys_are_read.Goals as goal

pub returns : goal.returns
returns c named texts = format_is_read _ _ _ (follows_key named texts)
