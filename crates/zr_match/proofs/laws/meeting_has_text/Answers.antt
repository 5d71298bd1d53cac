use Rattle.zr_match.proofs.TextKeys.{text_key}
use Rattle.zr_match.proofs.laws.meeting_has_text.Goals as goal

pub returns : goal.returns
returns c = text_key
