use Rattle.zr_law_keys.proofs.Matching.{chars_meet}
use Rattle.zr_law_keys.proofs.meeting_is_of_characters.Goals as goal

pub returns : goal.returns
returns c = chars_meet
