use Rattle.zr_law_samples.proofs.KeyTexts.{answering_is_meeting}
use Rattle.zr_law_samples.proofs.keys.answering_is_meeting.Goals as goal

pub returns : goal.returns
returns c = answering_is_meeting
