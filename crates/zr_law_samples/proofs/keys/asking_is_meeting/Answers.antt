use Rattle.zr_law_samples.proofs.KeyTexts.{asking_is_meeting}
use Rattle.zr_law_samples.proofs.keys.asking_is_meeting.Goals as goal

pub returns : goal.returns
returns c = asking_is_meeting
