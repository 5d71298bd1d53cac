use Rattle.zr_law_held.proofs.Acts as law
use Rattle.zr_law_held.proofs.replies_have_room.Goals as goal

pub returns : goal.returns
returns c = law.replies_have_room
