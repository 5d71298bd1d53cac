use Rattle.zr_law_told.proofs.Maps as law
use Rattle.zr_law_told.proofs.told_maps_are_heard.Goals as goal

pub returns : goal.returns
returns c = law.told_maps_are_heard
