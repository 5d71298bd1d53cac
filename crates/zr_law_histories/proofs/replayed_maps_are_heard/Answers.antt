use Rattle.zr_law_histories.proofs.Maps as law
use Rattle.zr_law_histories.proofs.replayed_maps_are_heard.Goals as goal

pub returns : goal.returns
returns c = law.replayed_maps_are_heard
