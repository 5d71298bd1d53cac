use Rattle.zr_law_numbers.proofs.EveryWorld as law
use Rattle.zr_law_numbers.proofs.no_event_within_a_fan_is_refused.Goals as goal

pub returns : goal.returns
returns c = law.fans_go
