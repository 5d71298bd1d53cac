use Rattle.zr_law_numbers.proofs.EveryWorld as law
use Rattle.zr_law_numbers.proofs.no_event_of_any_world_is_refused.Goals as goal

pub returns : goal.returns
returns c = law.worlds_go
