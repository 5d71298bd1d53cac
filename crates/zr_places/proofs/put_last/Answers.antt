use Rattle.std.proofs.Common.{ap, ◌∙◌}
use Rattle.std.specs.Map.{values_of}
use Rattle.zr_places.proofs.Last.{comes_last}
use Rattle.zr_places.proofs.put_last.Goals as goal

pub returns-in-Ok-clause-ok : goal.returns-in-Ok-clause-ok
returns-in-Ok-clause-ok g c = ap values_of c.in-Ok.ensures.entries ∙ comes_last c.args.items.now.entries c.args.place c.args.value c.requires
