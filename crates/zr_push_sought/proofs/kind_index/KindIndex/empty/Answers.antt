use Rattle.std.proofs.Common.{ap}
use Rattle.std.specs.List.{sum_by}
use Rattle.zr_push_sought.proofs.kind_index.KindIndex.empty.Goals as goal

pub returns : goal.returns
returns c = λ f. ap (sum_by f) c.new.ensures
