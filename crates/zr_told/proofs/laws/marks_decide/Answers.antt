use Rattle.zr_told_spec.specs.Wanted.{is_complete_at, wanted}
use Rattle.zr_told.proofs.Planned.{gone_marked, fresh_marked}
use Rattle.zr_told_spec.proofs.Sorted.{wanted_ascends}
use Rattle.zr_told_spec.proofs.Wants.{wanted_by}
use Rattle.zr_told.proofs.laws.marks_decide.Goals as goal

pub returns : goal.returns
returns c = λ again ds is m ms t u r. (
  gone_marked again (is_complete_at ds) (wanted ds is) m ms (wanted_by ds is) r (wanted_ascends ds is) t u,
  fresh_marked again (is_complete_at ds) (wanted ds is) m ms (wanted_by ds is) r (wanted_ascends ds is) t u,
)
