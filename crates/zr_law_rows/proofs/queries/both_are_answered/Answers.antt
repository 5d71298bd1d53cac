use Rattle.std.proofs.Common.{refl}
use Rattle.zr_law_rows.proofs.OnLiterals.{scripts_on_literals}
use Rattle.zr_law_rows.proofs.queries.both_are_answered.Goals as goal

pub returns : goal.returns
unfolding scripts_on_literals
returns c = record {
  accepted_is = refl;
  queries_are = refl;
  who_is_asked = refl;
  requests_due = refl;
  requests_sent = refl;
  replies_due = refl;
  replies_sent = refl;
  later_due = refl;
  numbers_are = refl;
  finished_is = refl;
  open_is = refl;
  final_is = refl;
  no_final_is = refl;
  finals_are = refl;
  quiet_at_end = refl;
}
