use Rattle.zr_tests_rows.proofs.Opened.{sample_may_be_sent}
use Rattle.zr_tests_rows.proofs.Passing.{push_fits}
use Rattle.std.proofs.Common.{Some, rules}
use Rattle.zr_tests_rows.proofs.carriers.sample.Goals as goal

pub is_short-requires : goal.is_short-requires
is_short-requires c = push_fits (Some c.args.tree) c.in_ok-put.field-0 c.in_ok-put.ensures.extras

pub returns-then-branch : goal.returns-then-branch
returns-then-branch c =
    sample_may_be_sent c.args.tree c.in_ok-put.field-0 c.in_ok-put.ensures.extras c.in_ok-put.ensures.body c.of_types.ensures (c.in_ok-is_short.ensures (search rules))
