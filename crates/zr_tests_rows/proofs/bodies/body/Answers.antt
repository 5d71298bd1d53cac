use Rattle.std.proofs.Common.{rules}
use Rattle.zr_tests_rows.proofs.Passing.{read_is_body, read_is_short}
use Rattle.zr_tests_rows.proofs.bodies.body.Goals as goal

pub returns-in-Ok-clause-is_body : goal.returns-in-Ok-clause-is_body
returns-in-Ok-clause-is_body c = read_is_body c.args.place c.args.bytes.now c.in-Ok.body c.read_body.new.c (search rules)

pub returns-in-Ok-clause-short : goal.returns-in-Ok-clause-short
returns-in-Ok-clause-short c = read_is_short c.args.place c.args.bytes.now c.in-Ok.body c.read_body.new.c (search rules)
