use Rattle.std.proofs.Common.{rules, arith}
use Rattle.zr_oam.proofs.Contents.{three_bytes}
use Rattle.zr_oam.proofs.writing.put_start.Goals as goal

pub returns-clause-ok : goal.returns-clause-ok
returns-clause-ok c = rw (three_bytes c.args.id c.requires (omega (arith, c.ranges.id))) (search rules)
