use Rattle.std.proofs.Common.{rules}
use Rattle.zr_tests_rows.proofs.carriers.OpenWire.pass.Goals as goal

pub send-requires : goal.send-requires
send-requires g c = c.passable_may_be_sent.ensures _ c.args.msg.now (search rules, c.requires) c.of_types.ensures
