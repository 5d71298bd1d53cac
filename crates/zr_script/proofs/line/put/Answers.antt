use Rattle.zr_script_spec.specs.Words.{words}
use Rattle.zr_script.proofs.Words.{third_short}
use Rattle.zr_script.proofs.line.put.Goals as goal

pub put-requires : goal.put-requires
put-requires c = rw c.payload.ensures (third_short (words c.args.args.now) _ _ _ c.requires c.in_ok-client.ensures)
