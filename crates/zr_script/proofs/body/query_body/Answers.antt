use Rattle.zr_script.proofs.Bodies.{query_read, latest_read}
use Rattle.zr_script.proofs.body.query_body.Goals as goal

pub whole-requires : goal.whole-requires
whole-requires c = latest_read

pub whole-requires-else-latest : goal.whole-requires-else-latest
whole-requires-else-latest c = query_read
