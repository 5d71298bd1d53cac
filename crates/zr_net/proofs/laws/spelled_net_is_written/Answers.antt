use Rattle.zr_net.proofs.Fitting.{message_sent}
use Rattle.zr_net.proofs.laws.spelled_net_is_written.Goals as goal

pub returns : goal.returns
returns c = message_sent
