use denote.Param.Send.{param_send}
use Rattle.zr_link_job.proofs.reading.fn.hand_over.run.Goals as goal

-- what crosses threads where the job is started crosses them again where its writer is
pub heard-requires-send-K : goal.heard-requires-send-K
heard-requires-send-K g c κs within = param_send 1 _ (c.requires.1.1.1.1.1.1.1.1.1.1.1.1.1.1).1

pub heard-requires-send-C : goal.heard-requires-send-C
heard-requires-send-C g c κs within = param_send 2 _ (c.requires.1.1.1.1.1.1.1.1.1.1.1.1.1.1).2

pub heard-requires-send-L : goal.heard-requires-send-L
heard-requires-send-L g c κs within = param_send 3 _ (c.requires.1.1.1.1.1.1.1.1.1.1.1.1.1.1).3

pub heard-requires-send-P : goal.heard-requires-send-P
heard-requires-send-P g c κs within = param_send 4 _ (c.requires.1.1.1.1.1.1.1.1.1.1.1.1.1.1).4

pub heard-requires-send-P-Note : goal.heard-requires-send-P-Note
heard-requires-send-P-Note g c κs within = param_send 6 _ (c.requires.1.1.1.1.1.1.1.1.1.1.1.1.1.1).6
