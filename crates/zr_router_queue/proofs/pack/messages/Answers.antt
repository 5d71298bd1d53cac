use Rattle.zr_frame_pack.proofs.NamesGiven.{later_alike}
use Rattle.zr_router_queue.proofs.pack.messages.Goals as goal

pub returns-clause-later : goal.returns-clause-later
returns-clause-later c = later_alike c.args.outbox.now.names
