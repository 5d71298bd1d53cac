use Rattle.zr_router_core.proofs.Joined.{node_lacking}
use Rattle.zr_router_core.proofs.handled.handle.Goals as goal

pub returns-in-Err-NoMemory : goal.returns-in-Err-NoMemory
returns-in-Err-NoMemory c =
    node_lacking c.args.node.now c.args.event.now c.in-Err-NoMemory.field-0 c.args.out.now.items c.handle.new.out.items c.requires.awake c.in-Err-NoMemory.field-0-is
    (λ e. c.in-Err-NoMemory.ensures.judged e) (λ e. c.in-Err-NoMemory.ensures.prefix e)
