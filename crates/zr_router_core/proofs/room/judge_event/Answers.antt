use Rattle.std.proofs.Common.{Err, [], subst}
use Rattle.zr_router_core.specs.Done.{IsNodeDone}
use Rattle.zr_router_core.specs.declared.failure.HubFailure.{HubFailure}
use Rattle.zr_router_core.proofs.Joined.{roomy}
use Rattle.zr_router_core.proofs.room.judge_event.Goals as goal

pub returns-in-Ok : goal.returns-in-Ok
returns-in-Ok c = roomy c.args.node.now [] c.args.event.now c.judge_ids.result c.handle.new.node c.args.sent.now.items c.handle.new.out.items c.in-Ok.ensures c.judge_ids.ensures

pub returns-in-Err-NoMemory : goal.returns-in-Err-NoMemory
returns-in-Err-NoMemory c =
    let h = subst (λ (f : HubFailure). IsNodeDone c.args.node.now c.args.event.now (Err f) c.handle.new.node c.args.sent.now.items c.handle.new.out.items) c.in-Err-NoMemory.field-0-is c.in-Err-NoMemory.ensures in
    h.late
