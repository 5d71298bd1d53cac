use Rattle.std.proofs.Common.{Err, subst}
use Rattle.zr_router_core.specs.Done.{IsRoomy}
use Rattle.zr_router_core.specs.declared.failure.HubFailure.{HubFailure}
use Rattle.zr_router_core.specs.declared.failure.HubFailure.TheVariants.{NoMemory}
use Rattle.zr_router_core.proofs.Joined.{judged}
use Rattle.zr_router_core.proofs.whole.on_change.Goals as goal

pub returns-in-Err-NoMemory-clause-done : goal.returns-in-Err-NoMemory-clause-done
returns-in-Err-NoMemory-clause-done c =
    judged c.args.node.now c.args.told.now c.args.event.now NoMemory c.args.out.now.items
    (subst (λ (f : HubFailure). IsRoomy c.args.node.now c.args.event.now (Err f)) c.in-Err-NoMemory.field-0-is c.in-Err-NoMemory.ensures)
