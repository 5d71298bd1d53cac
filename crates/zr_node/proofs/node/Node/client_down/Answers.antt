use Rattle.std.proofs.Common.{List, Err, subst}
use Rattle.zr_id.specs.declared.link.LinkNo.{LinkNo}
use Rattle.zr_msg.specs.declared.msg.Msg.{Msg}
use Rattle.zr_node.specs.Done.{IsLeft, IsDone}
use Rattle.zr_node.specs.Steps.{asked_part}
use Rattle.zr_node.specs.declared.asked.Asked.TheVariants.{Leave}
use Rattle.zr_node.proofs.Downs.{leaving_failed}
use Rattle.zr_node.proofs.node.Node.client_down.Goals as goal

pub returns-in-Err : goal.returns-in-Err
returns-in-Err c =
    leaving_failed c.args.self.now c.args.link c.in-Err.failure c.change_rows.new.self c.args.out.now.items c.change_rows.new.out.items
    (subst (λ (xs : List (LinkNo × Msg)). IsDone (asked_part c.args.self.now (Leave c.args.link)) (Err c.in-Err.failure) c.change_rows.new.self xs c.change_rows.new.out.items) c.new-told.ensures.items c.in-Err.ensures)

pub returns-in-Ok : goal.returns-in-Ok
returns-in-Ok c =
    c.leave.ensures c.args.self.now
    (subst (λ (xs : List (LinkNo × Msg)). IsLeft (asked_part c.args.self.now (Leave c.args.link)) c.change_rows.new.self xs c.change_rows.new.out.items) c.new-told.ensures.items c.in-Ok.ensures)
