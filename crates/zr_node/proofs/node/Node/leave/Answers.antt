use Rattle.std.proofs.Common.{List, subst, sym}
use Rattle.zr_id.specs.declared.link.LinkNo.{LinkNo}
use Rattle.zr_msg.specs.declared.msg.Msg.{Msg}
use Rattle.zr_node.specs.Done.{IsDone}
use Rattle.zr_node.specs.Steps.{leave_part}
use Rattle.zr_node.specs.declared.failure.NodeFailure.TheVariants.{NoMemory}
use Rattle.zr_node.proofs.Done.{failed}
use Rattle.zr_node.proofs.Downs.{ending_failed, finals_told, client_left}
use Rattle.zr_node.proofs.node.Node.leave.Goals as goal

pub returns-in-Err : goal.returns-in-Err
returns-in-Err c = λ node left. ending_failed node c.args.link c.args.self.now c.args.told.items left c.args.out.now.items c.end_requests.new.out.items c.in-Err.ensures.prefix

pub returns-in_err-append-in-Ok : goal.returns-in_err-append-in-Ok
returns-in_err-append-in-Ok c = λ node left.
    subst (λ (xs : List (LinkNo × Msg)). IsDone (leave_part node c.args.link) c.from_residual.result c.end_requests.new.self c.args.out.now.items xs) (sym c.in_err-append-in-Ok.ensures.err)
    (failed (leave_part node c.args.link) NoMemory c.from_residual.result c.end_requests.new.self c.args.out.now.items c.end_requests.new.out.items c.from_residual.ensures.1
    (finals_told node c.args.link c.args.self.now c.args.told.items left c.args.out.now.items c.end_requests.new.out.items c.in-Ok.ensures.sends))

pub returns-in_ok-append-in-Ok : goal.returns-in_ok-append-in-Ok
returns-in_ok-append-in-Ok c = λ node left.
    client_left node c.args.link c.args.self.now c.args.told.items left c.args.out.now.items c.end_requests.new.out.items c.end_requests.new.self c.remove.new.self c.append.new.out.items c.in-Ok.ensures.sends c.in-Ok.ensures.state
    c.in_ok-append-in-Ok.ensures.ok c.remove.ensures
