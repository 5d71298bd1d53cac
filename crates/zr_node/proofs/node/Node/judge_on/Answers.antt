use Rattle.std.proofs.Common.{Err, subst}
use Rattle.zr_local.specs.State.{LocalState}
use Rattle.zr_node.specs.Answer.{IsJudged}
use Rattle.zr_node.specs.Asked.{refuses_asked}
use Rattle.zr_node.proofs.Early.{change_judged}
use Rattle.zr_node.proofs.node.Node.judge_on.Goals as goal

pub returns-in_err-changes : goal.returns-in_err-changes
returns-in_err-changes c =
    change_judged c.args.self.now c.args.asked c.in_err-changes.field-0.0 c.from_residual.result c.from_residual.ensures.1
    (subst (λ (l : LocalState). IsJudged {X = Unit {0}} (refuses_asked l c.args.asked) (Err c.in_err-changes.field-0.0)) c.requires c.in_err-changes.ensures.refused)
