use Rattle.std.proofs.Common.{◌≡◌, ◌++◌, OnOk, OnErr, subst, ◌∙◌}
use Rattle.zr_msg.specs.declared.extras.Extras.{Extras}
use Rattle.zr_lists.specs.Prefix.{IsPrefixBehind}
use Rattle.zr_query.specs.Answering.{endings_sent}
use Rattle.zr_query.proofs.answering.end_each.Goals as goal

pub returns-clause-ok : goal.returns-clause-ok
returns-clause-ok c =
    subst (λ (x : Extras). OnOk c.end_with.result (c.end_with.new.out.items ≡ c.args.out.now.items ++ endings_sent x c.args.ended.now)) (c.in_ok-none.ensures ∙ c.none.ensures) c.end_with.ensures.ok

pub returns-clause-err : goal.returns-clause-err
returns-clause-err c =
    subst (λ (x : Extras). OnErr c.end_with.result (IsPrefixBehind c.args.out.now.items (endings_sent x c.args.ended.now) c.end_with.new.out.items)) (c.in_ok-none.ensures ∙ c.none.ensures) c.end_with.ensures.err
