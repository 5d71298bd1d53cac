use Rattle.std.proofs.Common.{◌++◌, List, ap, subst, ◌∙◌}
use Rattle.std.proofs.lemmas.Result.{err_from_is_err_and}
use Rattle.zr_id.specs.declared.link.LinkNo.{LinkNo}
use Rattle.zr_msg.specs.declared.msg.Msg.{Msg}
use Rattle.zr_lists.specs.Prefix.{IsPrefixBehind}
use Rattle.zr_query.proofs.OnRoute.{asked_all}
use Rattle.zr_query.proofs.asking.ask.Goals as goal

pub returns-clause-sends : goal.returns-clause-sends
returns-clause-sends c =
    c.in_ok-ask_each.ensures.ok
    ∙ ap (λ (xs : List (LinkNo × Msg)). c.args.out.now.items ++ xs)
    (asked_all c.args.pending.now.rows c.args.tree c.args.target c.args.content.now c.args.stops.now c.as_slice.result.now c.as_slice-2.result.now (c.as_slice.ensures.value ∙ c.in_ok-links.ensures)
    (c.as_slice-2.ensures.value ∙ c.in_ok-numbers.ensures.numbers))

pub returns-in_err-ask_each-clause-prefix : goal.returns-in_err-ask_each-clause-prefix
returns-in_err-ask_each-clause-prefix c =
    let p = err_from_is_err_and c.from_residual-in_err-ask_each.result c.from_residual-in_err-ask_each.ensures.1 in
    rw p.1
    (subst (λ (xs : List (LinkNo × Msg)). IsPrefixBehind c.args.out.now.items xs c.ask_each.new.out.items)
    (asked_all c.args.pending.now.rows c.args.tree c.args.target c.args.content.now c.args.stops.now c.as_slice.result.now c.as_slice-2.result.now (c.as_slice.ensures.value ∙ c.in_ok-links.ensures)
    (c.as_slice-2.ensures.value ∙ c.in_ok-numbers.ensures.numbers))
    c.in_err-ask_each.ensures.err)
