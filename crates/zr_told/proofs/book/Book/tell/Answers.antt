use Rattle.std.proofs.Common.{◌++◌, List, ap, subst, ◌∙◌}
use Rattle.std.proofs.lemmas.Result.{err_from_is_err_and, on_err_weaker}
use Rattle.zr_id.specs.declared.link.LinkNo.{LinkNo}
use Rattle.zr_msg.specs.declared.msg.Msg.{Msg}
use Rattle.zr_lists.specs.Prefix.{IsPrefixBehind}
use Rattle.zr_told.specs.Plan.{forgotten}
use Rattle.zr_told_spec.specs.Rows.{sent_on}
use Rattle.zr_told_spec.specs.Told.{declared, undeclared}
use Rattle.zr_told.proofs.Said.{in_first, after_first, in_second}
use Rattle.zr_told.proofs.book.Book.tell.Goals as goal

pub returns-in_err-undeclare_all-clause-err : goal.returns-in_err-undeclare_all-clause-err
returns-in_err-undeclare_all-clause-err c =
    let p = err_from_is_err_and c.from_residual.result c.from_residual.ensures.1 in
    let ms : List Msg = undeclared c.args.self.now c.args.plan.now.gone.items in
    let ns : List Msg = declared c.args.interest (forgotten c.args.self.now c.args.plan.now.gone.items) c.args.plan.now.fresh.items in
    rw p.1
    (in_first c.args.link c.args.out.now.items c.undeclare_all.new.out.items ms ns
    (subst (λ z. IsPrefixBehind c.args.out.now.items (sent_on c.args.link (undeclared c.args.self.now z)) c.undeclare_all.new.out.items) c.deref.ensures.value c.in_err-undeclare_all.ensures.err))

pub returns-in_err-forget_all-clause-err : goal.returns-in_err-forget_all-clause-err
returns-in_err-forget_all-clause-err c =
    let p = err_from_is_err_and c.from_residual-in_err-forget_all.result c.from_residual-in_err-forget_all.ensures.1 in
    let ms : List Msg = undeclared c.args.self.now c.args.plan.now.gone.items in
    let ns : List Msg = declared c.args.interest (forgotten c.args.self.now c.args.plan.now.gone.items) c.args.plan.now.fresh.items in
    rw p.1
    (after_first c.args.link c.args.out.now.items c.undeclare_all.new.out.items ms ns
    (c.in_ok-undeclare_all.ensures.ok ∙ ap (λ z. c.args.out.now.items ++ sent_on c.args.link (undeclared c.args.self.now z)) c.deref.ensures.value))

pub returns-clause-err : goal.returns-clause-err
returns-clause-err c =
    let ms : List Msg = undeclared c.args.self.now c.args.plan.now.gone.items in
    let ns : List Msg = declared c.args.interest (forgotten c.args.self.now c.args.plan.now.gone.items) c.args.plan.now.fresh.items in
    let mid : List (LinkNo × Msg) = c.undeclare_all.new.out.items in
    let e = c.in_ok-undeclare_all.ensures.ok ∙ ap (λ z. c.args.out.now.items ++ sent_on c.args.link (undeclared c.args.self.now z)) c.deref.ensures.value in
    let g = c.in_ok-forget_all.ensures ∙ ap (λ z. forgotten c.args.self.now z) c.deref-2.ensures.value in
    let f = c.deref-3.ensures.value in
    on_err_weaker _
    (λ h. in_second c.args.link c.args.out.now.items c.declare_all.new.out.items ms ns mid e
    (subst (λ z. IsPrefixBehind mid (sent_on c.args.link z) c.declare_all.new.out.items) (λ j. declared c.args.interest (g j) (f j)) h))
    c.declare_all.ensures.err
