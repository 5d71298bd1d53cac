use Rattle.std.proofs.Common.{◌≡◌, [], ◌∷◌, cond}
use Rattle.std.proofs.lemmas.Result.{err_from_is_err_and, on_err_weaker}
use Rattle.zr_msg.specs.declared.msg.Msg.TheVariants.{ToldEnd}
use Rattle.zr_lists.specs.Prefix.{IsPrefixBehind}
use Rattle.zr_told_spec.specs.Rows.{once, sent_on, closing}
use Rattle.zr_told.proofs.Said.{in_first, after_first}
use Rattle.zr_told.proofs.told.close.Goals as goal

pub returns-in_err-once_if_now-clause-err : goal.returns-in_err-once_if_now-clause-err
returns-in_err-once_if_now-clause-err c =
    let p = err_from_is_err_and c.from_residual.result c.from_residual.ensures.1 in
    rw (p.1, c.if-not-current.false)
    (in_first c.args.link c.args.out.now.items c.once_if_now.new.out.items (cond c.args.future [] (once c.args.others.now c.args.interest.now)) (ToldEnd c.args.interest.now.id ∷ []) c.in_err-once_if_now.ensures.err)

pub returns-clause-err : goal.returns-clause-err
returns-clause-err c =
    let p : c.say.new.out.items ≡ c.once_if_now.new.out.items → IsPrefixBehind c.args.out.now.items (sent_on c.args.link (closing c.args.current c.args.future c.args.others.now c.args.interest.now)) c.say.new.out.items
    = λ h. rw (c.if-not-current.false, h)
    (after_first c.args.link c.args.out.now.items c.once_if_now.new.out.items (cond c.args.future [] (once c.args.others.now c.args.interest.now)) (ToldEnd c.args.interest.now.id ∷ []) c.in_ok-once_if_now.ensures.ok) in
    on_err_weaker _ p c.say.ensures.err
