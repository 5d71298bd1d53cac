use Rattle.std.proofs.Common.{◌==◌, ◌++◌, None, cond, refl, ap, subst, ◌∙◌}
use Rattle.std.proofs.lemmas.Result.{err_from_is_err_and}
use Rattle.zr_lists.specs.Prefix.{IsPrefixBehind}
use Rattle.zr_told_spec.specs.Rows.{map_on, sent_on, answered, closing, is_again}
use Rattle.zr_told_spec.specs.Told.{retell}
use Rattle.zr_told_spec.specs.Wanted.{wanted}
use Rattle.zr_told.proofs.Calls.{all_told, without_memory}
use Rattle.zr_told.proofs.Plans.{interest_told, interest_tells, said_after}
use Rattle.zr_told.proofs.Said.{in_first, in_second}
use Rattle.zr_told.proofs.told.Told.interest_among.Goals as goal

pub returns : goal.returns
returns c =
    let t = interest_tells c.args.future _ _ c.args.interests.now c.args.interest.now (map_on c.args.self.now c.args.link.0) c.in_ok-plan.plan _ _ _ refl c.answered.ensures c.names.ensures c.in_ok-plan.ensures.plan in
    all_told
    (λ k. c.in_ok-tell.ensures.map k
    ∙ ap (λ z. cond (c.args.link.0 == k) z (map_on c.args.self.now k))
    (interest_told c.args.future _ _ c.args.interests.now c.args.interest.now (map_on c.args.self.now c.args.link.0) c.in_ok-plan.plan _ refl c.answered.ensures c.in_ok-plan.ensures.plan))
    (c.in_ok-close.ensures.ok
    ∙ ap (λ z. z ++ sent_on c.args.link (closing c.args.current c.args.future c.args.others.now c.args.interest.now)) c.in_ok-tell.ensures.out
    ∙ said_after c.args.link c.args.out.now.items _ _
    ∙ (λ j. c.args.out.now.items ++ sent_on c.args.link (t j ++ closing c.args.current c.args.future c.args.others.now c.args.interest.now)))
    c.in_ok-plan.ensures.ids

pub returns-in_err-tell : goal.returns-in_err-tell
returns-in_err-tell c =
    let p = err_from_is_err_and c.from_residual-in_err-tell.result c.from_residual-in_err-tell.ensures.1 in
    let ds = c.args.others.now in
    let i = c.args.interest.now in
    let m = map_on c.args.self.now c.args.link.0 in
    let t = interest_tells c.args.future _ ds c.args.interests.now i m c.in_ok-plan.plan _ _ (cond c.args.future (answered c.args.current i) None) refl c.answered.ensures c.names.ensures c.in_ok-plan.ensures.plan in
    rw p.1
    (without_memory p.0 p.2
    (in_first c.args.link c.args.out.now.items c.tell.new.out.items (retell (is_again c.args.future ds i) (cond c.args.future (answered c.args.current i) None) (wanted ds c.args.interests.now) m)
    (closing c.args.current c.args.future ds i)
    (subst (λ z. IsPrefixBehind c.args.out.now.items (sent_on c.args.link z) c.tell.new.out.items) t c.in_err-tell.ensures.err)))

pub returns-in_err-close : goal.returns-in_err-close
returns-in_err-close c =
    let p = err_from_is_err_and c.from_residual-in_err-close.result c.from_residual-in_err-close.ensures.1 in
    let ds = c.args.others.now in
    let i = c.args.interest.now in
    let m = map_on c.args.self.now c.args.link.0 in
    let t = interest_tells c.args.future _ ds c.args.interests.now i m c.in_ok-plan.plan _ _ (cond c.args.future (answered c.args.current i) None) refl c.answered.ensures c.names.ensures c.in_ok-plan.ensures.plan in
    rw p.1
    (without_memory p.0 p.2
    (in_second c.args.link c.args.out.now.items c.close.new.out.items (retell (is_again c.args.future ds i) (cond c.args.future (answered c.args.current i) None) (wanted ds c.args.interests.now) m)
    (closing c.args.current c.args.future ds i)
    c.tell.new.out.items
    (c.in_ok-tell.ensures.out ∙ ap (λ z. c.args.out.now.items ++ sent_on c.args.link z) t)
    c.in_err-close.ensures.err))
