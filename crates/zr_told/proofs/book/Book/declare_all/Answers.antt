use Rattle.std.proofs.lemmas.Result.{err_from_is_err_and}
use Rattle.std.proofs.Common.{◌+◌, ◌≤◌, drop, length, subst, sym, ap, ◌∙◌, arith}
use Rattle.std.proofs.Math.ListN.{drop_of_length-le}
use Rattle.std.specs.List.{fold}
use Rattle.zr_lists.proofs.Prefixes.{IsSoFar, so_far_all, so_far_prefix}
use Rattle.zr_told.specs.Plan.{fit}
use Rattle.zr_told_spec.specs.Rows.{most_id, sent_on}
use Rattle.zr_told_spec.specs.Told.{declared, entered}
use Rattle.zr_told.proofs.Changed.{next_left}
use Rattle.zr_told.proofs.Said.{declared_more}
use Rattle.zr_told.proofs.book.Book.declare_all.Goals as goal

pub returns-in_err-id-clause-err : goal.returns-in_err-id-clause-err
returns-in_err-id-clause-err c =
    let p = err_from_is_err_and c.from_residual.result c.from_residual.ensures.1 in
    rw p.1 (so_far_prefix _ _ _ _ c.loop-wanted.invariant.1)

pub returns-in_err-say_declared-clause-err : goal.returns-in_err-say_declared-clause-err
returns-in_err-say_declared-clause-err c =
    let p = err_from_is_err_and c.from_residual-in_err-say_declared.result c.from_residual-in_err-say_declared.ensures.1 in
    rw (p.1, c.in_err-say_declared.ensures.err) (so_far_prefix _ _ _ _ c.loop-wanted.invariant.1)

pub enter-requires : goal.enter-requires
enter-requires c =
    let q = next_left c.args.fresh.now c.loop-wanted.wanted-index c.wanted-item.result c.loop-wanted-test.true c.wanted-item.is in
    (subst (λ z. fit most_id c.loop-wanted.self z) q c.loop-wanted.invariant.2).0

pub loop-wanted-preserved : goal.loop-wanted-preserved
loop-wanted-preserved c =
    let q = next_left c.args.fresh.now c.loop-wanted.wanted-index c.wanted-item.result c.loop-wanted-test.true c.wanted-item.is in
    declared_more c.args.link c.args.interest c.loop-wanted.self c.enter.new.self _ c.wanted-item.result (drop (c.loop-wanted.wanted-index + 1) c.args.fresh.now) _ _ _ c.loop-wanted.out.items c.say_declared.new.out.items
    c.in_ok-id.id q c.in_ok-id.ensures.map c.in_ok-id.ensures.id c.in_ok-say_declared.ensures.ok c.loop-wanted.invariant

pub returns-clause-map : goal.returns-clause-map
returns-clause-map c =
    let l : length c.args.fresh.now ≤ c.loop-wanted.wanted-index = omega arith in
    ap (λ z. fold entered c.loop-wanted.self z) (sym (drop_of_length-le c.args.fresh.now l)) ∙ c.loop-wanted.invariant.0

pub returns-clause-out : goal.returns-clause-out
returns-clause-out c =
    let l : length c.args.fresh.now ≤ c.loop-wanted.wanted-index = omega arith in
    so_far_all _ _ _
    (subst (λ z. IsSoFar c.args.out.now.items (sent_on c.args.link (declared c.args.interest c.args.self.now c.args.fresh.now)) c.loop-wanted.out.items (sent_on c.args.link (declared c.args.interest c.loop-wanted.self z)))
    (drop_of_length-le c.args.fresh.now l) c.loop-wanted.invariant.1)
