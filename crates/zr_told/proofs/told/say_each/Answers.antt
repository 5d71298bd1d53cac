use Rattle.std.proofs.Common.{◌+◌, ◌≤◌, Some, drop, length, map, subst, arith}
use Rattle.std.proofs.Math.ListN.{drop_of_length-le}
use Rattle.std.proofs.lemmas.Result.{err_from_is_err_and}
use Rattle.zr_lists.proofs.Prefixes.{IsSoFar, so_far_all, so_far_one, so_far_prefix}
use Rattle.zr_told_spec.specs.Rows.{sent_on}
use Rattle.zr_told_spec.specs.Told.{declares}
use Rattle.zr_told.proofs.Changed.{next_left}
use Rattle.zr_told.proofs.told.say_each.Goals as goal

pub loop-place-preserved : goal.loop-place-preserved
loop-place-preserved c =
    let w = c.place-item.result in
    let q = next_left c.args.places.now c.loop-place.place-index c.place-item.result c.loop-place-test.true c.place-item.is in
    so_far_one _ _ c.loop-place.out.items _ (c.args.link, declares 0 w.0.class w.0.key w.1 (Some c.args.interest))
    (sent_on c.args.link (map (λ w. declares 0 w.0.class w.0.key w.1 (Some c.args.interest)) (drop (c.loop-place.place-index + 1) c.args.places.now)))
    (subst (λ z. IsSoFar c.args.out.now.items (sent_on c.args.link (map (λ w. declares 0 w.0.class w.0.key w.1 (Some c.args.interest)) c.args.places.now)) c.loop-place.out.items (sent_on c.args.link (map (λ w. declares 0 w.0.class w.0.key w.1 (Some c.args.interest)) z))) q c.loop-place.invariant) c.in_ok-say_declared.ensures.ok

pub returns-clause-ok : goal.returns-clause-ok
returns-clause-ok c =
    let l : length c.args.places.now ≤ c.loop-place.place-index = omega arith in
    so_far_all _ _ _ (subst (λ z. IsSoFar c.args.out.now.items (sent_on c.args.link (map (λ w. declares 0 w.0.class w.0.key w.1 (Some c.args.interest)) c.args.places.now)) c.loop-place.out.items (sent_on c.args.link (map (λ w. declares 0 w.0.class w.0.key w.1 (Some c.args.interest)) z))) (drop_of_length-le c.args.places.now l) c.loop-place.invariant)

pub returns-in_err-say_declared-clause-err : goal.returns-in_err-say_declared-clause-err
returns-in_err-say_declared-clause-err c =
    let p = err_from_is_err_and c.from_residual.result c.from_residual.ensures.1 in
    rw (p.1, c.in_err-say_declared.ensures.err) (so_far_prefix _ _ _ _ c.loop-place.invariant)
