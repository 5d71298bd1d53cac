use Rattle.std.proofs.Common.{◌+◌, ◌≤◌, [], ◌∷◌, ◌++◌, drop, length, subst, ap, ◌∙◌, arith}
use Rattle.std.proofs.Math.ListN.{drop_of_length-le}
use Rattle.std.proofs.lemmas.Result.{err_from_is_err_and}
use Rattle.zr_lists.proofs.Prefixes.{IsSoFar, so_far_all, so_far_one, so_far_prefix}
use Rattle.zr_told_spec.specs.Rows.{sent_on}
use Rattle.zr_told_spec.specs.Told.{id_at, undeclared, undeclares}
use Rattle.zr_told.proofs.Changed.{next_left}
use Rattle.zr_told.proofs.book.Book.undeclare_all.Goals as goal

pub loop-place-preserved : goal.loop-place-preserved
loop-place-preserved c =
    let m = c.args.self.now in
    let p = c.place-item.result in
    let q = next_left c.args.places.now c.loop-place.place-index c.place-item.result c.loop-place-test.true c.place-item.is in
    let e = c.undeclares.ensures ∙ ap (λ n. undeclares n p.class) c.id_at.ensures in
    so_far_one _ _ c.loop-place.out.items _ (c.args.link, undeclares (id_at m p) p.class) (sent_on c.args.link (undeclared m (drop (c.loop-place.place-index + 1) c.args.places.now)))
    (subst (λ z. IsSoFar c.args.out.now.items (sent_on c.args.link (undeclared m c.args.places.now)) c.loop-place.out.items (sent_on c.args.link (undeclared m z))) q c.loop-place.invariant)
    (c.in_ok-say.ensures.ok ∙ ap (λ z. c.loop-place.out.items ++ (c.args.link, z) ∷ []) e)

pub returns-clause-ok : goal.returns-clause-ok
returns-clause-ok c =
    let m = c.args.self.now in
    let l : length c.args.places.now ≤ c.loop-place.place-index = omega arith in
    so_far_all _ _ _
    (subst (λ z. IsSoFar c.args.out.now.items (sent_on c.args.link (undeclared m c.args.places.now)) c.loop-place.out.items (sent_on c.args.link (undeclared m z))) (drop_of_length-le c.args.places.now l) c.loop-place.invariant)

pub returns-in_err-say-clause-err : goal.returns-in_err-say-clause-err
returns-in_err-say-clause-err c =
    let p = err_from_is_err_and c.from_residual.result c.from_residual.ensures.1 in
    rw (p.1, c.in_err-say.ensures.err) (so_far_prefix _ _ _ _ c.loop-place.invariant)
