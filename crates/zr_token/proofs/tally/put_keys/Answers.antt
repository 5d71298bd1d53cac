use Rattle.std.proofs.Common.{◌≡◌, [], ◌∷◌, sym, subst}
use Rattle.std.proofs.lemmas.Result.{err_from_is_err_and}
use Rattle.zr_lists.specs.Prefix.{IsPrefixBehind}
use Rattle.zr_lists.proofs.Prefixes.{IsSoFar, so_far_all, so_far_nothing, so_far_one, so_far_prefix}
use Rattle.zr_token.proofs.tally.put_keys.Goals as goal

pub loop-text-init : goal.loop-text-init
loop-text-init c = subst (IsSoFar c.args.out.now.items c.args.texts.keys c.args.out.now.items) (sym c.into_iter-text-iterator.ensures.into_iter_gives.0) (so_far_nothing c.args.out.now.items c.args.texts.keys)

pub loop-text-preserved : goal.loop-text-preserved
loop-text-preserved c =
    let steps = c.in-Some.ensures.steps in
    let same = c.text.view_is in
    let step : c.loop-text.text-iterator ≡ c.text.inside.key ∷ c.next.new.self = cc in
    so_far_one c.args.out.now.items c.args.texts.keys c.loop-text.out.items c.push.new.self.items c.text.inside.key c.next.new.self
    (subst (IsSoFar c.args.out.now.items c.args.texts.keys c.loop-text.out.items) step c.loop-text.invariant) c.in_ok-push.ensures.items

pub returns-in_err-push-clause-err : goal.returns-in_err-push-clause-err
returns-in_err-push-clause-err c =
    let p = err_from_is_err_and c.from_residual.result c.from_residual.ensures.1 in
    rw p.1
    (subst (IsPrefixBehind c.args.out.now.items c.args.texts.keys) (sym c.in_err-push.ensures.items)
    (so_far_prefix c.args.out.now.items c.args.texts.keys c.loop-text.out.items c.loop-text.text-iterator c.loop-text.invariant))

pub returns-clause-ok : goal.returns-clause-ok
returns-clause-ok c =
    let steps = c.in-None.ensures.steps in
    let step : c.loop-text.text-iterator ≡ [] = cc in
    so_far_all c.args.out.now.items c.args.texts.keys c.loop-text.out.items (subst (IsSoFar c.args.out.now.items c.args.texts.keys c.loop-text.out.items) step c.loop-text.invariant)
