use Rattle.std.proofs.Common.{Result, Ok, Err, OnOk, OnErr, ap, ◌∙◌}
use Rattle.std.proofs.lemmas.Result.{err_from_is_err_and, on_ok_weaker, on_err_weaker}
use Rattle.zr_push_sought.specs.declared.sought.Sought.TheVariants.{Subscribers}
use Rattle.zr_lists.proofs.Prefixes.{all_said}
use Rattle.zr_push.specs.Route.{route_of}
use Rattle.zr_push.proofs.Along.{along_tells, along_prefix}
use Rattle.zr_push.proofs.push.push.Goals as goal

-- what holds in any case holds in each
ok_too : {X Y : Type 0} (r : Result X Y) {P : Type 0} → P → OnOk r P
ok_too (Ok x) p = p
ok_too (Err e) p = tt

err_too : {X Y : Type 0} (r : Result X Y) {P : Type 0} → P → OnErr r P
err_too (Ok x) p = tt
err_too (Err e) p = p

-- a route that is remembered

pub returns-in-Some-find-clause-ok : goal.returns-in-Some-find-clause-ok
returns-in-Some-find-clause-ok c = λ up at.
    on_ok_weaker _
    (along_tells c.args.tables.now c.args.from c.args.named c.in-Some.tree c.args.content.now up at c.in-Some.ensures c.stops.result.now
    (c.stops.ensures ∙ c.in-Some-find.ensures c.args.tables.now c.requires.routes ∙ ap (λ k. route_of c.args.tables.now c.in-Some.tree Subscribers k) c.key-key.ensures) _ _)
    c.send_along.ensures.ok

pub returns-in-Some-find-clause-err : goal.returns-in-Some-find-clause-err
returns-in-Some-find-clause-err c = λ up at.
    on_err_weaker _
    (along_prefix c.args.tables.now c.args.from c.args.named c.in-Some.tree c.args.content.now up at c.in-Some.ensures c.stops.result.now
    (c.stops.ensures ∙ c.in-Some-find.ensures c.args.tables.now c.requires.routes ∙ ap (λ k. route_of c.args.tables.now c.in-Some.tree Subscribers k) c.key-key.ensures) _ _)
    c.send_along.ensures.err

-- and one that is worked out

pub returns-in_err-send_along-clause-err : goal.returns-in_err-send_along-clause-err
returns-in_err-send_along-clause-err c = λ up at.
    let p = err_from_is_err_and c.from_residual-in_err-send_along.result c.from_residual-in_err-send_along.ensures.1 in
    rw p.1
    (along_prefix c.args.tables.now c.args.from c.args.named c.in-Some.tree c.args.content.now up at c.in-Some.ensures c.stops-2.result.now
    (c.stops-2.ensures ∙ c.in_ok-route.ensures.route ∙ ap (λ k. route_of c.args.tables.now c.in-Some.tree Subscribers k) c.key-key.ensures) _ _ c.in_err-send_along.ensures.err)

pub returns-clause-ok : goal.returns-clause-ok
returns-clause-ok c = λ up at.
    ok_too c.remember.result
    (along_tells c.args.tables.now c.args.from c.args.named c.in-Some.tree c.args.content.now up at c.in-Some.ensures c.stops-2.result.now
    (c.stops-2.ensures ∙ c.in_ok-route.ensures.route ∙ ap (λ k. route_of c.args.tables.now c.in-Some.tree Subscribers k) c.key-key.ensures) _ _ c.in_ok-send_along.ensures.ok)

pub returns-clause-err : goal.returns-clause-err
returns-clause-err c = λ up at.
    err_too c.remember.result
    (along_prefix c.args.tables.now c.args.from c.args.named c.in-Some.tree c.args.content.now up at c.in-Some.ensures c.stops-2.result.now
    (c.stops-2.ensures ∙ c.in_ok-route.ensures.route ∙ ap (λ k. route_of c.args.tables.now c.in-Some.tree Subscribers k) c.key-key.ensures) _ _ (all_said _ _ _ c.in_ok-send_along.ensures.ok))
