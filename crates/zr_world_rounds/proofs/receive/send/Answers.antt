use Rattle.std.proofs.Common.{[], ◌∷◌, cond, sym, ap, ◌∙◌}
use Rattle.std.proofs.lemmas.Result.{on_ok_weaker}
use Rattle.zr_law_fan.specs.Samples.{tagged}
use Rattle.zr_id.specs.Zid.{is_named}
use Rattle.zr_world_gang.specs.Shares.{ShareState, to_router, to_client}
use Rattle.zr_world_spec.specs.World.{End}
use Rattle.zr_law_rounds.specs.Told.{went, went_weighs}
use Rattle.zr_world_rounds.proofs.Coming.{one_come, sent_one}
use Rattle.zr_world_rounds.proofs.receive.send.Goals as goal

pub returns-then-is_router : goal.returns-then-is_router
returns-then-is_router c =
    let e : End = (c.args.router, c.args.neighbour) in
    let m = tagged c.args.tag c.args.msg in
    let old = c.index-shares-place.result in
    on_ok_weaker c.pass.result
    (λ h.
    one_come (went c.args.is_router e (m ∷ [])) (went_weighs c.args.is_router e (m ∷ [])) c.args.shares.now c.in-Some.place old c.pass.new.self c.in-Some.ensures.within c.index-shares-place.is
    (sent_one c.args.is_router e c.args.msg c.args.tag old c.pass.new.self (ap (λ (s : ShareState). is_named c.args.router s.name) c.index-shares-place.is ∙ c.in-Some.ensures.named old)
    (h ∙ ap (λ (z : ShareState). to_router z c.args.neighbour c.args.msg c.args.tag) (sym c.index-shares-place.is) ∙ ap (λ b. cond b (to_router old c.args.neighbour c.args.msg c.args.tag) (to_client old c.args.neighbour c.args.msg c.args.tag)) (sym c.if-is_router.true))))
    c.pass.ensures

pub returns-else-is_router : goal.returns-else-is_router
returns-else-is_router c =
    let e : End = (c.args.router, c.args.neighbour) in
    let m = tagged c.args.tag c.args.msg in
    let old = c.index-shares-place.result in
    on_ok_weaker c.deliver.result
    (λ h.
    one_come (went c.args.is_router e (m ∷ [])) (went_weighs c.args.is_router e (m ∷ [])) c.args.shares.now c.in-Some.place old c.deliver.new.self c.in-Some.ensures.within c.index-shares-place.is
    (sent_one c.args.is_router e c.args.msg c.args.tag old c.deliver.new.self (ap (λ (s : ShareState). is_named c.args.router s.name) c.index-shares-place.is ∙ c.in-Some.ensures.named old)
    (h ∙ ap (λ (z : ShareState). to_client z c.args.neighbour c.args.msg c.args.tag) (sym c.index-shares-place.is) ∙ ap (λ b. cond b (to_router old c.args.neighbour c.args.msg c.args.tag) (to_client old c.args.neighbour c.args.msg c.args.tag)) (sym c.if-is_router.false))))
    c.deliver.ensures
