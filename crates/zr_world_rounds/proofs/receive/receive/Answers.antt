use Rattle.std.proofs.Common.{[], ◌∷◌, ◌++◌, sym, ap, ◌∙◌}
use Rattle.std.proofs.lemmas.Result.{on_ok_weaker}
use Rattle.zr_law_fan.specs.Samples.{Handling, tagged}
use Rattle.zr_id.specs.Zid.{is_named}
use Rattle.zr_world_gang.specs.Shares.{ShareState, with_input}
use Rattle.zr_law_rounds.specs.Told.{nothing}
use Rattle.zr_world_rounds.proofs.Coming.{one_come, received_one}
use Rattle.zr_world_rounds.proofs.receive.receive.Goals as goal

pub returns : goal.returns
returns c =
    let old = c.index-shares-place.result in
    on_ok_weaker c.receive.result
    (λ h.
    one_come (Handling (c.args.router, c.args.neighbour) (tagged c.args.tag c.args.msg) ∷ []) nothing c.args.shares.now c.in-Some.place old c.receive.new.self c.in-Some.ensures.within c.index-shares-place.is
    (received_one c.args.router c.args.neighbour h.0.link c.args.msg c.args.tag old c.receive.new.self (ap (λ (s : ShareState). is_named c.args.router s.name) c.index-shares-place.is ∙ c.in-Some.ensures.named old)
    (h.2 ∙ ap (λ (z : ShareState). with_input z (z.input ++ record { from = h.0.link; name = c.args.neighbour; msg = c.args.msg; tag = c.args.tag } ∷ [])) (sym c.index-shares-place.is))))
    c.receive.ensures
