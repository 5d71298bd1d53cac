use Rattle.std.proofs.Common.{ap, ◌∙◌}
use Rattle.std.proofs.lemmas.Result.{on_ok_weaker}
use Rattle.zr_world_gang.specs.Shares.{all_over}
use Rattle.zr_world_gang.proofs.share.Share.handle_one.Goals as goal

pub returns : goal.returns
returns c =
    on_ok_weaker c.send_all.result
    (λ h. (c.in_ok-out.out.items, c.in_ok-out.ensures.sends, h ∙ ap (λ z. all_over z c.args.waiting.tag c.in_ok-out.out.items) c.in_ok-out.ensures.heard)) c.send_all.ensures
