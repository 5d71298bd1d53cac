use Rattle.std.proofs.Common.{ap, ◌∙◌}
use Rattle.zr_world_gang.specs.Shares.{ShareState, last_behind}
use Rattle.zr_world_gang.proofs.Texts.{last_text, no_text}
use Rattle.zr_world_gang.proofs.share.Share.last_line.Goals as goal

pub returns-in-Some : goal.returns-in-Some
returns-in-Some c =
    last_text c.self.inside.lines c.args.last.now c.in-Some.line.now c.in-Some.ensures
    ∙ ap (λ (z : ShareState). last_behind c.args.last.now z.lines) c.self.view_is

pub returns-in-None : goal.returns-in-None
returns-in-None c =
    no_text c.self.inside.lines c.args.last.now c.in-None.ensures
    ∙ ap (λ (z : ShareState). last_behind c.args.last.now z.lines) c.self.view_is
