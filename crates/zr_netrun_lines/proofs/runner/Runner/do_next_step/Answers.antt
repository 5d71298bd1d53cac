use Rattle.std.proofs.Common.{◌≡◌, ◌∙◌, false, ap}
use Rattle.zr_netrun_lines.specs.Kept.{Kept}
use Rattle.zr_netrun_lines.proofs.Fitting.{next_fits}
use Rattle.zr_netrun_lines.proofs.runner.Runner.do_next_step.Goals as goal

pub do_act-requires-clause-fit : goal.do_act-requires-clause-fit
do_act-requires-clause-fit g c =
    let alive : c.self.inside.world.spent ≡ false = ap (λ (k : Kept). k.world.spent) c.self.view_is ∙ c.requires.alive in
    next_fits c.self.inside.world.state c.in-Some.step (c.in-Some.ensures.step alive)
