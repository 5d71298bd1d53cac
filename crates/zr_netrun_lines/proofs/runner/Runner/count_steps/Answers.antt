use Rattle.std.proofs.Common.{◌≡◌, false, ap, ◌∙◌}
use Rattle.zr_netrun_lines.specs.Kept.{Kept}
use Rattle.zr_netrun_lines.proofs.Room.{within_booked}
use Rattle.zr_netrun_lines.proofs.runner.Runner.count_steps.Goals as goal

pub invariant_of-self : goal.invariant_of-self
invariant_of-self g c =
    let alive : c.self.inside.world.spent ≡ false = ap (λ (k : Kept). k.world.spent) c.self.view_is ∙ c.requires.alive in (
      c.self.invariant.0,
      c.self.invariant.1,
      c.self.invariant.2,
      within_booked c.book.result c.self.inside.world c.book.new.self c.self.inside.number c.args.steps (c.book.ensures.books alive) alive c.self.invariant.3,
    )
