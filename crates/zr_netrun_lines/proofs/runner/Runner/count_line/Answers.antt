use Rattle.std.proofs.Common.{◌≡◌, ◌≤◌, ap, ◌∙◌, arith}
use Rattle.zr_script_spec.specs.Lines.{most_bytes}
use Rattle.zr_netrun_lines.specs.Kept.{Kept}
use Rattle.zr_netrun_lines.proofs.Room.{within_later, room_later, room_far}
use Rattle.zr_netrun_lines.proofs.runner.Runner.count_line.Goals as goal

pub invariant_of-self : goal.invariant_of-self
invariant_of-self g c = (c.self.invariant.0, c.self.invariant.1, c.self.invariant.2, within_later c.self.inside.world c.self.inside.number c.self.invariant.3)

pub returns-clause-room : goal.returns-clause-room
returns-clause-room g c = λ alive. room_later c.self.inside.world c.self.inside.number c.self.invariant.3 (ap (λ (k : Kept). k.world.spent) c.self.view_is ∙ alive)

pub returns-clause-few : goal.returns-clause-few
returns-clause-few g c = λ alive.
    let same : c.self.inside.number ≡ c.args.self.now.number = ap (λ (k : Kept). k.number) c.self.view_is in
    let short : c.self.inside.number ≤ most_bytes = omega (arith, same, c.requires.room) in
    room_far c.self.inside.world c.self.inside.number c.self.invariant.3 (ap (λ (k : Kept). k.world.spent) c.self.view_is ∙ alive) short
