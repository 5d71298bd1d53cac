use Rattle.std.proofs.Common.{◌≡◌, List, ℕ, subst}
use Rattle.zr_script_spec.specs.Lines.{unless_empty}
use Rattle.zr_netrun_lines.specs.Kept.{Kept, fresh, KeepsRefused, refused_line}
use Rattle.zr_netrun_lines.proofs.Refusing.{keeps_last}
use Rattle.zr_netrun_lines.proofs.runner.Runner.end_last_line.Goals as goal

pub returns-clause-refused : goal.returns-clause-refused
returns-clause-refused g c =
    let k : Kept = record { world = c.self.inside.world; number = c.self.inside.number; line = c.self.inside.line.items; pending = c.self.inside.pending.items; counts = c.self.inside.counts } in
    let whole : c.deref.result.now ≡ c.self.inside.line.items = cc (c.deref.ensures.value, c.replace-line.ensures.value) in
    rw (← c.self.view_is)
    (subst (λ (l : List ℕ). KeepsRefused c.apply_line.result (refused_line (fresh k) (unless_empty l)) c.apply_line.new.self) whole
    (keeps_last (fresh k) c.deref.result.now _ _ c.apply_line.new.self _ _ c.apply_line.result c.apply_line.ensures.turn c.apply_line.ensures.refused))
