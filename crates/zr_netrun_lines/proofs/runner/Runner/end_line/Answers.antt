use Rattle.std.proofs.Common.{refl, ◌≡◌, List, ℕ, ◌++◌, take, ap, ◌∙◌, subst}
use Rattle.zr_script_spec.specs.Lines.{most_kept}
use Rattle.zr_netrun_lines.specs.Kept.{Kept, KeepsRefused}
use Rattle.zr_netrun_lines.proofs.Refusing.{keeps_part}
use Rattle.zr_outside.proofs.Counting.{only_still}
use Rattle.zr_netrun_lines.specs.declared.runner.RunStop.TheVariants as stop
use Rattle.zr_netrun_lines.proofs.runner.Runner.end_line.Goals as goal

pub returns-clause-refused : goal.returns-clause-refused
returns-clause-refused g c =
    let whole : c.deref.result.now ≡ c.self-2.inside.line.items = cc (c.deref.ensures.value, c.replace-line.ensures.value) in
    let kept : c.self-2.inside.line.items ≡ take most_kept (c.args.self.now.line ++ c.args.part.now) = ap (λ (z : Kept). z.line) (c.self-2.view_is ∙ c.in_ok-keep_part.ensures.ok) in
    keeps_part c.apply_line-2.result (c.args.self.now.line ++ c.args.part.now) c.apply_line-2.new.self
    (subst (λ (l : List ℕ). KeepsRefused c.apply_line-2.result l c.apply_line-2.new.self) (whole ∙ kept) c.apply_line-2.ensures.refused)

pub returns-in_err-keep_part-clause-only : goal.returns-in_err-keep_part-clause-only
returns-in_err-keep_part-clause-only g c = only_still stop.WriteFault c.from_residual.result _ _ refl
