use Rattle.std.proofs.Common.{◌≡◌, ℕ, List, [], ◌∷◌, ◌++◌, length, ap, ◌∙◌, rules}
use Rattle.std.proofs.lemmas.Result.{on_ok_weaker}
use Rattle.zr_script_spec.specs.declared.report.ReportLine.TheVariants.{Taken}
use Rattle.zr_script_spec.specs.Report.{line_text}
use Rattle.zr_world_lines.proofs.Adding.{line_added}
use Rattle.zr_world_lines.proofs.lines.Lines.add_taken.Goals as goal

pub returns : goal.returns
returns c =
    let line : List ℕ = line_text (Taken c.args.router.now c.args.to.now c.args.msg.now c.args.tag) in
    let begins : c.len-start.result ≡ length c.self.inside.text.items = search rules in
    on_ok_weaker c.end_line.result (λ h. h ∙ ap (λ (z : List (List ℕ)). z ++ line ∷ []) c.self.view_is)
    (line_added c.put_taken-put.result c.end_line.result c.self.inside.lengths.items c.end_line.new.lengths.items c.self.inside.text.items c.put_taken-put.new.out.items
    c.end_line.new.text.items line c.len-start.result begins c.self.invariant c.put_taken-put.ensures.ok c.end_line.ensures.put c.end_line.ensures.text c.end_line.ensures.length)
