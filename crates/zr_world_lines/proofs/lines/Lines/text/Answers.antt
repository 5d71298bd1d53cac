use Rattle.std.proofs.Common.{ap, ◌∙◌}
use Rattle.std.specs.List.{concat}
use Rattle.zr_world_lines.proofs.Cuts.{joined}
use Rattle.zr_world_lines.proofs.lines.Lines.text.Goals as goal

pub returns : goal.returns
returns c = c.deref.ensures.value ∙ joined c.self.inside.lengths.items c.self.inside.text.items c.self.invariant ∙ ap concat c.self.view_is
