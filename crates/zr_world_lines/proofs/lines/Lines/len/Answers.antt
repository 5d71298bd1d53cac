use Rattle.std.proofs.Common.{◌≡◌, length, sym, ap, ◌∙◌, rules}
use Rattle.zr_world_lines.proofs.Cuts.{count}
use Rattle.zr_world_lines.proofs.lines.Lines.len.Goals as goal

pub returns : goal.returns
returns c =
    let long : c.len.result ≡ length c.self.inside.lengths.items = search rules in
    long ∙ sym (count c.self.inside.lengths.items c.self.inside.text.items) ∙ ap length c.self.view_is
