use Rattle.zr_world_lines.proofs.Cuts.{IsGathered}
use Rattle.zr_world_lines.proofs.lines.Lines.gather.Given as goal

abbrev pub invariant-loop-line : goal.invariant-loop-line
invariant-loop-line l = IsGathered (λ x. x.now) l.lines l.line-index l.lengths.items l.text.items
