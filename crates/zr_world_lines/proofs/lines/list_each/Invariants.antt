use Rattle.zr_world_lines.proofs.Cuts.{IsListed}
use Rattle.zr_world_lines.proofs.lines.list_each.Given as goal

abbrev pub invariant-loop-size : goal.invariant-loop-size
invariant-loop-size l = IsListed (λ x. x.now) l.lengths l.text l.fn.others.items l.size-index l.all.items l.rest
