use Rattle.std.proofs.Common.{refl, arith}
use Rattle.zr_world_lines.proofs.Cuts.{gathered_next}
use Rattle.zr_world_lines.proofs.lines.Lines.gather.Goals as goal

pub loop-line-preserved : goal.loop-line-preserved
loop-line-preserved c =
    gathered_next (λ x. x.now) c.args.lines.now c.loop-line.line-index _ _ c.loop-line.lengths.items c.push.new.self.items c.loop-line.text.items c.extend_from_slice.new.self.items _
    (omega arith) refl refl c.loop-line.invariant c.in_ok-push.ensures.items c.in_ok-extend_from_slice.ensures.items
