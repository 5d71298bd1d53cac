use Rattle.std.proofs.Common.{◌++◌, [], ◌∷◌, ap, ◌∙◌, arith}
use Rattle.zr_world_ends.specs.Kept.{KeptEnd}
use Rattle.zr_world_ends.proofs.Idle.{idle_more, idle_all}
use Rattle.zr_world_ends.proofs.waiting.idle_ends.Goals as goal

pub loop-named-preserved : goal.loop-named-preserved
loop-named-preserved c =
    c.in_ok-push.ensures.items ∙ ap (λ (z : KeptEnd). c.loop-named.idle.items ++ (c.named-item.result.0, z) ∷ []) c.idle.ensures
    ∙ idle_more c.args.ends.now c.loop-named.idle.items c.loop-named.named-index c.named-item.result (omega arith) c.named-item.is c.loop-named.invariant

pub returns : goal.returns
returns c = idle_all c.args.ends.now c.loop-named.idle.items c.loop-named.named-index (omega arith) c.loop-named.invariant
