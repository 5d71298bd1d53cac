use Rattle.zr_log.proofs.Logs.{in_order_put}
use Rattle.zr_log.proofs.known.Known.keep.Goals as goal

pub invariant_of-self-2 : goal.invariant_of-self-2
invariant_of-self-2 c =
    (rw c.in_ok-put.ensures.ok (in_order_put c.self.inside.me c.self.inside.logs.items _ c.self.invariant.0 c.requires), c.in_ok-put.ensures.named)
