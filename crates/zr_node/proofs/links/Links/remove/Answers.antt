use Rattle.zr_node.proofs.Staying.{kept_down}
use Rattle.zr_node.proofs.links.Links.remove.Goals as goal

pub invariant_of-self : goal.invariant_of-self
invariant_of-self c =
    let kept = kept_down c.self.inside.all.items c.args.number.0 (c.self.invariant.0, c.self.invariant.1) in
    rw (c.take_out.ensures) (kept.0, kept.1, rw c.as_slice.ensures.value at c.forget_hint.ensures)
