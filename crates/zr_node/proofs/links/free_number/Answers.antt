use Rattle.std.proofs.Common.{sym, ap, ◌∙◌, arith}
use Rattle.zr_node.proofs.Free.{counted_all, counted_stops, counted_ends}
use Rattle.zr_node.proofs.links.free_number.Goals as goal

pub returns-then-link-free : goal.returns-then-link-free
returns-then-link-free c =
    sym (counted_stops c.args.links.now c.loop-link.link-index c.loop-link.free c.link-item.result (omega arith) (λ same. c.if-link-free.true (ap (λ p. p.link.0) c.link-item.is ∙ same)))
    ∙ c.loop-link.invariant.left ∙ counted_all c.args.links.now c.requires.ascending

pub returns : goal.returns
returns c = sym (counted_ends c.args.links.now c.loop-link.link-index c.loop-link.free (omega arith)) ∙ c.loop-link.invariant.left ∙ counted_all c.args.links.now c.requires.ascending
