use Rattle.std.proofs.Common.{◌∙◌, ◌++◌, [], ap, rules}
use Rattle.zr_netrun_batches.specs.Coming.{coming}
use Rattle.zr_netrun_batches.specs.Line.{LineState}
use Rattle.zr_netrun_batches.proofs.Feeding.{nothing_came, nothing_coming}
use Rattle.zr_netrun_batches.proofs.line.Line.new.Goals as goal

pub returns : goal.returns
returns c =
    ap {B = LineState} (λ z. record { role = c.args.role; messages = z })
    (ap (λ z. z ++ coming c.args.session c.new-2.result) c.new-3.ensures.items ∙ ap (λ z. coming c.args.session z) c.new-2.ensures
    ∙ nothing_coming c.args.role c.args.outbox c.args.session c.requires)

pub invariant_of-result : goal.invariant_of-result
invariant_of-result c off = (search rules, rw c.new-3.ensures.items (nothing_came c.args.role c.args.outbox c.args.session [] c.requires))
