use Rattle.std.proofs.Common.{◌==◌, cond, [], ap, ◌∙◌}
use Rattle.zr_pend_numbers.specs.Numbers.{Uses, used_on}
use Rattle.zr_pend_numbers.proofs.InUse.{forget_used, without_link}
use Rattle.zr_pend_numbers.proofs.numbers.Numbers.forget.Goals as goal

pub returns : goal.returns
returns c =
    forget_used c.args.self.now c.remove.new.self.entries c.args.link.0
    (λ k. without_link c.args.link.0 k _ _ (c.remove.ensures.updates.0 k) ∙ ap (λ (z : Uses). cond (c.args.link.0 == k) [] (used_on z k)) c.self.view_is)
