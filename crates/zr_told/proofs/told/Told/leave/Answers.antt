use Rattle.std.proofs.Common.{◌==◌, cond, [], ap, ◌∙◌}
use Rattle.zr_told_spec.specs.Rows.{Maps, map_on}
use Rattle.zr_told.proofs.Links.{few_without, without_link}
use Rattle.zr_told.proofs.told.Told.leave.Goals as goal

pub returns : goal.returns
returns c = λ k. without_link c.args.link.0 k _ _ (c.remove.ensures.updates.0 k) ∙ ap (λ (z : Maps). cond (c.args.link.0 == k) [] (map_on z k)) c.self.view_is

pub invariant_of-self : goal.invariant_of-self
invariant_of-self c = few_without _ _ _ c.remove.ensures.entries c.self.invariant
