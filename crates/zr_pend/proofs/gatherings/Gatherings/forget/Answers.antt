use Rattle.std.proofs.Common.{◌==◌, ◌∙◌, not, ap, arith}
use Rattle.zr_pend_spec.specs.Held.{gatherings_off, held_weight}
use Rattle.zr_pend_spec.proofs.Gathered.{differ_kept, parts_weigh}
use Rattle.zr_pend.proofs.gatherings.Gatherings.forget.Goals as goal

pub invariant_of-self : goal.invariant_of-self
invariant_of-self c =
    let held = c.self.inside.items.items in
    let link = c.args.link in
    rw c.leave.ensures (
      differ_kept (λ g. not (g.asker.link.0 == link.0)) held c.self.invariant.0,
      c.weight_off-self-inside.ensures ∙ ap (λ gs. held_weight (gatherings_off gs link)) c.deref.ensures.value,
      omega (arith, c.self.invariant.2, parts_weigh link.0 held),
    )
