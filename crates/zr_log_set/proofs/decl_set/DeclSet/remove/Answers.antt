use Rattle.zr_msg.specs.Decl.{decl_cmp}
use Rattle.zr_msg.specs.declared.decl.Decl.{Decl}
use Rattle.zr_lists.specs.Place.{IsAt}
use Rattle.zr_log_set.proofs.Decls.{weighs_enough, without_weighed}
use Rattle.zr_log_set.proofs.decl_set.DeclSet.remove.Goals as goal

pub overflow_sub-self : goal.overflow_sub-self
overflow_sub-self c =
    let at : IsAt decl_cmp (λ (d : Decl). d) c.self.inside.items.items c.args.decl.now c.in-Ok.at = rw (← c.deref.ensures.value) c.in-Ok.ensures in
    rw c.decl_weight.ensures (weighs_enough c.self.inside.items.items c.args.decl.now c.in-Ok.at c.self.inside.total at c.self.invariant)

pub invariant_of-self : goal.invariant_of-self
invariant_of-self c =
    let at : IsAt decl_cmp (λ (d : Decl). d) c.self.inside.items.items c.args.decl.now c.in-Ok.at = rw (← c.deref.ensures.value) c.in-Ok.ensures in
    rw (c.remove.ensures.items, c.decl_weight.ensures)
    (without_weighed c.self.inside.items.items c.args.decl.now c.in-Ok.at c.self.inside.total at c.self.invariant)
