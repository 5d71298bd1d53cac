use Rattle.zr_msg.specs.Decl.{decl_cmp}
use Rattle.zr_msg.specs.declared.decl.Decl.{Decl}
use Rattle.zr_lists.specs.Place.{IsAt}
use Rattle.zr_log_set.proofs.Decls.{weighs_enough, others_weigh}
use Rattle.zr_log_set.proofs.decl_set.DeclSet.weight_without.Goals as goal

pub overflow_sub-result : goal.overflow_sub-result
overflow_sub-result c =
    let at : IsAt decl_cmp (λ (d : Decl). d) c.self.inside.items.items c.args.decl.now c.in-Ok.field-0 = rw (← c.deref.ensures.value) c.in-Ok.ensures in
    rw c.decl_weight.ensures (weighs_enough c.self.inside.items.items c.args.decl.now c.in-Ok.field-0 c.self.inside.total at c.self.invariant)

pub returns-in-Ok : goal.returns-in-Ok
returns-in-Ok c =
    let at : IsAt decl_cmp (λ (d : Decl). d) c.self.inside.items.items c.args.decl.now c.in-Ok.field-0 = rw (← c.deref.ensures.value) c.in-Ok.ensures in
    rw (c.decl_weight.ensures, ← c.self.view_is) (others_weigh c.self.inside.items.items c.args.decl.now c.in-Ok.field-0 c.self.inside.total at c.self.invariant)
