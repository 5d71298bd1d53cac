use Rattle.zr_log_set.proofs.Decls.{inside_weighed}
use Rattle.zr_log_set.proofs.decl_set.DeclSet.insert.Goals as goal

pub invariant_of-self-2 : goal.invariant_of-self-2
invariant_of-self-2 c =
    rw (c.in_ok-insert.ensures.items, c.in_ok-copy.ensures)
    (inside_weighed c.self.inside.items.items c.args.decl.now c.args.at c.self.inside.total c.in-Some.total (rw c.self.view_is c.requires) c.self.invariant
    (rw (← c.decl_weight.ensures) c.in-Some.ensures.1))
