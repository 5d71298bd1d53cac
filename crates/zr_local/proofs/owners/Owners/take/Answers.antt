use Rattle.zr_msg.specs.Decl.{decl_cmp}
use Rattle.zr_lists.specs.Place.{IsAt}
use Rattle.zr_local.specs.declared.owners.Owned.{Owned}
use Rattle.zr_local.specs.Owners.{owned_decl}
use Rattle.zr_local.proofs.Counts.{ascending_less, lowered}
use Rattle.zr_local.proofs.owners.Owners.take.Goals as goal

pub invariant_of-self : goal.invariant_of-self
invariant_of-self c =
    let at : IsAt decl_cmp owned_decl c.self.inside.items.items c.args.decl.now c.in-Ok.at = rw (← c.deref.ensures.value) c.in-Ok.ensures in
    let d : Owned = record { decl = c.args.decl.now; count = 0 } in
    rw (lowered c.self.inside.items.items c.args.decl.now c.in-Ok.at d c.lower.new.items.items at (c.lower.ensures d))
    (ascending_less c.self.inside.items.items c.args.decl.now c.self.invariant)

pub returns-in-Ok : goal.returns-in-Ok
returns-in-Ok c =
    let at : IsAt decl_cmp owned_decl c.self.inside.items.items c.args.decl.now c.in-Ok.at = rw (← c.deref.ensures.value) c.in-Ok.ensures in
    let d : Owned = record { decl = c.args.decl.now; count = 0 } in
    rw (← c.self.view_is) (lowered c.self.inside.items.items c.args.decl.now c.in-Ok.at d c.lower.new.items.items at (c.lower.ensures d))
