use Rattle.zr_msg.specs.Decl.{decl_cmp}
use Rattle.zr_lists.specs.Place.{IsAt, IsGap}
use Rattle.zr_local.specs.declared.owners.Owned.{Owned}
use Rattle.zr_local.specs.Owners.{owned_decl}
use Rattle.zr_local.proofs.Counts.{ascending_more, raised, ascending_inserted}
use Rattle.zr_local.proofs.owners.Owners.add.Goals as goal

pub invariant_of-self : goal.invariant_of-self
invariant_of-self c =
    let at : IsAt decl_cmp owned_decl c.self.inside.items.items c.args.decl.now c.in-Ok.at = rw (← c.deref.ensures.value) c.in-Ok.ensures in
    let d : Owned = record { decl = c.args.decl.now; count = 0 } in
    rw (raised c.self.inside.items.items c.args.decl.now c.in-Ok.at d c.raise.new.items.items at (c.in_ok-raise-in-Ok.ensures.ok d))
    (ascending_more c.self.inside.items.items c.args.decl.now c.self.invariant)

pub invariant_of-self-in-Continue-branch-3 : goal.invariant_of-self-in-Continue-branch-3
invariant_of-self-in-Continue-branch-3 c =
    let gap : IsGap decl_cmp owned_decl c.self.inside.items.items c.args.decl.now c.in-Err.at = rw (← c.deref.ensures.value) c.in-Err.ensures in
    rw (c.in_ok-insert-in-Err.ensures.items, c.in_ok-decl-in-Err.ensures) (ascending_inserted c.self.inside.items.items c.args.decl.now c.in-Err.at gap c.self.invariant)

pub returns-in_ok-raise-in-Ok-clause-ok : goal.returns-in_ok-raise-in-Ok-clause-ok
returns-in_ok-raise-in-Ok-clause-ok c =
    let at : IsAt decl_cmp owned_decl c.self.inside.items.items c.args.decl.now c.in-Ok.at = rw (← c.deref.ensures.value) c.in-Ok.ensures in
    let d : Owned = record { decl = c.args.decl.now; count = 0 } in
    rw (← c.self.view_is) (raised c.self.inside.items.items c.args.decl.now c.in-Ok.at d c.raise.new.items.items at (c.in_ok-raise-in-Ok.ensures.ok d))
