use Rattle.std.specs.Ordering.{nat_cmp}
use Rattle.zr_lists.specs.Place.{IsAt}
use Rattle.zr_lists.proofs.Puts.{ascending_without, removed_at}
use Rattle.zr_lists.proofs.Order.{nat_order}
use Rattle.zr_local.specs.Interests.{interest_id}
use Rattle.zr_local.proofs.interest.Interests.forget.Goals as goal

pub invariant_of-self : goal.invariant_of-self
invariant_of-self c =
    let at : IsAt nat_cmp interest_id c.self.inside.items.items c.args.id c.in-Ok.at = rw (← c.deref.ensures.value) c.in-Ok.ensures in
    rw (c.remove.ensures.items, removed_at nat_cmp interest_id nat_order c.self.inside.items.items c.args.id c.in-Ok.at at)
    (ascending_without nat_cmp interest_id nat_order c.self.inside.items.items c.args.id c.self.invariant)

pub invariant_of-self-in-Ok-2 : goal.invariant_of-self-in-Ok-2
invariant_of-self-in-Ok-2 c =
    let at : IsAt nat_cmp interest_id c.self.inside.items.items c.args.id c.in-Ok.at = rw (← c.deref.ensures.value) c.in-Ok.ensures in
    rw (c.remove.ensures.items, removed_at nat_cmp interest_id nat_order c.self.inside.items.items c.args.id c.in-Ok.at at)
    (ascending_without nat_cmp interest_id nat_order c.self.inside.items.items c.args.id c.self.invariant)
