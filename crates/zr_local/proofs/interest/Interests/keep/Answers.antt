use Rattle.std.proofs.Common.{◌∙◌}
use Rattle.std.specs.Ordering.{nat_cmp}
use Rattle.zr_lists.specs.Place.{IsAt, IsGap}
use Rattle.zr_lists.proofs.Puts.{ascending_put, put_at, put_in}
use Rattle.zr_lists.proofs.Order.{nat_order}
use Rattle.zr_local.specs.Interests.{interest_id}
use Rattle.zr_local.proofs.interest.Interests.keep.Goals as goal

pub invariant_of-self : goal.invariant_of-self
invariant_of-self c =
    let at : IsAt nat_cmp interest_id c.self.inside.items.items c.args.interest.id c.in-Ok.at = rw (← c.deref.ensures.value) c.in-Ok.ensures in
    rw (c.exchange.ensures, put_at nat_cmp interest_id nat_order c.self.inside.items.items c.args.interest c.in-Ok.at at)
    (ascending_put nat_cmp interest_id nat_order c.self.inside.items.items c.args.interest c.self.invariant)

pub invariant_of-self-in-Err : goal.invariant_of-self-in-Err
invariant_of-self-in-Err c =
    let gap : IsGap nat_cmp interest_id c.self.inside.items.items c.args.interest.id c.in-Err.at = rw (← c.deref.ensures.value) c.in-Err.ensures in
    rw (c.in_ok-insert-in-Err.ensures.items, put_in nat_cmp interest_id nat_order c.self.inside.items.items c.args.interest c.in-Err.at gap)
    (ascending_put nat_cmp interest_id nat_order c.self.inside.items.items c.args.interest c.self.invariant)

pub returns-in-Ok-clause-ok : goal.returns-in-Ok-clause-ok
returns-in-Ok-clause-ok c =
    let at : IsAt nat_cmp interest_id c.self.inside.items.items c.args.interest.id c.in-Ok.at = rw (← c.deref.ensures.value) c.in-Ok.ensures in
    rw (← c.self.view_is) (c.exchange.ensures ∙ put_at nat_cmp interest_id nat_order c.self.inside.items.items c.args.interest c.in-Ok.at at)
