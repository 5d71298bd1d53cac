use Rattle.std.proofs.Common.{◌≡◌, ap, arith}
use Rattle.std.specs.Ordering.{nat_cmp}
use Rattle.zr_lists.specs.Ascending.{without}
use Rattle.zr_lists.specs.Place.{IsAt, IsGap}
use Rattle.zr_local.specs.Interests.{interest_id, interests_weight}
use Rattle.zr_local.proofs.Live.{interest_apart}
use Rattle.zr_local.proofs.interest.Interests.weight_of.Goals as goal

pub returns-in-Ok : goal.returns-in-Ok
returns-in-Ok c =
    let at : IsAt nat_cmp interest_id c.self.inside.items.items c.args.id c.in-Ok.at = rw (← c.deref.ensures.value) c.in-Ok.ensures in
    rw (← c.self.view_is) (omega (arith, c.weight.ensures, interest_apart c.self.inside.items.items c.args.id c.in-Ok.at c.index.result.now at c.index.ensures))

pub returns-in-Err : goal.returns-in-Err
returns-in-Err c =
    let gap : IsGap nat_cmp interest_id c.self.inside.items.items c.args.id c.in-Err.field-0 = rw (← c.deref.ensures.value) c.in-Err.ensures in
    let same : interests_weight (without nat_cmp interest_id c.self.inside.items.items c.args.id) ≡ interests_weight c.self.inside.items.items = ap interests_weight gap.others in
    rw (← c.self.view_is) (omega (arith, same))
