use Rattle.std.proofs.Common.{◌≡◌, ap, ◌∙◌, arith}
use Rattle.std.specs.BTreeMap.{is_at}
use Rattle.std.specs.Map.{values_of}
use Rattle.std.specs.Ordering.{nat_cmp}
use Rattle.zr_places.proofs.Found.{stands}
use Rattle.zr_world_numbers.specs.Index.{how_often}
use Rattle.zr_world_numbers.proofs.Counted.{alone_goes}
use Rattle.zr_world_numbers.proofs.numbers.take_from.Goals as goal

pub returns-then-stands_at : goal.returns-then-stands_at
returns-then-stands_at c =
    let n = c.args.number in
    let es = c.args.items.now.entries in
    let s = stands (is_at (nat_cmp c.args.entry.place)) es n (c.stands_at.ensures c.if-stands_at.true) in
    let once : how_often n (values_of es) ≡ 1 = omega (arith, c.requires, c.if-entry-eq1.true) in
    ap values_of c.remove.ensures.entries ∙ s.gone ∙ alone_goes n (values_of es) s.at once s.within (s.here 0)
