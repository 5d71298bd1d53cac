use Rattle.std.proofs.Common.{None}
use Rattle.zr_frame.proofs.Lengths.{good_packed}
use Rattle.zr_frame.proofs.laws.parcels_are_short.Goals as goal

pub returns : goal.returns
returns c o messages h =
    let good = good_packed messages o None h tt in
    (good.short, good.outbox)
