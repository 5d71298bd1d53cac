use Rattle.std.proofs.Common.{◌≡◌, [], List, drop, ap, arith}
use Rattle.std.proofs.Math.ListN.{drop_of_length-le}
use Rattle.std.specs.List.{sum_by}
use Rattle.zr_log.specs.declared.log.Log.{Log}
use Rattle.zr_router_core.specs.Room.{foreign_count}
use Rattle.zr_router_core.proofs.counts.count_foreign.Goals as goal

pub returns : goal.returns
returns c =
    let none : drop c.loop-log.log-index c.args.logs.now ≡ [] = drop_of_length-le c.args.logs.now c.loop-log-test.false in
    let zero : sum_by (foreign_count c.args.me) (drop c.loop-log.log-index c.args.logs.now) ≡ 0 = ap (λ (ls : List Log). sum_by (foreign_count c.args.me) ls) none in
    omega (arith, zero, c.loop-log.invariant.counted, c.loop-log.invariant.small)
