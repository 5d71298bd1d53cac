use Rattle.std.proofs.Common.{All}
use Rattle.zr_wire.specs.Writable.{IsWritable}
use Rattle.zr_router.proofs.rests.parcel_each.Given as goal

abbrev pub invariant-loop : goal.invariant-loop
invariant-loop l = All (λ x. IsWritable x.1) l.sent.items
