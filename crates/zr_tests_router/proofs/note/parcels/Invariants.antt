use Rattle.std.proofs.Common.{◌≡◌, ◌-◌, ◌≤◌, length}
use Rattle.zr_ring.specs.Items.{GoOnFrom}
use Rattle.zr_tests_router.proofs.note.parcels.Given as goal

abbrev pub invariant-each : goal.invariant-each
invariant-each l = GoOnFrom l.fn.from l.all.items × (length l.all.items ≤ l.fn.count)

abbrev pub decreases-each : goal.decreases-each
decreases-each l = l.fn.count - length l.all.items
