-- The numbers before `from` stand each at its own place, and those that aren't left don't.
use Rattle.std.proofs.Common.{◌+◌, ◌≤◌, length}
use Rattle.zr_pend_numbers.proofs.Rising.{IsGapAt}
use Rattle.zr_pend_numbers.proofs.used.gap_from.Given as goal

abbrev pub invariant-halves : goal.invariant-halves
invariant-halves l =
    IsGapAt l.numbers.items l.first l.from (l.from + l.left) × (l.first ≤ l.from) × (l.from + l.left ≤ length l.numbers.items)

abbrev pub decreases-halves : goal.decreases-halves
decreases-halves l = l.left
