use Rattle.std.proofs.Common.{◌≡◌, ◌≤◌, ◌-◌, nat_le, true, length}
use Rattle.std.specs.List.{AllWithin}
use Rattle.zr_push_sought.proofs.client_rows.count_on.Given as goal

abbrev pub invariant-loop-link : goal.invariant-loop-link
invariant-loop-link l = record {
  within : l.count ≤ length l.rows;
  front : AllWithin (λ r. nat_le r.link.0 l.link.0 ≡ true) l.rows 0 l.count;
}

abbrev pub decreases-loop-link : goal.decreases-loop-link
decreases-loop-link l = length l.rows - l.count
