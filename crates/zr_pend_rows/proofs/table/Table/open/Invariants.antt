-- The branches so far and those of the links that are left are all; no link that is left is full.
use Rattle.std.proofs.Common.{◌≡◌, ◌++◌, false, drop}
use Rattle.std.specs.List.{list_any}
use Rattle.zr_pend_spec.specs.Pending.{opened, is_full}
use Rattle.zr_pend_rows.proofs.table.Table.open.Given as goal

abbrev pub invariant-loop-link : goal.invariant-loop-link
invariant-loop-link l =
    (l.branches.items ++ opened l.self (drop l.link-index l.to) ≡ opened l.self l.to) × (list_any (λ k. is_full k l.self) (drop l.link-index l.to) ≡ false)
