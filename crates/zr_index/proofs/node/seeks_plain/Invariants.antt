-- The chunks so far have passed, and those that are left are those of the rest.
use Rattle.std.proofs.Common.{◌≡◌, ◌≤◌, ◌+◌, length}
use Rattle.std.specs.Option.{option_copied, option_map_or}
use Rattle.zr_lists.specs.Cut.{parts}
use Rattle.zr_key.specs.Key.{chunks}
use Rattle.zr_index.specs.Walk.{seeks_plain}
use Rattle.zr_index.proofs.node.seeks_plain.Given as goal

abbrev pub invariant-loop-rest : goal.invariant-loop-rest
invariant-loop-rest l = record {
  room : l.at + option_map_or (λ bytes. length bytes.now + 1) l.rest 0 ≤ length l.key + 1;
  is : seeks_plain l.row.marks.items 0 (chunks l.key) ≡ seeks_plain l.row.marks.items l.at (parts 47 (option_copied l.rest));
}

abbrev pub decreases-loop-rest : goal.decreases-loop-rest
decreases-loop-rest l = option_map_or (λ bytes. length bytes.now + 1) l.rest 0
