-- The row is filled up to the chunks so far, and those that are left are those of the rest.
use Rattle.std.proofs.Common.{◌≡◌, ◌≤◌, ◌+◌, length, drop, map}
use Rattle.std.specs.Option.{option_copied, option_map_or}
use Rattle.zr_lists.specs.Cut.{parts}
use Rattle.zr_key.specs.Key.{expression_of, chunk_of}
use Rattle.zr_match.specs.Table.{first_row, chunk_signs}
use Rattle.zr_match.proofs.Rows.{UpTo}
use Rattle.zr_match.proofs.chunks.put_first_row.Given as goal

abbrev pub invariant-loop-rest : goal.invariant-loop-rest
invariant-loop-rest l = record {
  within : l.at ≤ length (expression_of l.second);
  room : l.at + option_map_or (λ bytes. length bytes.now + 1) l.rest 0 ≤ length l.second + 1;
  filled : UpTo (first_row (chunk_signs l.expands)) (expression_of l.second) l.at l.row;
  rest : drop l.at (expression_of l.second) ≡ map chunk_of (parts 47 (option_copied l.rest));
}

abbrev pub decreases-loop-rest : goal.decreases-loop-rest
decreases-loop-rest l = option_map_or (λ bytes. length bytes.now + 1) l.rest 0
