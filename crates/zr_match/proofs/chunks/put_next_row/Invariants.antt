-- The row is on its way up to the chunks so far, and those that are left are those of the rest.
use Rattle.std.proofs.Common.{◌≡◌, ◌≤◌, ◌+◌, List, length, drop, map}
use Rattle.std.specs.Option.{option_copied, option_map_or}
use Rattle.zr_lists.specs.Cut.{parts}
use Rattle.zr_key.specs.Expression.{Chunk}
use Rattle.zr_key.specs.Key.{expression_of, chunk_of}
use Rattle.zr_match.specs.Table.{table, chunk_signs, IsRow}
use Rattle.zr_match.proofs.Rows.{OnTheWay}
use Rattle.zr_match.proofs.chunks.put_next_row.Given as goal

abbrev pub invariant-loop-rest : goal.invariant-loop-rest
invariant-loop-rest l = record {
  room : l.at + option_map_or (λ bytes. length bytes.now + 1) l.rest 0 ≤ length l.second + 1;
  way : (above : List Chunk) → IsRow (table (chunk_signs l.expands) above) (expression_of l.second) l.fn.row →
      OnTheWay (chunk_signs l.expands) (chunk_of l.x) (table (chunk_signs l.expands) above) (expression_of l.second) l.at l.row l.across;
  rest : drop l.at (expression_of l.second) ≡ map chunk_of (parts 47 (option_copied l.rest));
}

abbrev pub decreases-loop-rest : goal.decreases-loop-rest
decreases-loop-rest l = option_map_or (λ bytes. length bytes.now + 1) l.rest 0
