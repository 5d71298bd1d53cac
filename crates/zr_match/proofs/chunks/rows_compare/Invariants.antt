-- The row is that of the chunks so far, the last one first.
use Rattle.std.proofs.Common.{◌≡◌, ◌++◌, ◌+◌, List, length, reverse, map}
use Rattle.std.specs.Option.{option_copied, option_map_or}
use Rattle.zr_lists.specs.Cut.{parts}
use Rattle.zr_key.specs.Expression.{Chunk}
use Rattle.zr_key.specs.Key.{expression_of, chunk_of}
use Rattle.zr_match.specs.Table.{table, chunk_signs, IsRow}
use Rattle.zr_match.proofs.chunks.rows_compare.Given as goal

abbrev pub invariant-loop-rest : goal.invariant-loop-rest
invariant-loop-rest l = (front : List Chunk) × (expression_of l.first ≡ front ++ map chunk_of (parts 47 (option_copied l.rest))) × IsRow (table (chunk_signs l.expands) (reverse front)) (expression_of l.second) l.row

abbrev pub decreases-loop-rest : goal.decreases-loop-rest
decreases-loop-rest l = option_map_or (λ bytes. length bytes.now + 1) l.rest 0
