-- The row is that of the pieces so far, the last one first.
use Rattle.std.proofs.Common.{take, reverse}
use Rattle.zr_key.specs.Key.{pieces_of}
use Rattle.zr_match.specs.Table.{table, piece_signs, IsRow}
use Rattle.zr_match.proofs.pieces.compare_rows.Given as goal

abbrev pub invariant-loop-x : goal.invariant-loop-x
invariant-loop-x l = IsRow (table (piece_signs l.expands) (reverse (pieces_of (take l.x-index l.first)))) (pieces_of l.second) l.row
