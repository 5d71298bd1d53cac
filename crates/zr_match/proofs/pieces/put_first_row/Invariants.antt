-- The row is filled up to the pieces so far, and those that are left are those of the rest.
use Rattle.std.proofs.Common.{◌≡◌, ◌≤◌, length, drop}
use Rattle.zr_key.specs.Key.{pieces_of}
use Rattle.zr_match.specs.Table.{first_row, piece_signs}
use Rattle.zr_match.proofs.Rows.{UpTo}
use Rattle.zr_match.proofs.pieces.put_first_row.Given as goal

abbrev pub invariant-loop-y : goal.invariant-loop-y
invariant-loop-y l = record {
  place : l.at ≤ l.y-index;
  within : l.at ≤ length (pieces_of l.second);
  filled : UpTo (first_row (piece_signs l.expands)) (pieces_of l.second) l.at l.row;
  rest : drop l.at (pieces_of l.second) ≡ pieces_of (drop l.y-index l.second);
}
