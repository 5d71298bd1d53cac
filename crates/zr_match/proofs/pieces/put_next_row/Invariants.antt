-- The row is on its way up to the pieces so far, and those that are left are those of the rest.
use Rattle.std.proofs.Common.{◌≡◌, ◌≤◌, List, drop}
use Rattle.zr_key.specs.Expression.{Piece}
use Rattle.zr_key.specs.Key.{pieces_of}
use Rattle.zr_match.specs.Table.{table, piece_signs, piece_of, IsRow}
use Rattle.zr_match.proofs.Rows.{OnTheWay}
use Rattle.zr_match.proofs.pieces.put_next_row.Given as goal

abbrev pub invariant-loop-y : goal.invariant-loop-y
invariant-loop-y l = record {
  place : l.at ≤ l.y-index;
  way : (above : List Piece) → IsRow (table (piece_signs l.expands) above) (pieces_of l.second) l.fn.row →
      OnTheWay (piece_signs l.expands) (piece_of l.x) (table (piece_signs l.expands) above) (pieces_of l.second) l.at l.row l.across;
  rest : drop l.at (pieces_of l.second) ≡ pieces_of (drop l.y-index l.second);
}
