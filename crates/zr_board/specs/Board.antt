-- What a contract sees of a board.
use Rattle.std.specs.Prelude.{ℕ, length}
use Rattle.zr_outside.specs.declared.sink.Sink as sink
use Rattle.zr_ring.specs.declared.parcel.Note as note
use Rattle.zr_board.specs.declared.board.Board.{Board}

module _ {K N : Type 0} {s : sink.Ghosts K} {g : note.Ghosts N} where
  -- how many numbers have a place on it
  abbrev pub places_of : Board K N s g → ℕ
  places_of b = length b.places.items
