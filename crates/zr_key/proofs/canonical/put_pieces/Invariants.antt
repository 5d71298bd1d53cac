-- What is written and what the rest still writes are together what the chunk writes.
use Rattle.std.proofs.Common.{◌≡◌, ◌++◌, false, drop}
use Rattle.std.specs.List.{flat_map}
use Rattle.zr_key.specs.Expression.{piece_text}
use Rattle.zr_key.specs.Key.{single, pieces_of}
use Rattle.zr_key.proofs.canonical.put_pieces.Given as goal

abbrev pub invariant-loop-b : goal.invariant-loop-b
invariant-loop-b l = l.out.items ++ flat_map piece_text (single l.after (pieces_of (drop l.b-index l.chunk))) ≡ l.fn.out.items ++ flat_map piece_text (single false (pieces_of l.chunk))
