-- What is appended and what is left are all, and there is room for what is left.
use Rattle.std.proofs.Common.{◌≡◌, ◌+◌, ◌≤◌, ◌++◌, length, drop}
use Rattle.std.specs.Vec.{vec_len, vec_capacity}
use Rattle.zr_frame_batch.proofs.incoming.append.Given as goal

abbrev pub invariant-loop-byte : goal.invariant-loop-byte
invariant-loop-byte l =
    (l.bytes.items ++ drop l.byte-index l.piece ≡ l.fn.bytes.items ++ l.piece)
    × (vec_len l.bytes + length (drop l.byte-index l.piece) ≤ vec_capacity l.bytes)
    × (vec_capacity l.bytes ≡ vec_capacity l.fn.bytes)
