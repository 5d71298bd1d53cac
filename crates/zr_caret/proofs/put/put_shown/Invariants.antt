-- What is shown so far, and what is left, are all of it.
use Rattle.std.proofs.Common.{◌≡◌, ◌++◌, map, drop}
use Rattle.zr_caret.specs.Shown.{shown_byte}
use Rattle.zr_caret.proofs.put.put_shown.Given as goal

abbrev pub invariant-loop-byte : goal.invariant-loop-byte
invariant-loop-byte l = l.text.items ++ map shown_byte (drop l.byte-index l.bytes) ≡ l.fn.text.items ++ map shown_byte l.bytes
