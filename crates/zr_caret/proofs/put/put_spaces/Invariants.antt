-- As many spaces as turns.
use Rattle.std.proofs.Common.{◌≡◌, ◌++◌}
use Rattle.std.specs.Prelude.{replicate}
use Rattle.zr_caret.proofs.put.put_spaces.Given as goal

abbrev pub invariant-spaces : goal.invariant-spaces
invariant-spaces l = l.text.items ≡ l.fn.text.items ++ replicate l.counter 32
